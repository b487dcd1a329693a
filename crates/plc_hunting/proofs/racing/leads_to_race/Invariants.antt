use Rattle.std.proofs.Common.{◌≡◌, false, drop}
use Rattle.plc_run.specs.Position.{threads_of, IsOfRun}
use Rattle.plc_explore.specs.Racing.{LeadsToRace}
use Rattle.plc_hunting.proofs.racing.leads_to_race.Given as goal

abbrev pub invariant-loop-k : goal.invariant-loop-k
invariant-loop-k l = record {
  many : threads_of l.config ≡ threads_of l.fn.config;
  of_run : IsOfRun l.flow l.observer l.config;
  goes : l.config.ended ≡ false;
  told : LeadsToRace l.flow l.observer (threads_of l.fn.config) l.config.here (drop l.k l.moves) → LeadsToRace l.flow l.observer (threads_of l.fn.config) l.fn.config.here l.moves;
  back : LeadsToRace l.flow l.observer (threads_of l.fn.config) l.fn.config.here l.moves → LeadsToRace l.flow l.observer (threads_of l.fn.config) l.config.here (drop l.k l.moves);
}
