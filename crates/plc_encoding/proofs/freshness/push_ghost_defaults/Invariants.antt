use Rattle.std.proofs.Common.{◌≡◌, ◌+◌, drop}
use Rattle.std.specs.List.{sum_by}
use Rattle.plc_lang.specs.Numbering.{values_in}
use Rattle.plc_symbolic.specs.Numbering.{written_all}
use Rattle.plc_encoding.specs.Items.{ghost_defaults_from}
use Rattle.plc_encoding.proofs.freshness.push_ghost_defaults.Given as goal

abbrev pub invariant-loop-g : goal.invariant-loop-g
invariant-loop-g l = record {
  clauses : written_all l.initial.out (ghost_defaults_from 0 0 l.ghosts)
      ≡ written_all l.out (ghost_defaults_from l.g l.first (drop l.g l.ghosts));
  values : l.first + sum_by values_in (drop l.g l.ghosts) ≡ sum_by values_in l.ghosts;
}
