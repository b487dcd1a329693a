use Rattle.std.proofs.Common.{◌≡◌, flat_map, drop}
use Rattle.plc_symbolic.specs.Numbering.{written_all}
use Rattle.plc_encoding.specs.Items.{instances}
use Rattle.plc_encoding.proofs.instances.push_invariants.Given as goal

abbrev pub invariant-loop-clause : goal.invariant-loop-clause
invariant-loop-clause l =
    written_all l.initial.out (flat_map (instances l.w.ghosts.now l.w.setting.now l.w.owner) l.clauses)
    ≡ written_all l.out (flat_map (instances l.w.ghosts.now l.w.setting.now l.w.owner) (drop l.clause-index l.clauses))
