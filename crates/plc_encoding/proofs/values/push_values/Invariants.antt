use Rattle.std.proofs.Common.{◌≡◌, ◌+◌, drop}
use Rattle.std.specs.List.{sum_by}
use Rattle.plc_lang.specs.Numbering.{values_in}
use Rattle.plc_symbolic.specs.Numbering.{written_all}
use Rattle.plc_encoding.specs.Items.{values_from}
use Rattle.plc_encoding.proofs.values.push_values.Given as goal

abbrev pub invariant-loop-g : goal.invariant-loop-g
invariant-loop-g l = record {
  clauses : written_all l.initial.out (values_from 0 0 l.ghosts l.nodes)
      ≡ written_all l.out (values_from l.g l.first (drop l.g l.ghosts) l.nodes);
  values : l.first + sum_by values_in (drop l.g l.ghosts) ≡ sum_by values_in l.ghosts;
}
