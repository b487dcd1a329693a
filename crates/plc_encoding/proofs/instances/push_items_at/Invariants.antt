use Rattle.std.proofs.Common.{◌≡◌, flat_map, drop}
use Rattle.plc_symbolic.specs.Numbering.{written_all}
use Rattle.plc_encoding.specs.Bounds.{clauses_in}
use Rattle.plc_encoding.specs.Items.{instances}
use Rattle.plc_encoding.proofs.instances.push_items_at.Given as goal

abbrev pub invariant-loop-item : goal.invariant-loop-item
invariant-loop-item l =
    written_all l.initial.out (flat_map (instances l.w.ghosts.now l.w.setting.now l.w.owner) (clauses_in l.flow l.point l.items))
    ≡ written_all l.out (flat_map (instances l.w.ghosts.now l.w.setting.now l.w.owner) (clauses_in l.flow l.point (drop l.item-index l.items)))
