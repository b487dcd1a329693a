use Rattle.std.proofs.Common.{◌<◌, sym, subst}
use Rattle.plc_gc.specs.declared.slot.Map.TheVariants.{Mark as mark_field}
use Rattle.plc_gc.specs.State.{update}
use Rattle.plc_gc.specs.Primitives.{node_at}
use Rattle.plc_gc.proofs.Ranges.{small_at}
use Rattle.plc_gc.proofs.Views.{updates}
use Rattle.plc_gc.proofs.state.State.write_field.Goals as goal

pub update-requires-2-clause-made : goal.update-requires-2-clause-made
update-requires-2-clause-made c =
    let k = node_at c.args.self.now c.args.t c.args.p in
    let small = small_at c.args.self.now c.args.t c.args.p c.requires.ranges in
    rw (c.update.ensures, c.node-at.ensures)
    (subst (λ n. k < n) (sym ((updates c.args.self.now (mark_field c.args.f.0) k c.args.mark).count small)) small)

pub update-requires-2-clause-there : goal.update-requires-2-clause-there
unfolding update
update-requires-2-clause-there c = rw (c.update.ensures) c.requires.there
