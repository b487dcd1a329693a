use Rattle.std.proofs.Common.{◌∙◌}
use Rattle.plc_gc.specs.contracts.state.State.{the_view}
use Rattle.plc_gc.proofs.Kept.{looked, row_there, row_past}
use Rattle.plc_gc.proofs.state.State.entry.Goals as goal

pub returns-in-Some : goal.returns-in-Some
returns-in-Some c =
    let there = rw c.deref.ensures.value at (looked c.deref.result.now c.args.node c.in-Some.row.now c.in-Some.ensures.lookup.0 c.in-Some.ensures.lookup.1) in
    rw (← c.self.view_is) (c.entry.ensures ∙ row_there (the_view c.self.inside) c.args.map c.args.node c.in-Some.row.now there)

pub returns-in-None : goal.returns-in-None
returns-in-None c =
    let large = rw c.deref.ensures.value at c.in-None.ensures.lookup.0 in
    rw (← c.self.view_is) (row_past (the_view c.self.inside) c.args.map c.args.node large)
