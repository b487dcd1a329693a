use Rattle.std.proofs.Common.{sym, ap, ◌∙◌, get_or, Some, None}
use Rattle.std.specs.Option.{option_copied}
use Rattle.plc_gc.specs.contracts.state.State.{the_view}
use Rattle.plc_gc.proofs.Kept.{pointer_held}
use Rattle.plc_gc.proofs.state.State.pointer.Goals as goal

pub returns-in-Some : goal.returns-in-Some
returns-in-Some c =
    let e = sym (ap option_copied c.in-Some.is) ∙ c.held.ensures
    ∙ ap (λ xs. get_or xs c.args.t None) c.deref.ensures.value in
    rw (← c.self.view_is) (c.pointer.ensures
    ∙ pointer_held (the_view c.self.inside) c.args.t c.args.v (Some c.in-Some.l.now) e)

pub returns-in-None : goal.returns-in-None
returns-in-None c =
    let e = sym (ap option_copied c.in-None.is) ∙ c.held.ensures
    ∙ ap (λ xs. get_or xs c.args.t None) c.deref.ensures.value in
    rw (← c.self.view_is) (c.null.ensures ∙ pointer_held (the_view c.self.inside) c.args.t c.args.v None e)
