use Rattle.std.proofs.Common.{sym, ap, ◌∙◌, get_or, Some, None}
use Rattle.std.specs.Option.{option_copied}
use Rattle.plc_gc.specs.contracts.state.State.{the_view}
use Rattle.plc_gc.proofs.Kept.{named_held}
use Rattle.plc_gc.proofs.state.State.named.Goals as goal

pub returns-in-Some-held : goal.returns-in-Some-held
returns-in-Some-held c =
    let e = sym (ap option_copied c.in-Some-held.is) ∙ c.held.ensures ∙ ap (λ xs. get_or xs c.in-Some.t None) c.deref.ensures.value in
    rw (c.in-Some.is, ← c.self.view_is)
    (c.named.ensures ∙ named_held (the_view c.self.inside) c.in-Some.t c.args.i (Some c.in-Some-held.l.now) e)

pub returns-in-None : goal.returns-in-None
returns-in-None c =
    let e = sym (ap option_copied c.in-None.is) ∙ c.held.ensures ∙ ap (λ xs. get_or xs c.in-Some.t None) c.deref.ensures.value in
    rw (c.in-Some.is, ← c.self.view_is)
    (c.null-in-None.ensures ∙ named_held (the_view c.self.inside) c.in-Some.t c.args.i None e)
