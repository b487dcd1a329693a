use Rattle.std.proofs.Common.{refl, sym, ap, ◌∙◌, get_or, Some, None}
use Rattle.std.specs.Option.{option_copied}
use Rattle.plc_gc.specs.State.{value}
use Rattle.plc_gc.specs.contracts.state.State.{the_view}
use Rattle.plc_gc.proofs.Kept.{data_held}
use Rattle.plc_gc.proofs.state.State.value.Goals as goal

pub returns-in-Shared : goal.returns-in-Shared
unfolding value
returns-in-Shared c = rw (c.in-Shared.is, c.pointer_at.ensures, c.deref.ensures.value, ← c.self.view_is) refl

pub returns-in-SharedMark : goal.returns-in-SharedMark
unfolding value
returns-in-SharedMark c =
    rw (
      c.in-SharedMark.is,
      c.pointer_at-in-SharedMark.ensures,
      c.deref-in-SharedMark.ensures.value,
      ← c.self.view_is,
    ) refl

pub returns-in-Local : goal.returns-in-Local
unfolding value
returns-in-Local c = rw (c.in-Local.is, c.pointer.ensures) refl

pub returns-in-LocalMark : goal.returns-in-LocalMark
unfolding value
returns-in-LocalMark c = rw (c.in-LocalMark.is, c.pointer-in-LocalMark.ensures) refl

pub returns-in-Some : goal.returns-in-Some
returns-in-Some c =
    let e = sym (ap option_copied c.in-Some.is) ∙ c.held.ensures
    ∙ ap (λ xs. get_or xs c.in-Data.t None) c.deref-in-Data.ensures.value in
    rw (c.in-Data.is, ← c.self.view_is)
    (c.value.ensures ∙ data_held (the_view c.self.inside) c.in-Data.t c.in-Data.x (Some c.in-Some.l.now) e)

pub returns-in-None : goal.returns-in-None
returns-in-None c =
    let e = sym (ap option_copied c.in-None.is) ∙ c.held.ensures
    ∙ ap (λ xs. get_or xs c.in-Data.t None) c.deref-in-Data.ensures.value in
    rw (c.in-Data.is, ← c.self.view_is) (data_held (the_view c.self.inside) c.in-Data.t c.in-Data.x None e)
