-- Environments that stay met whatever other threads and the reclaimer do: an own step ends in such a one.
use Rattle.std.specs.Prelude.{◌≡◌, ◌&&◌, ℕ, Bool, true, false, not, Some}
use Rattle.plc_base.specs.Mask.{has, within}
use Rattle.plc_lang.specs.declared.syntax.Var.TheVariants.{Shared, Local}
use Rattle.plc_auto.specs.declared.event.EvKind.{EvKind}
use Rattle.plc_auto.specs.declared.observer.Observer.{Observer}
use Rattle.plc_auto.specs.Table.{step}
use Rattle.plc_auto.specs.Sets.{safe, happens}
use Rattle.plc_auto.specs.Laws.{is_retirement}
use Rattle.plc_type.specs.declared.guarantee.Guar.{Guar}
use Rattle.plc_type.specs.declared.env.PtrType.{PtrType}
use Rattle.plc_type.specs.declared.env.Env.{Env}
use Rattle.plc_type.specs.Guarantees.{is_safe, is_active, is_local}
use Rattle.plc_type.specs.Types.{bare}
use Rattle.plc_xfer.specs.Rules.{type_of}

-- what may happen meanwhile to an address that such a pointer holds: without S a free of it too,
-- with L no retirement of it
abbrev pub may_happen : Guar → EvKind → Bool → Bool
may_happen g kind on_this =
    happens (not (is_safe g)) kind on_this && not (is_local g && (is_retirement kind && on_this))

-- the locations are closed under what may happen; with S nothing may free the address; A stands beside
-- L alone
pub record TypeIsCalm (o : Observer) (t : PtrType) : Type 0 where
  pub closed : (l k : ℕ) (kind : EvKind) (on_this : Bool) → has t.m l ≡ true → may_happen t.g kind on_this ≡ true
      → step o l kind false on_this ≡ Some k → has t.m k ≡ true
  pub kept : is_safe t.g ≡ true → within t.m (safe o) ≡ true
  pub active_local : is_active t.g ≡ true → is_local t.g ≡ true

-- each local is so; shared pointers say nothing but where any address may stand, and that is so too
pub record IsCalm (o : Observer) (e : Env) : Type 0 where
  pub locals : (v : ℕ) → TypeIsCalm o (type_of e (Local v))
  pub shared : (i : ℕ) → type_of e (Shared i) ≡ bare e.w
  pub anywhere : TypeIsCalm o (bare e.w)
