-- The table of garbage-collected states agrees with what each primitive goes through.
use Rattle.std.proofs.Common.{◌≡◌, ℕ, Option, IfSome, refl, subst}
use Rattle.plc_lang.specs.declared.syntax.Var.{Var}
use Rattle.plc_lang.specs.declared.syntax.Primitive.{Primitive}
use Rattle.plc_lang.specs.declared.syntax.Primitive.TheVariants.{Load, Store, StoreNull, DataLoad, DataStore, RefreshLoad, RefreshStore}
use Rattle.plc_lang.specs.Facts.{accessed}
use Rattle.plc_gc.specs.State.{GcState}
use Rattle.plc_gc.specs.Primitives.{some_node, goes}
use Rattle.plc_gc.specs.Laws.{CollectedAccessesAgree}

goes_through : (g : GcState) (t : ℕ) (k : Primitive) → IfSome (accessed k) (λ q. goes g t k ≡ some_node g t q)
goes_through g t (Load p q f) = refl
goes_through g t (Store p f q) = refl
goes_through g t (StoreNull p f) = refl
goes_through g t (DataLoad x q f) = refl
goes_through g t (DataStore p f e) = refl
goes_through g t (RefreshLoad p q f) = refl
goes_through g t (RefreshStore p f q) = refl
goes_through g t k = tt

pub agreed : CollectedAccessesAgree
agreed g t k q e = subst (λ (o : Option Var). IfSome o (λ q. goes g t k ≡ some_node g t q)) e (goes_through g t k)
