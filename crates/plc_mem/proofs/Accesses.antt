-- The table of memory agrees with what each primitive goes through and compares.
use Rattle.std.proofs.Common.{◌≡◌, ℕ, false, not, Option, None, IfSome, refl, ap, subst}
use Rattle.plc_lang.specs.declared.syntax.Var.{Var}
use Rattle.plc_lang.specs.declared.syntax.Primitive.{Primitive}
use Rattle.plc_lang.specs.declared.syntax.Primitive.TheVariants.{Load, Store, StoreNull, DataLoad, DataStore, Eq, Ne, RefreshLoad, RefreshStore, Call}
use Rattle.plc_lang.specs.Facts.{accessed, compared}
use Rattle.plc_lang.specs.WellSorted.{is_call}
use Rattle.plc_mem.specs.State.{State}
use Rattle.plc_mem.specs.Primitives.{cell_at, comparison, race_of}
use Rattle.plc_mem.specs.Laws.{GoesThrough, AccessesAgree}

goes_through : (s : State) (t a : ℕ) (k : Primitive) → IfSome (accessed k) (GoesThrough s t a k)
goes_through s t a (Load p q f) = record { race = refl; null = λ z. ap not z }
goes_through s t a (Store p f q) = record { race = refl; null = λ z. ap not z }
goes_through s t a (StoreNull p f) = record { race = refl; null = λ z. ap not z }
goes_through s t a (DataLoad x q f) = record { race = refl; null = λ z. ap not z }
goes_through s t a (DataStore p f e) = record { race = refl; null = λ z. ap not z }
goes_through s t a (RefreshLoad p q f) = record { race = refl; null = λ z. rw z refl }
goes_through s t a (RefreshStore p f q) = record { race = refl; null = λ z. rw z refl }
goes_through s t a k = tt

compares : (s : State) (t : ℕ) (k : Primitive) → IfSome (compared k) (λ c. race_of s t k ≡ comparison (cell_at s t c.0) (cell_at s t c.1))
compares s t (Eq p q) = refl
compares s t (Ne p q) = refl
compares s t k = tt

others : (s : State) (t : ℕ) (k : Primitive) → accessed k ≡ None → compared k ≡ None → is_call k ≡ false → race_of s t k ≡ None
others s t (Call f r) none alone i = cc
others s t k none alone i = cc

pub agreed : AccessesAgree
agreed = record {
  through = λ s t a k q e. subst (λ (o : Option Var). IfSome o (GoesThrough s t a k)) e (goes_through s t a k);
  compares = λ s t k p q e. subst (λ (o : Option (Var × Var)). IfSome o (λ c. race_of s t k ≡ comparison (cell_at s t c.0) (cell_at s t c.1))) e (compares s t k);
  others = others;
}
