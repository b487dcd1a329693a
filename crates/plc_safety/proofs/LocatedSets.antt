-- From the locations that a type gives to those of a claim: at once, or by whether the address is retired.
use Rattle.std.proofs.Common.{◌≡◌, ℕ, Bool, true, false, not, ◌&&◌, Option, Some, None, refl, sym, ◌∙◌, inl, inr}
use Rattle.std.specs.Prelude.{if◌then◌else◌}
use Rattle.std.proofs.lemmas.Bool.{and_parts, or_cases, not-true, false≢true}
use Rattle.plc_base.specs.Mask.{has, meet, union, within}
use Rattle.plc_base.proofs.MaskLemmas.{has-union, within-has}
use Rattle.plc_auto.specs.declared.observer.Observer.{Observer}
use Rattle.plc_auto.specs.Location.{is_retired_location, stands_retired}
use Rattle.plc_auto.specs.Sets.{is_location, unretired}
use Rattle.plc_auto.proofs.SetLemmas.{has-unretired}
use Rattle.plc_type.specs.declared.env.PtrType.{PtrType}
use Rattle.plc_type.specs.Guarantees.{is_safe}
use Rattle.plc_sound.specs.Meaning.{stands}
use Rattle.plc_sound.proofs.Sets.{Live, stands_within, stands_meet, stands_unretired}
use Rattle.plc_at.specs.Extended.{Need, Nothing, Unretired, RetiredNode, Unlocated, need}

-- what is so of a type and a set of locations where there is this need
abbrev pub Meant : Observer → PtrType → ℕ → Need → Type 0
Meant o t set Nothing = within t.m set ≡ true
Meant o t set Unretired = within (meet t.m (unretired o)) set ≡ true
Meant o t set RetiredNode = (is_safe t.g ≡ true) × (within t.m (union set (unretired o)) ≡ true)
Meant o t set Unlocated = Unit {0}

pub need_means : (o : Observer) (t : PtrType) (set : ℕ) → Meant o t set (need o t set)
need_means o t set =
    go (within t.m set) refl (within (meet t.m (unretired o)) set) refl
    (is_safe t.g && within t.m (union set (unretired o))) refl
  where
    go : (a : Bool) → within t.m set ≡ a → (b : Bool) → within (meet t.m (unretired o)) set ≡ b
        → (c : Bool) → (is_safe t.g && within t.m (union set (unretired o))) ≡ c
        → Meant o t set (if a then Nothing else if b then Unretired else if c then RetiredNode else Unlocated)
    go true at_once b u c r = at_once
    go false at_once true u c r = u
    go false at_once false u true r = and_parts (is_safe t.g) (within t.m (union set (unretired o))) r
    go false at_once false u false r = tt

-- an address that isn't retired
pub unretired_within : (o : Observer) (m set : ℕ) (q : Option ℕ) → Live o q → stands_retired o q ≡ false
    → stands m q ≡ true → within (meet m (unretired o)) set ≡ true → stands set q ≡ true
unretired_within o m set q live kept here w =
    stands_within (meet m (unretired o)) set q w (stands_meet m (unretired o) q here (stands_unretired o q live kept))

-- one that is
pub retired_within : (o : Observer) (m set : ℕ) (q : Option ℕ) → stands_retired o q ≡ true
    → stands m q ≡ true → within m (union set (unretired o)) ≡ true → stands set q ≡ true
retired_within o m set None so here w = cc
retired_within o m set (Some l) so here w =
    elim (or_cases (has set l) (has (unretired o) l)
    (sym (has-union set (unretired o) l) ∙ within-has m (union set (unretired o)) w l here)) [
      | inl is ↦ is
      | inr is ↦ absurd (false≢true (sym (not_so is) ∙ so))
    ]
  where
    not_so : has (unretired o) l ≡ true → is_retired_location o l ≡ false
    not_so is = not-true (is_retired_location o l)
        (and_parts (is_location o l) (not (is_retired_location o l)) (sym (has-unretired o l) ∙ is)).1
