-- The names of an observer's locations: either each has two parts, or none has.
use Rattle.std.proofs.Common.{◌≡◌, ℕ, ◌<◌, Bool, true, false, List, [], ◌∷◌, All, is_some, refl, sym, ◌∙◌}
use Rattle.std.specs.Prelude.{codes}
use Rattle.std.proofs.lemmas.List.Elements.{All-nil, All-cons, All-get_or}
use Rattle.plc_auto.specs.declared.observer.Observer.{Observer}
use Rattle.plc_auto.specs.declared.observer.Observer.TheVariants.{Plain, Hazard, Epoch}
use Rattle.plc_auto.specs.Table.{names_of, count_of}
use Rattle.plc_at.specs.Claims.{after_dot}
use Rattle.plc_at.specs.Reading.{location_name}

-- whether the names of an observer's locations have two parts
abbrev have_points : Observer → Bool
have_points Plain = false
have_points (Hazard f) = true
have_points (Epoch e l) = true

seven : (P : List ℕ → Type 0) (a b c d e f g : List ℕ) → P a → P b → P c → P d → P e → P f → P g
    → All P (a ∷ b ∷ c ∷ d ∷ e ∷ f ∷ g ∷ [])
seven P a b c d e f g pa pb pc pd pe pf pg =
    All-cons P a (b ∷ c ∷ d ∷ e ∷ f ∷ g ∷ []) pa (All-cons P b (c ∷ d ∷ e ∷ f ∷ g ∷ []) pb
    (All-cons P c (d ∷ e ∷ f ∷ g ∷ []) pc (All-cons P d (e ∷ f ∷ g ∷ []) pd (All-cons P e (f ∷ g ∷ []) pe
    (All-cons P f (g ∷ []) pf (All-cons P g [] pg (All-nil P)))))))

all_alike : (o : Observer) → All (λ n. is_some (after_dot n) ≡ have_points o) (names_of o)
all_alike Plain =
    let P : List ℕ → Type 0 = λ n. is_some (after_dot n) ≡ false in
    All-cons P (codes "u") (codes "r" ∷ []) refl (All-cons P (codes "r") [] refl (All-nil P))
all_alike (Hazard f) =
    let P : List ℕ → Type 0 = λ n. is_some (after_dot n) ≡ true in
    seven P (codes "u.idle") (codes "u.pend") (codes "u.held") (codes "r.idle") (codes "r.pend") (codes "r.held")
    (codes "r.kept") refl refl refl refl refl refl refl
all_alike (Epoch e l) =
    let P : List ℕ → Type 0 = λ n. is_some (after_dot n) ≡ true in
    seven P (codes "u.out") (codes "u.coming") (codes "u.in") (codes "r.out") (codes "r.coming") (codes "r.in")
    (codes "r.kept") refl refl refl refl refl refl refl

-- the names of two locations have as many parts
pub alike : (o : Observer) (k l : ℕ) → k < count_of o → l < count_of o
    → is_some (after_dot (location_name o k)) ≡ is_some (after_dot (location_name o l))
alike o k l less small =
    let P : List ℕ → Type 0 = λ n. is_some (after_dot n) ≡ have_points o in
    All-get_or P (names_of o) k [] less (all_alike o) ∙ sym (All-get_or P (names_of o) l [] small (all_alike o))
