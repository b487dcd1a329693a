-- Where no label names a point, no list of labels does.
use Rattle.std.proofs.Common.{◌≡◌, ℕ, zero, suc, ◌==◌, ◌||◌, Bool, true, false, List, [], ◌∷◌, refl, sym, ap, ◌∙◌}
use Rattle.std.specs.List.{list_any}
use Rattle.std.proofs.lemmas.Bool.{false≢true}
use Rattle.plc_base.specs.declared.ids.PointId.{PointId}
use Rattle.plc_vocabulary.specs.Points.{names_point}

abbrev named_at : List PointId → ℕ → Bool
named_at labels p = list_any (λ (q : PointId). q.0 == p) labels

or_first : (a b : Bool) → (a || b) ≡ false → a ≡ false
or_first true b none = none
or_first false b none = refl

or_second : (a b : Bool) → (a || b) ≡ false → b ≡ false
or_second true b none = absurd (false≢true (sym none))
or_second false b none = none

one_unnamed : (labels : List PointId) (p l : ℕ) → named_at labels p ≡ false → names_point labels p l ≡ false
one_unnamed [] p l none = refl
one_unnamed (q ∷ labels) p zero none = or_first (q.0 == p) (named_at labels p) none
one_unnamed (q ∷ labels) p (suc l) none = one_unnamed labels p l (or_second (q.0 == p) (named_at labels p) none)

pub unnamed : (labels : List PointId) (p : ℕ) → named_at labels p ≡ false → (ls : List ℕ) → list_any (names_point labels p) ls ≡ false
unnamed labels p none [] = refl
unnamed labels p none (l ∷ ls) = ap (λ b. b || list_any (names_point labels p) ls) (one_unnamed labels p l none) ∙ unnamed labels p none ls
