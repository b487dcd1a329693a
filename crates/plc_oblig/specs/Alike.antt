-- Obligations that have one ground set: a step, and a clause of another thread at two points of one operation at which
-- the outline puts the same clauses.
use Rattle.std.specs.Prelude.{◌≡◌, ◌&&◌, ◌==◌, ℕ, Bool, true, false, List, Contains}
use Rattle.std.specs.List.{list_all}
use Rattle.plc_base.specs.Booleans.{same_bool}
use Rattle.plc_flow.specs.declared.flow.Gate.{Gate}
use Rattle.plc_flow.specs.declared.flow.Flow.{Flow}
use Rattle.plc_logic.specs.declared.clause.Item.{Item}
use Rattle.plc_logic.specs.declared.clause.Outline.{Outline}
use Rattle.plc_vocabulary.specs.declared.obligations.Obligation.{Obligation}
use Rattle.plc_vocabulary.specs.declared.obligations.Obligation.TheVariants.{Start, Enter, Own, Other, Claim}
use Rattle.plc_vocabulary.specs.Parts.{has_point}
use Rattle.plc_vocabulary.specs.Points.{stands_at}
use Rattle.plc_oblig.specs.GroundSets.{ground_set}

-- both points belong to the operation, or neither does
abbrev pub share_gate : ℕ → ℕ → Gate → Bool
share_gate p q g = same_bool (has_point p g) (has_point q g)

-- the item puts its clause at both points, or at neither
abbrev pub share_item : Flow → ℕ → ℕ → Item → Bool
share_item flow p q i = same_bool (stands_at flow p i) (stands_at flow q i)

-- the points belong to one operation, and the outline puts the same clauses there
abbrev pub are_points_alike : Flow → Outline → ℕ → ℕ → Bool
are_points_alike flow outline p q =
    list_all (share_gate p q) flow.gates && list_all (share_item flow p q) outline.items

-- the obligation says of the same step and clause what is said at point p, and its point is alike
abbrev pub is_like_other : Flow → Outline → ℕ → ℕ → ℕ → Obligation → Bool
is_like_other flow outline k p c (Start i) = false
is_like_other flow outline k p c (Enter o d) = false
is_like_other flow outline k p c (Own m d) = false
is_like_other flow outline k p c (Other m q d) =
    (k == m.0) && ((c == d) && are_points_alike flow outline p q.0)
is_like_other flow outline k p c (Claim m j) = false

-- both say the same clause of another thread after the same step, at points that are alike
abbrev pub are_alike : Flow → Outline → Obligation → Obligation → Bool
are_alike flow outline (Start i) b = false
are_alike flow outline (Enter o d) b = false
are_alike flow outline (Own m d) b = false
are_alike flow outline (Other k p c) b = is_like_other flow outline k.0 p.0 c b
are_alike flow outline (Claim m j) b = false

-- the ground sets of obligations that are alike are one
abbrev pub AlikeObligationsHaveOneSet : Type 0
AlikeObligationsHaveOneSet = (flow : Flow) (outline : Outline) (a b : Obligation)
    → are_alike flow outline a b ≡ true → ground_set flow outline a ≡ ground_set flow outline b

-- an obligation with the same ground set was noted with this number
abbrev pub IsNotedAs : Flow → Outline → List (Obligation × ℕ) → Obligation → ℕ → Type 0
IsNotedAs flow outline noted o at =
    (p : Obligation) × Contains noted (p, at) × (ground_set flow outline o ≡ ground_set flow outline p)
