-- Where a claim may be put, and a program with claims put in front of its steps.
use Rattle.std.specs.Prelude.{ℕ, ◌+◌, ◌==◌, Bool, true, false, if◌then◌else◌, List, [], ◌∷◌, ◌++◌}
use Rattle.plc_lang.specs.declared.syntax.Primitive.{Primitive}
use Rattle.plc_lang.specs.declared.syntax.Primitive.TheVariants.{Active}
use Rattle.plc_lang.specs.declared.syntax.Var.{Var}
use Rattle.plc_lang.specs.declared.syntax.Var.TheVariants.{Shared, Local}
use Rattle.plc_lang.specs.Skeleton.{Skeleton, Passage, locals_at}
use Rattle.plc_xfer.specs.Rules.{table}
use Rattle.plc_suggest.specs.declared.spot.Spot.{Spot}

-- the spot of a pointer in front of step k
abbrev pub spot : ℕ → Var → Spot
spot k v = record { step = record { 0 = k }; var = v }

-- the shared pointer, or the pointer local, of a number
abbrev pub pointer : Bool → ℕ → Var
pointer true i = Shared i
pointer false i = Local i

-- those in front of step k: the shared pointers, then the pointer locals
abbrev pub spots_before : ℕ → ℕ → ℕ → List Spot
spots_before k shared locals = table 0 shared (λ i. spot k (Shared i)) ++ table 0 locals (λ i. spot k (Local i))

-- those of a step: none where it has no primitive
abbrev pub spots_of_step : ℕ → ℕ → ℕ → List Primitive → List Spot
spots_of_step shared locals k [] = []
spots_of_step shared locals k (p ∷ ps) = spots_before k shared locals

-- those of steps, of which the first has the number k
abbrev pub spots_from : Skeleton → ℕ → List Passage → List Spot
spots_from s k [] = []
spots_from s k (x ∷ xs) = spots_of_step s.shared (locals_at s x.from) k x.prims ++ spots_from s (k + 1) xs

-- all spots of a program, in order
unfoldable pub spots_of : Skeleton → List Spot
spots_of s = spots_from s 0 s.passages

-- ---- a marked program

-- the claims in front of step k, in the order of the spots
abbrev pub claims_at : List Spot → ℕ → List Primitive
claims_at [] k = []
claims_at (x ∷ xs) k = if x.step.0 == k then Active x.var ∷ claims_at xs k else claims_at xs k

-- a step with claims in front of its primitives
abbrev pub with_claims : List Primitive → Passage → Passage
with_claims claims x = record { from = x.from; to = x.to; prims = claims ++ x.prims }

-- steps, of which the first has the number k, each with its claims
abbrev pub marked_from : List Spot → ℕ → List Passage → List Passage
marked_from spots k [] = []
marked_from spots k (x ∷ xs) = with_claims (claims_at spots k) x ∷ marked_from spots (k + 1) xs

-- the program marked by these spots
unfoldable pub marked : List Spot → Skeleton → Skeleton
marked spots s = record {
  shared = s.shared;
  locals = s.locals;
  entries = s.entries;
  passages = marked_from spots 0 s.passages;
}
