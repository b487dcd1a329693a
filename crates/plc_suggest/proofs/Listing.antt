-- The list of a flow's spots, as it is made step by step.
use Rattle.std.proofs.Common.{◌≡◌, ◌==◌, ℕ, zero, suc, false, ◌+◌, ◌<◌, ◌≤◌, List, [], ◌∷◌, ◌++◌, length, get_or, drop}
use Rattle.std.proofs.Common.{map, append_assoc, refl, sym, ap, subst, ◌∙◌, arith, length-append}
use Rattle.std.specs.List.{All}
use Rattle.std.proofs.lemmas.List.{drop_more, get_or-map, get_or_read, length-map}
use Rattle.std.proofs.lemmas.List.Elements.{All-nil, All-cons, All-append, All-same}
use Rattle.std.proofs.lemmas.Option.{slice_get-get_or}
use Rattle.plc_lang.specs.declared.syntax.Primitive.{Primitive}
use Rattle.plc_lang.specs.declared.syntax.Var.{Var}
use Rattle.plc_lang.specs.declared.syntax.Var.TheVariants.{Shared, Local}
use Rattle.plc_lang.specs.Skeleton.{Skeleton, Passage, locals_at}
use Rattle.plc_flow.specs.declared.flow.Step.{Step}
use Rattle.plc_flow.specs.declared.flow.Flow.{Flow}
use Rattle.plc_flow.specs.WellFormed.{IsWellFormed}
use Rattle.plc_flow.specs.Skeleton.{skeleton_of, passage_of, pointers_by_point}
use Rattle.plc_xfer.specs.Rules.{table}
use Rattle.plc_flow.proofs.Ends.{ends_of}
use Rattle.plc_infer.proofs.Lists.{table_push, table_length}
use Rattle.plc_suggest.specs.declared.spot.Spot.{Spot}
use Rattle.plc_suggest.specs.Spots.{spot, spots_before, spots_of_step, spots_from, spots_of}
use Rattle.plc_suggest.specs.Suggestions.{most_spots}
use Rattle.plc_suggest.specs.Marking.{IsOfStep}
use Rattle.plc_suggest.proofs.Defaults.{no_step}

-- ---- the pointers of one step

pub pushed : {A : Type 0} (a xs new : List A) (i : ℕ) (f : ℕ → A) → xs ≡ a ++ table 0 i f → new ≡ xs ++ f i ∷ []
    → new ≡ a ++ table 0 (i + 1) f
pushed {A = A} a xs new i f so_far made =
    made ∙ ap (λ (ys : List A). ys ++ f i ∷ []) so_far ∙ append_assoc a (table 0 i f) (f i ∷ [])
    ∙ ap (λ (ys : List A). a ++ ys) (table_push i f)

pub pointers_counted : (shared locals k : ℕ) → length (spots_before k shared locals) ≡ shared + locals
pointers_counted shared locals k =
    let a = table_length 0 shared (λ (i : ℕ). spot k (Shared i)) in
    let b = table_length 0 locals (λ (i : ℕ). spot k (Local i)) in
    omega (
      arith,
      length-append (table 0 shared (λ (i : ℕ). spot k (Shared i)))
          (table 0 locals (λ (i : ℕ). spot k (Local i))),
      a,
      b,
    )

pub spots_are : (shared locals k : ℕ) (prims : List Primitive) → false ≡ (length prims == 0)
    → spots_before k shared locals ≡ spots_of_step shared locals k prims
spots_are shared locals k [] e = absurd cc
spots_are shared locals k (p ∷ ps) e = refl

-- first some are added, and then others
pub all_added : {A : Type 0} (old a b some all : List A) → some ≡ old ++ a → all ≡ some ++ b → all ≡ old ++ (a ++ b)
all_added {A = A} old a b some all first second =
    second ∙ ap (λ (xs : List A). xs ++ b) first ∙ append_assoc old a b

pub spots_counted : (shared locals k : ℕ) (prims : List Primitive) → false ≡ (length prims == 0)
    → length (spots_of_step shared locals k prims) ≡ shared + locals
spots_counted shared locals k [] e = absurd cc
spots_counted shared locals k (p ∷ ps) e = pointers_counted shared locals k

-- ---- step by step

-- step k of a flow
abbrev pub flow_step : Flow → ℕ → Step
flow_step flow k = get_or flow.steps k no_step

pub next_passage : (flow : Flow) (k : ℕ) → k < length flow.steps
    → drop k (map passage_of flow.steps) ≡ passage_of (flow_step flow k) ∷ drop (k + 1) (map passage_of flow.steps)
next_passage flow k small =
    let within : k < length (map passage_of flow.steps) = omega (arith, length-map flow.steps passage_of) in
    drop_more (map passage_of flow.steps) k (passage_of no_step) within
    ∙ ap (λ (x : Passage). x ∷ drop (k + 1) (map passage_of flow.steps))
    (get_or-map passage_of flow.steps k no_step (passage_of no_step) small)

-- the point where a step begins has a count of locals
pub from_within : (flow : Flow) (k : ℕ) → IsWellFormed flow → k < length flow.steps
    → (flow_step flow k).from.0 < length (pointers_by_point flow.file.ops flow.gates)
from_within flow k well
    small = (ends_of flow k (flow_step flow k) well (slice_get-get_or flow.steps k no_step small)).from_in

-- a step as the code reads it
pub read_step : (flow : Flow) (steps : List Step) (k : ℕ) (x : Step) → steps ≡ flow.steps → k < length steps
    → x ≡ get_or steps k x → x ≡ flow_step flow k
read_step flow steps k x same small read = get_or_read steps k x small read no_step
    ∙ ap (λ (xs : List Step). get_or xs k no_step) same

pub read_from : (flow : Flow) (locals : List ℕ) (steps : List Step) (k : ℕ) (x : Step) → IsWellFormed flow
    → locals ≡ pointers_by_point flow.file.ops flow.gates → steps ≡ flow.steps → k < length steps → x ≡ get_or steps k x
    → x.from.0 < length locals
read_from flow locals steps k x well counts same small read =
    let inside : k < length flow.steps = subst (λ (xs : List Step). k < length xs) same small in
    subst (λ (y : Step). y.from.0 < length locals) (sym (read_step flow steps k x same small read))
    (subst (λ (ns : List ℕ). (flow_step flow k).from.0 < length ns) (sym counts) (from_within flow k well inside))

-- the spots of step k, and of the steps after it
abbrev pub spots_at : Flow → ℕ → List Spot
spots_at flow k =
    spots_of_step (length flow.file.shared) (locals_at (skeleton_of flow) (flow_step flow k).from.0) k
    (flow_step flow k).prims

abbrev pub spots_past : Flow → ℕ → List Spot
spots_past flow k = spots_from (skeleton_of flow) k (drop k (map passage_of flow.steps))

-- what the code reads gives the spots of step k
pub record IsRead (flow : Flow) (k : ℕ) (block : List Spot) : Type 0 where
  pub inside : k < length flow.steps
  pub spots : block ≡ spots_at flow k

pub step_read : {locals : List ℕ} {steps : List Step} (flow : Flow) (k : ℕ) (x : Step) (shared : ℕ)
    (prims : List Primitive)
    → locals ≡ pointers_by_point flow.file.ops flow.gates → steps ≡ flow.steps → k < length steps → x ≡ get_or steps k x
    → shared ≡ length flow.file.shared → prims ≡ x.prims
    → IsRead flow k (spots_of_step shared (get_or locals x.from.0 0) k prims)
step_read {locals = locals} {steps = steps} flow k x shared prims counts same small read many own =
    let n = length flow.file.shared in
    record {
      inside = subst (λ (xs : List Step). k < length xs) same small;
      spots =
          ap (λ (m : ℕ). spots_of_step m (get_or locals x.from.0 0) k prims) many
          ∙ ap (spots_of_step n (get_or locals x.from.0 0) k) own
          ∙ ap (λ (y : Step). spots_of_step n (get_or locals y.from.0 0) k y.prims)
          (read_step flow steps k x same small read)
          ∙ ap (λ (ns : List ℕ). spots_of_step n (get_or ns (flow_step flow k).from.0 0) k (flow_step flow k).prims)
          counts;
    }

past_is : (flow : Flow) (k : ℕ) → k < length flow.steps → spots_past flow k ≡ spots_at flow k ++ spots_past flow (k + 1)
past_is flow k small = ap (spots_from (skeleton_of flow) k) (next_passage flow k small)

pub listed_more : (flow : Flow) (k : ℕ) (before new : List Spot) → k < length flow.steps
    → new ≡ before ++ spots_at flow k
    → before ++ spots_past flow k ≡ spots_of (skeleton_of flow)
    → new ++ spots_past flow (k + 1) ≡ spots_of (skeleton_of flow)
listed_more flow k before new small made rest =
    ap (λ (xs : List Spot). xs ++ spots_past flow (k + 1)) made
    ∙ append_assoc before (spots_at flow k) (spots_past flow (k + 1))
    ∙ ap (λ (xs : List Spot). before ++ xs) (sym (past_is flow k small)) ∙ rest

pub listed_first : (flow : Flow) → [] ++ spots_past flow 0 ≡ spots_of (skeleton_of flow)
unfolding spots_of
listed_first flow = refl

-- where the spots of a step are too many, those of the flow are
pub listed_too_many : (flow : Flow) (k : ℕ) (before : List Spot) → k < length flow.steps
    → most_spots < length before + length (spots_at flow k)
    → before ++ spots_past flow k ≡ spots_of (skeleton_of flow) → most_spots < length (spots_of (skeleton_of flow))
listed_too_many flow k before small many rest =
    let all = ap length (ap (λ (xs : List Spot). before ++ xs) (sym (past_is flow k small)) ∙ rest) in
    let rest_count = length-append (spots_at flow k) (spots_past flow (k + 1)) in
    omega (arith, length-append before (spots_at flow k ++ spots_past flow (k + 1)), rest_count, all)

-- ---- each spot stands in front of a step

table_of_step : (n k j count : ℕ) (f : ℕ → Var) → k < n → All (IsOfStep n) (table j count (λ (i : ℕ). spot k (f i)))
table_of_step n k j zero f small = All-nil (IsOfStep n)
table_of_step n k j (suc count) f small =
    All-cons (IsOfStep n) (spot k (f j)) (table (j + 1) count (λ (i : ℕ). spot k (f i))) small
    (table_of_step n k (j + 1) count f small)

of_step : (n shared locals k : ℕ) (prims : List Primitive) → k < n
    → All (IsOfStep n) (spots_of_step shared locals k prims)
of_step n shared locals k [] small = All-nil (IsOfStep n)
of_step n shared locals k (p ∷ ps) small =
    All-append (IsOfStep n) (table 0 shared (λ (i : ℕ). spot k (Shared i)))
    (table 0 locals (λ (i : ℕ). spot k (Local i)))
    (table_of_step n k 0 shared Shared small) (table_of_step n k 0 locals Local small)

of_steps : (s : Skeleton) (n k : ℕ) (xs : List Passage) → k + length xs ≤ n → All (IsOfStep n) (spots_from s k xs)
of_steps s n k [] small = All-nil (IsOfStep n)
of_steps s n k (x ∷ xs) small =
    All-append (IsOfStep n) (spots_of_step s.shared (locals_at s x.from) k x.prims) (spots_from s (k + 1) xs)
    (of_step n s.shared (locals_at s x.from) k x.prims (omega arith)) (of_steps s n (k + 1) xs (omega arith))

pub spots_known : (flow : Flow) (spots : List Spot) → spots ≡ spots_of (skeleton_of flow)
    → All (IsOfStep (length flow.steps)) spots
unfolding spots_of
spots_known flow spots is =
    All-same (IsOfStep (length flow.steps)) spots (spots_from (skeleton_of flow) 0 (map passage_of flow.steps)) is
    (of_steps (skeleton_of flow) (length flow.steps) 0 (map passage_of flow.steps)
    (omega (arith, length-map flow.steps passage_of)))
