-- The points of a flow, operation by operation.
use Rattle.std.proofs.Common.{◌≡◌, ℕ, zero, suc, ◌+◌, ◌-◌, ◌<◌, ◌≤◌, List, [], ◌∷◌, length, get_or, drop, Some, sym, ap, subst, ◌∙◌, arith, refl}
use Rattle.std.specs.Prelude.{slice_get}
use Rattle.std.proofs.lemmas.Option.{slice_get-get_or, slice_get_read}
use Rattle.plc_lang.specs.declared.syntax.Op.{Op}
use Rattle.plc_lang.specs.Locals.{pointers_of}
use Rattle.plc_lang.specs.Skeleton.{locals_at}
use Rattle.plc_flow.specs.declared.flow.Gate.{Gate}
use Rattle.plc_flow.specs.declared.flow.Flow.{Flow}
use Rattle.plc_flow.specs.WellFormed.{GatesFrom, IsPointOf, IsWellFormed}
use Rattle.plc_flow.specs.Skeleton.{pointers_by_point, skeleton_of}
use Rattle.plc_flow.proofs.Gates.{ends_after}
use Rattle.plc_flow.proofs.Ends.{locals_there}

-- what the code reads at a place
pub read_item : {A : Type 0} (xs ys : List A) (k : ℕ) (x : A) → xs ≡ ys → k < length ys → x ≡ get_or xs k x → slice_get ys k ≡ Some x
read_item {A = A} xs ys k x same small read =
    slice_get_read ys (length ys) k x refl small (read ∙ ap (λ (zs : List A). get_or zs k x) same)

-- a gate that no flow has
abbrev pub no_gate : Gate
no_gate = record { entry = record { 0 = 0 }; exit = record { 0 = 0 }; first = 0; after = 0 }

pub read_gate : (gs hs : List Gate) (k : ℕ) → gs ≡ hs → k < length hs → slice_get hs k ≡ Some (get_or gs k no_gate)
read_gate gs hs k same small =
    slice_get-get_or hs k no_gate small ∙ ap (λ (xs : List Gate). Some (get_or xs k no_gate)) (sym same)

-- how many pointer locals the operation with this number has, as `locals_there` says it
abbrev nth_pointers : List Op → ℕ → ℕ
nth_pointers [] k = 0
nth_pointers (o ∷ os) zero = pointers_of o
nth_pointers (o ∷ os) (suc k) = nth_pointers os k

nth_is : (os : List Op) (k : ℕ) (o : Op) → slice_get os k ≡ Some o → nth_pointers os k ≡ pointers_of o
nth_is [] k o e = absurd cc
nth_is (x ∷ os) zero o e = let is : x ≡ o = cc in ap pointers_of is
nth_is (x ∷ os) (suc k) o e = nth_is os k o e

-- a point of gate k
pub record There (flow : Flow) (o : Op) (p : ℕ) : Type 0 where
  pub point : p < flow.points
  pub locals : locals_at (skeleton_of flow) p ≡ pointers_of o

pub there : (flow : Flow) (k p : ℕ) (g : Gate) (o : Op) → IsWellFormed flow → slice_get flow.gates k ≡ Some g → slice_get flow.file.ops k ≡ Some o
    → IsPointOf g p → There flow o p
there flow k p g o w e f at =
    let r = locals_there 0 flow.file.ops flow.gates flow.points k p g (sym w.gates) w.ranges e at in
    let same : p - 0 ≡ p = omega arith in
    let locals = r.2 ∙ nth_is flow.file.ops k o f in
    record { point = r.1; locals = ap (λ (i : ℕ). get_or (pointers_by_point flow.file.ops flow.gates) i 0) (sym same) ∙ locals }

-- entries are points
entry_within : (n : ℕ) (gs : List Gate) (end k : ℕ) (g : Gate) → GatesFrom n gs end → slice_get gs k ≡ Some g → g.entry.0 < end
entry_within n [] end k g h e = absurd cc
entry_within n (x ∷ gs) end zero g (first, entry_is, exit_is, wide, rest) e =
    let is : x ≡ g = cc in
    let r = ends_after x.after gs end rest in
    let here : x.entry.0 < end = omega arith in
    subst (λ (z : Gate). z.entry.0 < end) is here
entry_within n (x ∷ gs) end (suc k) g (first, entry_is, exit_is, wide, rest) e = entry_within x.after gs end k g rest e

pub entry_point : (flow : Flow) (k : ℕ) (g : Gate) → IsWellFormed flow → slice_get flow.gates k ≡ Some g → g.entry.0 < flow.points
entry_point flow k g w e = entry_within 0 flow.gates flow.points k g w.ranges e

-- where the first of these gates begins
abbrev pub begins : List Gate → ℕ → ℕ
begins [] end = end
begins (g ∷ gs) end = g.first

first_begins : (n : ℕ) (gs : List Gate) (end : ℕ) → GatesFrom n gs end → begins gs end ≡ n
first_begins n [] end h = sym h
first_begins n (g ∷ gs) end h = h.0

pub begins_at : (flow : Flow) → IsWellFormed flow → begins flow.gates flow.points ≡ 0
begins_at flow w = first_begins 0 flow.gates flow.points w.ranges

one_after : (n : ℕ) (gs : List Gate) (end k : ℕ) (g : Gate) → GatesFrom n gs end → slice_get gs k ≡ Some g
    → (begins (drop k gs) end ≡ g.first) × (begins (drop (suc k) gs) end ≡ g.after) × (g.after ≤ end)
one_after n [] end k g h e = absurd cc
one_after n (x ∷ gs) end zero g (first, entry_is, exit_is, wide, rest) e =
    let is : x ≡ g = cc in
    (ap (λ (z : Gate). z.first) is, first_begins x.after gs end rest ∙ ap (λ (z : Gate). z.after) is, subst (λ (z : Gate). z.after ≤ end) is (ends_after x.after gs end rest))
one_after n (x ∷ gs) end (suc k) g (first, entry_is, exit_is, wide, rest) e = one_after x.after gs end k g rest e

-- where gate k begins and ends
pub record Extent (flow : Flow) (k : ℕ) (g : Gate) : Type 0 where
  pub here : begins (drop k flow.gates) flow.points ≡ g.first
  pub next : begins (drop (k + 1) flow.gates) flow.points ≡ g.after
  pub within : g.after ≤ flow.points

pub extent : (flow : Flow) (k : ℕ) (g : Gate) → IsWellFormed flow → slice_get flow.gates k ≡ Some g → Extent flow k g
extent flow k g w e =
    let r = one_after 0 flow.gates flow.points k g w.ranges e in
    let one : k + 1 ≡ suc k = omega arith in
    record { here = r.0; next = ap (λ (i : ℕ). begins (drop i flow.gates) flow.points) one ∙ r.1; within = r.2 }
