-- The points of a flow: where they begin, and that the counts of locals are theirs.
use Rattle.std.proofs.Common.{◌≡◌, ℕ, zero, suc, ◌+◌, ◌-◌, ◌<◌, ◌≤◌, List, [], ◌∷◌, ◌++◌, drop, length, get_or, map, replicate, append_assoc, Some, sym, ap, subst, ◌∙◌, arith}
use Rattle.std.specs.Prelude.{slice_get}
use Rattle.std.proofs.lemmas.List.{at_drop_more}
use Rattle.plc_lang.specs.declared.syntax.Op.{Op}
use Rattle.plc_flow.specs.declared.flow.Gate.{Gate}
use Rattle.plc_flow.specs.WellFormed.{GatesFrom}
use Rattle.plc_lang.specs.Locals.{pointers_of}
use Rattle.plc_flow.specs.Skeleton.{pointers_by_point}
use Rattle.plc_flow.proofs.Gates.{ends_after}

abbrev pub entries_of : List Gate → List ℕ
entries_of gs = map (λ (g : Gate). g.entry.0) gs

-- entries are points
pub entries_within : (n : ℕ) (gs : List Gate) (end i p : ℕ) → GatesFrom n gs end → slice_get (entries_of gs) i ≡ Some p → (n ≤ p) × (p < end)
entries_within n [] end i p h e = absurd cc
entries_within n (g ∷ gs) end zero p (first, entry_is, exit_is, wide, rest) e =
    let is : g.entry.0 ≡ p = cc in
    let r = ends_after g.after gs end rest in
    (omega arith, omega arith)
entries_within n (g ∷ gs) end (suc i) p (first, entry_is, exit_is, wide, rest) e = let r = entries_within g.after gs end i p rest e in (let l = r.0 in omega arith, r.1)

-- an operation has at least its entry and its exit
pub gate_wide : (n : ℕ) (gs : List Gate) (end k : ℕ) (g : Gate) → GatesFrom n gs end → slice_get gs k ≡ Some g → g.first < g.after
gate_wide n [] end k g h e = absurd cc
gate_wide n (x ∷ gs) end zero g (first, entry_is, exit_is, wide, rest) e =
    let is : x ≡ g = cc in
    let here : x.first < x.after = omega arith in
    subst (λ (y : Gate). y.first < y.after) is here
gate_wide n (x ∷ gs) end (suc k) g (first, entry_is, exit_is, wide, rest) e = gate_wide x.after gs end k g rest e

-- the points of one operation more, read from the slices of both
pub points_more : (ops os : List Op) (gates gs : List Gate) (k : ℕ) (o : Op) (g : Gate) (count : ℕ) (counts new end : List ℕ) → os ≡ ops → gs ≡ gates → k < length os → k < length gs
    → count ≡ pointers_of (get_or os k o) → new ≡ counts ++ replicate ((get_or gs k g).after - (get_or gs k g).first) count
    → counts ++ pointers_by_point (drop k ops) (drop k gates) ≡ end → new ++ pointers_by_point (drop (k + 1) ops) (drop (k + 1) gates) ≡ end
points_more ops os gates gs k o g count counts new end ops_are gates_are below there counted is same =
    let many = (get_or gs k g).after - (get_or gs k g).first in
    let rest = pointers_by_point (drop (k + 1) os) (drop (k + 1) gs) in
    let at = at_drop_more (λ os. counts ++ pointers_by_point os (drop k gs)) os k o below ∙ at_drop_more (λ gs. counts ++ pointers_by_point (get_or os k o ∷ drop (k + 1) os) gs) gs k g there in
    (λ i. new ++ pointers_by_point (drop (k + 1) (sym ops_are i)) (drop (k + 1) (sym gates_are i))) ∙ ap (λ ns. ns ++ rest) (is ∙ ap (λ n. counts ++ replicate many n) counted)
    ∙ append_assoc counts (replicate many (pointers_of (get_or os k o))) rest ∙ sym at ∙ (λ i. counts ++ pointers_by_point (drop k (ops_are i)) (drop k (gates_are i))) ∙ same
