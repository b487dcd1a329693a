-- The points of different operations are different, and all of them are counted.
use Rattle.std.proofs.Common.{◌≡◌, ℕ, zero, suc, ◌+◌, ◌-◌, ◌<◌, ◌≤◌, List, [], ◌∷◌, length, replicate, slice_get, Some, refl, sym, ap, subst, arith, length-append}
use Rattle.std.proofs.lemmas.List.{length-replicate}
use Rattle.plc_lang.specs.declared.syntax.Op.{Op}
use Rattle.plc_lang.specs.Locals.{pointers_of}
use Rattle.plc_flow.specs.declared.flow.Flow.{Flow}
use Rattle.plc_flow.specs.declared.flow.Gate.{Gate}
use Rattle.plc_flow.specs.Skeleton.{pointers_by_point, skeleton_of}
use Rattle.plc_flow.specs.WellFormed.{IsPointOf, IsWellFormed, GatesFrom}

-- gates end no earlier than they begin
pub gates_rise : (n end : ℕ) (gs : List Gate) → GatesFrom n gs end → n ≤ end
gates_rise n end [] all = omega arith
gates_rise n end (g ∷ gs) all = let later = gates_rise g.after end gs all.4 in let wide = all.3 in omega arith

-- operations end where they begin or later
pub ends_after : (n : ℕ) (gs : List Gate) (end : ℕ) → GatesFrom n gs end → n ≤ end
ends_after n [] end h = omega arith
ends_after n (g ∷ gs) end (first, entry_is, exit_is, wide, rest) = let r = ends_after g.after gs end rest in omega arith

-- each point of the operations has its locals
pub points_counted : (n end : ℕ) (os : List Op) (gs : List Gate) → length os ≡ length gs → GatesFrom n gs end → n + length (pointers_by_point os gs) ≡ end
points_counted n end [] [] same all = omega arith
points_counted n end (o ∷ os) [] same all = absurd (omega arith)
points_counted n end [] (g ∷ gs) same all = absurd (omega arith)
points_counted n end (o ∷ os) (g ∷ gs) same (first, entry_is, exit_is, wide, rest) =
    let later = points_counted g.after end os gs (omega arith) rest in
    omega (arith, later, length-append (replicate (g.after - g.first) (pointers_of o)) (pointers_by_point os gs), length-replicate (g.after - g.first) (pointers_of o))

pub point_count : (flow : Flow) → IsWellFormed flow → length (skeleton_of flow).locals ≡ flow.points
point_count flow well = let e = points_counted 0 flow.points flow.file.ops flow.gates (sym well.gates) well.ranges in omega (arith, e)

-- a gate among them begins where they begin or later, and its entry and exit are its own
pub record IsGate (n : ℕ) (g : Gate) : Type 0 where
  pub from : n ≤ g.first
  pub entry : IsPointOf g g.entry.0

pub gate_from : (n end : ℕ) (gs : List Gate) (k : ℕ) (g : Gate) → GatesFrom n gs end → slice_get gs k ≡ Some g → IsGate n g
gate_from n end [] k g all at = cc
gate_from n end (x ∷ xs) zero g all at =
    let same : x ≡ g = cc in
    subst (IsGate n) same (record { from = omega (arith, all.0); entry = (omega (arith, all.0, all.1), omega (arith, all.0, all.1, all.3)) })
gate_from n end (x ∷ xs) (suc k) g all at =
    let later = gate_from x.after end xs k g all.4 at in
    record { from = omega (arith, all.3, later.from); entry = later.entry }

pub one_gate : (n end : ℕ) (gs : List Gate) (i j : ℕ) (g h : Gate) (p : ℕ) → GatesFrom n gs end → slice_get gs i ≡ Some g → slice_get gs j ≡ Some h → IsPointOf g p → IsPointOf h p → i ≡ j
one_gate n end [] i j g h p all at other here there = cc
one_gate n end (x ∷ xs) zero zero g h p all at other here there = refl
one_gate n end (x ∷ xs) zero (suc j) g h p all at other here there =
    let same : x ≡ g = cc in
    let first : p < x.after = subst (λ (y : Gate). p < y.after) (sym same) here.1 in
    let later = (gate_from x.after end xs j h all.4 other).from in
    absurd (omega (arith, first, later, there.0))
one_gate n end (x ∷ xs) (suc i) zero g h p all at other here there =
    let same : x ≡ h = cc in
    let first : p < x.after = subst (λ (y : Gate). p < y.after) (sym same) there.1 in
    let later = (gate_from x.after end xs i g all.4 at).from in
    absurd (omega (arith, first, later, here.0))
one_gate n end (x ∷ xs) (suc i) (suc j) g h p all at other here there = ap suc (one_gate x.after end xs i j g h p all.4 at other here there)
