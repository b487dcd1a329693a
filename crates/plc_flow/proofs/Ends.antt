-- Both ends of a step are points of its operation, with the pointer locals of that operation.
use Rattle.std.proofs.Common.{◌≡◌, ℕ, zero, suc, ◌-◌, ◌<◌, ◌≤◌, List, [], ◌∷◌, length, get_or, replicate, Some, sym, ap, subst, ◌∙◌, arith}
use Rattle.std.specs.Prelude.{slice_get}
use Rattle.std.proofs.lemmas.List.{length-replicate, get_or-append_right, get_or_append_left, get_or-replicate}
use Rattle.plc_lang.specs.declared.syntax.Op.{Op}
use Rattle.plc_lang.specs.Locals.{pointers_of}
use Rattle.plc_lang.specs.Skeleton.{locals_at}
use Rattle.plc_flow.specs.declared.flow.Step.{Step}
use Rattle.plc_flow.specs.declared.flow.Gate.{Gate}
use Rattle.plc_flow.specs.declared.flow.Flow.{Flow}
use Rattle.plc_flow.specs.WellFormed.{GatesFrom, IsPointOf, IsWellFormed}
use Rattle.plc_flow.specs.Skeleton.{skeleton_of, pointers_by_point}
use Rattle.plc_flow.proofs.Gates.{ends_after, point_count}

-- how many pointer locals the k-th operation has
abbrev nth_pointers : List Op → ℕ → ℕ
nth_pointers [] k = 0
nth_pointers (o ∷ os) zero = pointers_of o
nth_pointers (o ∷ os) (suc k) = nth_pointers os k

-- the points of the k-th gate have the locals of the k-th operation
pub locals_there : (n : ℕ) (os : List Op) (gs : List Gate) (end k p : ℕ) (g : Gate) → length os ≡ length gs → GatesFrom n gs end → slice_get gs k ≡ Some g → IsPointOf g p
    → (n ≤ p) × (p < end) × (get_or (pointers_by_point os gs) (p - n) 0 ≡ nth_pointers os k)
locals_there n [] [] end k p g same h e at = absurd cc
locals_there n (o ∷ os) [] end k p g same h e at = absurd cc
locals_there n [] (x ∷ gs) end k p g same h e at = absurd (omega arith)
locals_there n (o ∷ os) (x ∷ gs) end zero p g same (first, entry_is, exit_is, wide, rest) e at =
    let is : x ≡ g = cc in
    let low : x.first ≤ p = subst (λ (y : Gate). y.first ≤ p) (sym is) at.0 in
    let high : p < x.after = subst (λ (y : Gate). p < y.after) (sym is) at.1 in
    let r = ends_after x.after gs end rest in
    let long = length-replicate (x.after - x.first) (pointers_of o) in (
      omega arith,
      omega arith,
      get_or_append_left (replicate (x.after - x.first) (pointers_of o)) (pointers_by_point os gs) 0 (p - n) (omega arith)
          ∙ get_or-replicate (x.after - x.first) (p - n) (pointers_of o) 0 (omega arith),
    )
locals_there n (o ∷ os) (x ∷ gs) end (suc k) p g same (first, entry_is, exit_is, wide, rest) e at =
    let r = locals_there x.after os gs end k p g (omega arith) rest e at in
    let long = length-replicate (x.after - x.first) (pointers_of o) in
    let there : p - n - (x.after - x.first) ≡ p - x.after = let l = r.0 in omega arith in (
      let l = r.0 in omega arith,
      r.1,
      get_or-append_right (replicate (x.after - x.first) (pointers_of o)) (pointers_by_point os gs) (x.after - x.first) (p - n) 0 long (let l = r.0 in omega arith)
          ∙ ap (λ (i : ℕ). get_or (pointers_by_point os gs) i 0) there ∙ r.2,
    )

-- both ends of a step are points with the same locals
pub record Ends (flow : Flow) (s : Step) : Type 0 where
  pub from_in : s.from.0 < length (skeleton_of flow).locals
  pub to_in : s.to.0 < length (skeleton_of flow).locals
  pub same : locals_at (skeleton_of flow) s.to.0 ≡ locals_at (skeleton_of flow) s.from.0

pub ends_of : (flow : Flow) (k : ℕ) (s : Step) → IsWellFormed flow → slice_get flow.steps k ≡ Some s → Ends flow s
ends_of flow k s w e =
    let within = w.steps k s e in
    let f = locals_there 0 flow.file.ops flow.gates flow.points s.op.0 s.from.0 within.0 (sym w.gates) w.ranges within.1 within.2 in
    let t = locals_there 0 flow.file.ops flow.gates flow.points s.op.0 s.to.0 within.0 (sym w.gates) w.ranges within.1 within.3 in
    let points = point_count flow w in
    let from_is : s.from.0 - 0 ≡ s.from.0 = omega arith in
    let to_is : s.to.0 - 0 ≡ s.to.0 = omega arith in
    record {
      from_in = let h = f.1 in omega (arith, points);
      to_in = let h = t.1 in omega (arith, points);
      same = ap (λ (p : ℕ). get_or (pointers_by_point flow.file.ops flow.gates) p 0) (sym to_is) ∙ t.2 ∙ sym f.2 ∙ ap (λ (p : ℕ). get_or (pointers_by_point flow.file.ops flow.gates) p 0) from_is;
    }
