-- A label's point: its operation, the place of a claim's local among the locals there, and the local's type.
use Rattle.std.proofs.Common.{◌≡◌, ℕ, zero, suc, ◌+◌, ◌-◌, ◌<◌, List, [], ◌∷◌, length, replicate, get_or}
use Rattle.std.proofs.Common.{slice_get, count_by, Option, Some, sym, ap, ◌∙◌, subst, arith}
use Rattle.std.proofs.lemmas.List.{length-replicate, get_or-replicate, get_or_append_left, get_or-append-add}
use Rattle.std.proofs.lemmas.Option.{slice_get_within, slice_get-get_or, get_or_from_slice_get}
use Rattle.plc_base.specs.declared.ids.PointId.{PointId}
use Rattle.plc_lang.specs.declared.syntax.Local.{Local}
use Rattle.plc_lang.specs.declared.syntax.Op.{Op}
use Rattle.plc_lang.specs.declared.syntax.Var.TheVariants.{Local as local}
use Rattle.plc_lang.specs.Locals.{is_pointer, pointers_of}
use Rattle.plc_lang.specs.Numbering.{pointer_place, pointer_number}
use Rattle.plc_lang.specs.Skeleton.{locals_at}
use Rattle.plc_lang.proofs.Numbers.{numbers_are_one}
use Rattle.plc_auto.specs.declared.observer.Observer.{Observer}
use Rattle.plc_flow.specs.declared.flow.Flow.{Flow}
use Rattle.plc_flow.specs.declared.flow.Gate.{Gate}
use Rattle.plc_flow.specs.Skeleton.{pointers_by_point, skeleton_of}
use Rattle.plc_flow.specs.WellFormed.{GatesFrom, IsPointOf, FlowFits}
use Rattle.plc_flow.specs.WellSorted.{IsPointOfLabel, FlowIsWellSorted}
use Rattle.plc_flow.proofs.Gates.{gate_from, point_count}
use Rattle.plc_type.specs.declared.env.Env.{Env}
use Rattle.plc_type.specs.Types.{bare, null_type}
use Rattle.plc_type.specs.Environments.{bottom}
use Rattle.plc_xfer.specs.Rules.{type_of}
use Rattle.plc_xfer.specs.Typings.{IsTyping, env_at}
use Rattle.plc_oblig.proofs.Places.{there}
use Rattle.plc_oblig.proofs.Standing.{Stands, op_locals}
use Rattle.plc_at.specs.declared.claim.LocationClaim.{LocationClaim}
use Rattle.plc_at.specs.Claims.{ClaimFits, locals_or_none, locals_by_label}
use Rattle.plc_at.specs.Extended.{place_or_first, claimed_place, local_type, env_of, claimed_type}

-- ---- how many pointer locals there are at a point

-- i points after the first of these gates
counted_from : (n end : ℕ) (os : List Op) (gs : List Gate) (k i : ℕ) (g : Gate) (o : Op) → GatesFrom n gs end
    → slice_get gs k ≡ Some g → slice_get os k ≡ Some o → IsPointOf g (n + i)
    → get_or (pointers_by_point os gs) i 0 ≡ pointers_of o
counted_from n end [] gs k i g o all opens named at = cc
counted_from n end (x ∷ os) [] k i g o all opens named at = cc
counted_from n end (x ∷ os) (y ∷ gs) zero i g o all opens named at =
    let gate : y ≡ g = cc in
    let operation : x ≡ o = cc in
    let high : n + i < y.after = subst (λ (z : Gate). n + i < z.after) (sym gate) at.1 in
    let wide = length-replicate (y.after - y.first) (pointers_of x) in
    get_or_append_left (replicate (y.after - y.first) (pointers_of x)) (pointers_by_point os gs) 0 i
    (omega (arith, high, wide, all.0))
    ∙ get_or-replicate (y.after - y.first) i (pointers_of x) 0 (omega (arith, high, all.0)) ∙ ap pointers_of operation
counted_from n end (x ∷ os) (y ∷ gs) (suc k) i g o all opens named at =
    let later = (gate_from y.after end gs k g all.4 opens).from in
    let wide = length-replicate (y.after - y.first) (pointers_of x) in
    let j = n + i - y.after in
    let place : i ≡ length (replicate (y.after - y.first) (pointers_of x)) + j =
    omega (arith, wide, later, at.0, all.0, all.3) in
    let there : n + i ≡ y.after + j = omega (arith, later, at.0) in
    ap (λ (m : ℕ). get_or (pointers_by_point (x ∷ os) (y ∷ gs)) m 0) place
    ∙ get_or-append-add (replicate (y.after - y.first) (pointers_of x)) (pointers_by_point os gs) j 0
    ∙ counted_from y.after end os gs k j g o all.4 opens named (subst (IsPointOf g) there at)

-- ---- the operation of a label's point

-- the operation in which a claim's label stands, and the claim's local there
pub record Placed (flow : Flow) (claim : LocationClaim) (p : ℕ) : Type 0 where
  pub op : ℕ
  pub operation : Op
  pub stands : Stands flow op p operation
  pub few : claim.local < pointers_of operation
  pub number : pointer_number operation.locals (claimed_place flow claim) ≡ claim.local

-- a pointer local is found at the place that its number has
numbered : (ls : List Local) (v : ℕ) → v < count_by is_pointer ls
    → pointer_number ls (place_or_first (pointer_place ls v)) ≡ v
numbered ls v few =
    let place = (numbers_are_one ls).pointer_there v few in
    ap (λ (x : Option ℕ). pointer_number ls (place_or_first x)) place.1
    ∙ (numbers_are_one ls).of_pointer v place.0 place.1

-- by the operation with the number
placed_in : (flow : Flow) (o : Observer) (claim : LocationClaim) (p : ℕ) (q : PointId) → ClaimFits flow claim → p ≡ q.0
    → (i : IsPointOfLabel flow claim.label q) → (operation : Op) → slice_get flow.file.ops i.op ≡ Some operation
    → Placed flow claim p
unfolding locals_by_label
placed_in flow o claim p q claimed same i operation named =
    let locals : locals_by_label flow claim.label ≡ operation.locals =
    ap (locals_or_none flow) i.stands ∙ op_locals flow i.op operation named in
    let few = subst (λ (ls : List Local). claim.local < count_by is_pointer ls) locals claimed.local in
    let gate_is = subst (IsPointOf i.gate) (sym same) i.within in
    record {
      op = i.op;
      operation = operation;
      stands = record { gate = i.gate; opens = i.opens; within = gate_is; named = named };
      few = few;
      number =
          ap (λ (ls : List Local). pointer_number operation.locals (place_or_first (pointer_place ls claim.local)))
          locals ∙ numbered operation.locals claim.local few;
    }

-- where the label has a point, there is such an operation
pub placed : (flow : Flow) (o : Observer) (claim : LocationClaim) (p : ℕ) (q : PointId) → FlowFits flow
    → FlowIsWellSorted flow → ClaimFits flow claim → slice_get flow.labels claim.label ≡ Some q → p ≡ q.0
    → Placed flow claim p
placed flow o claim p q fits sorted claimed at same =
    let i = sorted.each_label claim.label q at in
    let inside = slice_get_within flow.gates i.op i.gate i.opens in
    let x = there flow.file.ops i.op (omega (arith, inside, fits.well.gates)) in
    placed_in flow o claim p q claimed same i x.0 x.1

-- ---- the type of the claim's local

-- an entry that is there is read whatever stands for those that aren't
same_entry : {A : Type 0} (xs : List A) (i : ℕ) (d e : A) → i < length xs → get_or xs i d ≡ get_or xs i e
same_entry xs i d e small = get_or_from_slice_get xs i (get_or xs i e) d (slice_get-get_or xs i e small)

-- the type that a claim is about is that of its local at the point
pub claimed_is : (flow : Flow) (o : Observer) (typing : List Env) (claim : LocationClaim) (p : ℕ) (q : PointId)
    → FlowFits flow → IsTyping o (skeleton_of flow) typing → slice_get flow.labels claim.label ≡ Some q → p ≡ q.0
    → Placed flow claim p → type_of (env_at typing p) (local claim.local) ≡ claimed_type flow typing claim
unfolding type_of
claimed_is flow o typing claim p q fits typed at same x =
    let e = env_at typing p in
    let point : p < length (skeleton_of flow).locals =
    subst (λ (n : ℕ). n < length (skeleton_of flow).locals) (sym same)
    (omega (arith, point_count flow fits.well, fits.well.labels claim.label q at)) in
    let start : p ≡ 0 + p = omega arith in
    let counted : locals_at (skeleton_of flow) p ≡ pointers_of x.operation =
    counted_from 0 flow.points flow.file.ops flow.gates x.op p x.stands.gate x.operation fits.well.ranges
    x.stands.opens x.stands.named (subst (IsPointOf x.stands.gate) start x.stands.within) in
    let small : claim.local < length e.locals =
    omega (arith, x.few, counted, (typed.pretyping.environments p point).count) in
    let env : slice_get typing q.0 ≡ Some e =
    ap (slice_get typing) (sym same)
    ∙ slice_get-get_or typing p (bottom 0 0) (omega (arith, point, typed.pretyping.count)) in
    same_entry e.locals claim.local (bare e.w) null_type small
    ∙ sym (ap (λ (o : Option PointId). local_type claim.local (env_of typing o)) at ∙ ap (local_type claim.local) env)
