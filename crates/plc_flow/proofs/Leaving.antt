-- A step that leaves a point of an operation is of that operation.
use Rattle.std.proofs.Common.{◌≡◌, ℕ, zero, suc, Bool, true, false, cond, Some, List, [], ◌∷◌, filter, slice_get, refl, sym, ◌∙◌, subst}
use Rattle.std.proofs.lemmas.Bool.{eqb-true}
use Rattle.plc_flow.specs.declared.flow.Gate.{Gate}
use Rattle.plc_flow.specs.declared.flow.Flow.{Flow}
use Rattle.plc_flow.specs.WellFormed.{IsPointOf, IsWellFormed}
use Rattle.plc_flow.specs.Points.{leaves, StepsStayInTheirGate}
use Rattle.plc_flow.proofs.Gates.{one_gate}

pub filter_member : {A : Type 0} (p : A → Bool) (xs : List A) (n : ℕ) (x : A) → slice_get (filter p xs) n ≡ Some x → (k : ℕ) × (slice_get xs k ≡ Some x) × (p x ≡ true)
filter_member p [] n x at = cc
filter_member {A = A} p (y ∷ ys) n x at = go (p y) refl n (λ m there. filter_member p ys m x there) at
  where
    go : (b : Bool) → p y ≡ b → (n : ℕ) → ((m : ℕ) → slice_get (filter p ys) m ≡ Some x → (k : ℕ) × (slice_get ys k ≡ Some x) × (p x ≡ true)) → slice_get (cond b (y ∷ filter p ys) (filter p ys)) n ≡ Some x → (k : ℕ) × (slice_get (y ∷ ys) k ≡ Some x) × (p x ≡ true)
    go true is zero later at = (0, at, subst (λ (z : A). p z ≡ true) (let e : y ≡ x = cc in e) is)
    go true is (suc n) later at = let r = later n at in (suc r.0, r.1, r.2)
    go false is n later at = let r = later n at in (suc r.0, r.1, r.2)

some_gate : (a b : Gate) → Some a ≡ Some b → a ≡ b
some_gate a b e = cc

pub stay_in_their_gate : (flow : Flow) → IsWellFormed flow → StepsStayInTheirGate flow
stay_in_their_gate flow well op gate p nth s opens within at =
    let m = filter_member (leaves p) flow.steps nth s at in
    let w = well.steps m.0 s m.1 in
    let from : s.from.0 ≡ p = eqb-true s.from.0 p m.2 in
    let same : s.op.0 ≡ op = one_gate 0 flow.points flow.gates s.op.0 op w.0 gate p well.ranges w.1 opens (subst (IsPointOf w.0) from w.2) within in
    let its : w.0 ≡ gate = some_gate w.0 gate (sym (subst (λ i. slice_get flow.gates i ≡ Some w.0) same w.1) ∙ opens) in
    record { place = m.0; there = m.1; of_op = same; leads = subst (λ g. IsPointOf g s.to.0) its w.3 }
