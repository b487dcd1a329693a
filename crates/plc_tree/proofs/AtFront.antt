-- An outline at the front of tokens is read whatever stands after it, and where none is read none stands there.
use Rattle.std.proofs.Common.{◌≡◌, ◌∙◌, ◌+◌, ℕ, [], ◌∷◌, map, length, Result, Ok, Err, refl, sym, ap, arith}
use Rattle.std.specs.Prelude.{IfOk, IfErr}
use Rattle.plc_syntax.specs.Syntax.{kinds}
use Rattle.plc_syntax.specs.Stops.{AreOfOutline, HasOutline}
use Rattle.plc_syntax.specs.Trees.{OutlineTree, plain, outline_then}
use Rattle.plc_syntax.specs.declared.fault.Fault.{Fault}
use Rattle.plc_syntax.specs.declared.fault.Fault.TheVariants as faults
use Rattle.plc_syntax.specs.declared.rest.Rest.{Rest}
use Rattle.plc_syntax.specs.Answers.{Gives}
use Rattle.plc_syntax.proofs.Pieces.{Tokens}
use Rattle.plc_syntax.proofs.Combinators.{same, SameHead, Stuck}
use Rattle.plc_syntax.proofs.Unplaced.{unplaced_outline}
use Rattle.plc_tree.specs.Forms.{outline_of}
use Rattle.plc_tree.specs.Whole.{OutlineStops}
use Rattle.plc_tree.proofs.Again.{outline_gets}
use Rattle.plc_tree.proofs.Exact.{fuel, answer_is, whole_answer, left_count, stuck_answer}
use Rattle.plc_tree.proofs.FormLaws.{outline_law}
use Rattle.plc_tree.proofs.Nested.{kinds_length}

head_same : (ts : Tokens) → SameHead ts ts
head_same [] = refl
head_same (t ∷ ts) = (ts, refl)

-- what is refused is refused with any more fuel, and an outline's tokens are read with enough
none_there : (start : ℕ) (ts : Tokens) (place : ℕ) → Stuck outline_then same outline_of (fuel ts) start ts place
    → HasOutline ts → ⊥
none_there start ts place k h =
    let g = outline_gets h.0 start (map plain h.1) in
    let m = fuel ts + g.fuel in
    let refused = k.alike m k.left (omega arith) (head_same k.left) in
    let both = sym refused ∙ ap (outline_of m start) (sym k.split ∙ h.2) ∙ g.reads m (omega arith) in
    cc

stopped : (start : ℕ) (ts : Tokens) (n at : ℕ) → n ≡ fuel ts → outline_of n start ts ≡ Err at
    → OutlineStops start ts (faults.Syntax at)
stopped start ts n at l h =
    let stop = stuck_answer outline_then outline_of outline_law unplaced_outline (λ x at. outline_gets x at []) start ts
    n at l h in
    let syntax_fault = answer_is outline_then outline_of outline_law unplaced_outline (λ x at. outline_gets x at []) start ts n
    (Err at) l h in
    (stop.0, record { fault = stop.1; none = none_there start ts at syntax_fault.read }, stop.2)

-- what the answer of the reader says
module _ {A : Type 0} (view : A → OutlineTree) (start : ℕ) (ts : Tokens) (n : ℕ) (l : n ≡ fuel ts) where
  pub outline_there : (answer : Result (A × Rest) Fault) → Gives view answer (outline_of n start ts)
      → IfOk answer (λ r. AreOfOutline (view r.0) start ts (kinds r.1.tokens.now))
  outline_there (Ok r) h = whole_answer outline_then outline_of outline_law unplaced_outline
      (λ x at. outline_gets x at []) start ts n (view r.0) r.1.at (kinds r.1.tokens.now) l h
  outline_there (Err e) h = tt

  pub outline_end : (answer : Result (A × Rest) Fault) → Gives view answer (outline_of n start ts)
      → IfOk answer (λ r. r.1.at + length r.1.tokens.now ≡ start + length ts)
  outline_end (Ok r) h =
      let count = left_count outline_then outline_of outline_law unplaced_outline (λ x at. outline_gets x at []) start ts
      n (view r.0) r.1.at (kinds r.1.tokens.now) l h in
      let left = kinds_length r.1.tokens.now in
      omega arith
  outline_end (Err e) h = tt

  pub outline_stops : (answer : Result (A × Rest) Fault) → Gives view answer (outline_of n start ts)
      → IfErr answer (OutlineStops start ts)
  outline_stops (Ok r) h = tt
  outline_stops (Err (faults.Syntax at)) h = stopped start ts n at l h
  outline_stops (Err faults.Memory) h = tt
