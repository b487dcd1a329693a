-- What is due for a unit that was loaded is the answer to its bytes, and what is told of something right is due.
use Rattle.std.proofs.Common.{◌≡◌, inr, ℕ, List, Result, Ok, Err, subst}
use Rattle.std.specs.Prelude.{IfOk}
use Rattle.plc_base.specs.FileSizes.{largest_file}
use Rattle.plc_outside.specs.Known.{KnownFiles}
use Rattle.plc_check.specs.declared.judged.Judged.{Judged}
use Rattle.plc_check.specs.Answered.{IsLoaded, judged_of}
use Rattle.plc_cli.specs.declared.answer.Answer.{Answer}
use Rattle.plc_cli.specs.Files.{IsAnsweredFile, IsTold}
use Rattle.plc_cli.specs.Reads.{IsDueForFile, IsFound}

loaded_answers : (IsDue : Judged → ℕ → List ℕ → Type 0) (bytes : List ℕ) (j : Judged) (status : ℕ) (text : List ℕ) → IsLoaded bytes (Ok j) → IsDue j status text → IsAnsweredFile (λ u. IsDue (judged_of u)) bytes status text
loaded_answers IsDue bytes j status text loaded h = inr (record { unit = loaded.0; spelled = loaded.1; answer = subst (λ (x : Judged). IsDue x status text) loaded.2 h })

-- a fact on the value, where there is one, from another
pub if_ok_from : {A E : Type 0} (r : Result A E) (P Q : A → Type 0) → ((a : A) → P a → Q a) → IfOk r P → IfOk r Q
if_ok_from (Ok a) P Q f h = f a h
if_ok_from (Err e) P Q f h = tt

-- where an answer is due for what was loaded, it's the answer to the bytes
pub if_loaded : {E : Type 0} (r : Result Answer E) (IsDue : Judged → ℕ → List ℕ → Type 0) (bytes : List ℕ) (j : Judged) → IsLoaded bytes (Ok j)
    → IfOk r (λ answer. IsDue j answer.status answer.text.items)
    → IfOk r (λ answer. IsAnsweredFile (λ u. IsDue (judged_of u)) bytes answer.status answer.text.items)
if_loaded r IsDue bytes j loaded h =
    if_ok_from r _ _ (λ answer h. loaded_answers IsDue bytes j answer.status answer.text.items loaded h) h

-- where bytes were found in a file, what is answered to them is due for the file
pub if_found : {E : Type 0} (r : Result Answer E) (old new : KnownFiles) (name : List ℕ)
    (Answers : List ℕ → ℕ → List ℕ → Type 0) (bytes now : List ℕ)
    → IsFound old new name largest_file bytes → now ≡ bytes
    → IfOk r (λ answer. Answers now answer.status answer.text.items)
    → IfOk r (λ answer. IsDueForFile old new name (λ b. Answers b answer.status answer.text.items)
    answer.status answer.text.items)
if_found r old new name Answers bytes now found e h =
    if_ok_from r _ _
    (λ answer h. inr (
      bytes,
      record { others = found.others; read = found.read; gave = found.gave },
      subst (λ (b : List ℕ). Answers b answer.status answer.text.items) e h,
    )) h

-- where an answer has the status and the text of something right, it tells that
pub if_told : {A E : Type 0} (r : Result Answer E) (IsRight : A → Type 0) (status_of : A → ℕ) (text_of : A → List ℕ) (what : A) → IsRight what
    → IfOk r (λ answer. (answer.status ≡ status_of what) × (answer.text.items ≡ text_of what))
    → IfOk r (λ answer. IsTold IsRight status_of text_of answer.status answer.text.items)
if_told r IsRight status_of text_of what right h =
    if_ok_from r _ _ (λ answer h. record { what = what; right = right; status_is = h.0; text_is = h.1 }) h
