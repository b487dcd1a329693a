-- The answers to a read, by what it finds.
use Rattle.std.proofs.Common.{◌≡◌, ℕ, ◌≤◌, List, length, Option, Some, None, Ok, Err, Vec, arith}
use Rattle.std.specs.Prelude.{◌≢◌, Result, IfOk, IfErr}
use Rattle.std.proofs.lemmas.Grind.{common_steps}
use Rattle.plc_outside.specs.StoredFiles.{Answers}
use Rattle.plc_outside.specs.declared.files.FileFault.{FileFault}
use Rattle.plc_outside.specs.declared.files.FileFault.TheVariants.{TooLong, Memory}

module _ {Z : Type 0} where
  pub Answers-none : (bytes : Option (List ℕ)) (max : ℕ) (fault : FileFault) → bytes ≡ None → fault ≢ TooLong → Answers {Z = Z} bytes max (Err fault)
  Answers-none bytes max fault e h = grind (arith, common_steps)

  -- the bytes were there, and a read hands them on or finds no memory to note them
  pub Answers-noted : (bytes : Option (List ℕ)) (max : ℕ) (v : Vec ℕ Z) (r : Result (Vec ℕ Z) FileFault) → bytes ≡ Some v.items → length v.items ≤ max → IfOk r (λ w. w ≡ v) → IfErr r (λ e. e ≡ Memory) → Answers bytes max r
  Answers-noted bytes max v (Ok w) e h same fault = grind (arith, common_steps)
  Answers-noted bytes max v (Err x) e h same fault = grind (arith, common_steps)

  pub Answers-memory : (bytes : Option (List ℕ)) (content : List ℕ) (max : ℕ) → bytes ≡ Some content → length content ≤ max → Answers {Z = Z} bytes max (Err Memory)
  Answers-memory bytes content max e h = grind (arith, common_steps)
