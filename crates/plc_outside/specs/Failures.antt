-- The names whose reads failed: a list with one entry for each read that failed.
use Rattle.std.specs.Prelude.{◌≡◌, ℕ, List, [], ◌∷◌, ◌++◌, Result, IsErrOf, count_by}
use Rattle.std.specs.Str.{bytes_eq}
use Rattle.plc_outside.specs.declared.files.FileFault.{FileFault}
use Rattle.plc_outside.specs.declared.files.FileFault.TheVariants.{Failed}

-- how many reads of a name failed
abbrev pub times : List (List ℕ) → List ℕ → ℕ
times names name = count_by (λ entry. bytes_eq entry name) names

-- a read adds its name at the end exactly where it answers `Failed`
pub record NotesFailure {T : Type 0} (old new : List (List ℕ)) (name : List ℕ) (result : Result T FileFault)
    : Type 0 where
  pub failed : IsErrOf result Failed → new ≡ old ++ name ∷ []
  pub other : ¬ IsErrOf result Failed → new ≡ old
