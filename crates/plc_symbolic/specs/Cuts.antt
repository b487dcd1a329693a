-- A draft that is cut back to what it was before its last clauses were written.
use Rattle.std.specs.Prelude.{◌≡◌, ℕ, length}
use Rattle.plc_symbolic.specs.Terms.{Clauses}
use Rattle.plc_symbolic.specs.Numbering.{Drafted, written_all}
use Rattle.plc_symbolic.specs.Drafts.{IsDraft}

-- clauses were written after an earlier draft, which has so many terms and clauses
pub record IsWrittenAfter (earlier : Drafted) (terms clauses : ℕ) (d : Drafted) : Type 0 where
  pub draft : IsDraft earlier
  pub later : Clauses
  pub is : d ≡ written_all earlier later
  pub terms_then : terms ≡ length earlier.terms
  pub clauses_then : clauses ≡ length earlier.clauses

-- there is such a draft
abbrev pub CanCut : ℕ → ℕ → Drafted → Type 0
CanCut terms clauses d = (earlier : Drafted) × IsWrittenAfter earlier terms clauses d
