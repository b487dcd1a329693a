-- The two words for an active pointer.
use Rattle.std.proofs.Common.{◌≡◌, ℕ, true, false, inl, inr, ◌⊎◌}
use Rattle.std.proofs.lemmas.Bool.{cases_Bool, eqb-false, ne_eqb}
use Rattle.plc_lang.specs.declared.syntax.Var.{Var}
use Rattle.plc_mem.specs.State.{State, is_null}
use Rattle.plc_mem.specs.Primitives.{cell_at}
use Rattle.plc_mem.specs.Coherence.{IsCoherent}
use Rattle.plc_sound.specs.Claims as types
use Rattle.plc_erasure.specs.Erasure as erasure
use Rattle.plc_safety.specs.Joint.{ActiveWordsAgree}

-- what erasure gives is what types ask for
pub active_for_types : (s : State) (t : ℕ) (p : Var) → erasure.IsActive s t p → types.IsActive s (cell_at s t p)
active_for_types s t p active some = (active.valid, active.kept (ne_eqb (cell_at s t p).number 0 some))

-- and the other way where null is valid
active_for_erasure : (s : State) (t : ℕ) (p : Var) → IsCoherent s → types.IsActive s (cell_at s t p) → erasure.IsActive s t p
active_for_erasure s t p coherent active = record {
  valid = valid_by (cases_Bool (is_null (cell_at s t p)));
  kept = λ some. (active (eqb-false (cell_at s t p).number 0 some)).1;
}
  where
    valid_by : (is_null (cell_at s t p) ≡ true) ⊎ (is_null (cell_at s t p) ≡ false) → (cell_at s t p).valid ≡ true
    valid_by (inl null) = (coherent.cells _).null null
    valid_by (inr some) = (active (eqb-false (cell_at s t p).number 0 some)).0

pub active_words_agree : ActiveWordsAgree
active_words_agree s t p coherent = (active_for_types s t p, active_for_erasure s t p coherent)
