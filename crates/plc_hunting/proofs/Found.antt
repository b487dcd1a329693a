-- What is answered where a run was found, or none.
use Rattle.std.proofs.Common.{◌≡◌, ℕ, Bool, true, false, List, Option, Some, None, IfSome, IsTrue, refl, ◌∙◌, inl, inr}
use Rattle.plc_explore.specs.declared.trail.Trail.{Trail}
use Rattle.plc_check.specs.declared.judged.Judged.{Judged}
use Rattle.plc_cli.specs.Statuses.{holds, fails}
use Rattle.plc_hunting.specs.Racing.{IsHuntedFreely}
use Rattle.plc_hunting.specs.Texts.{none_met, run_text}
use Rattle.plc_hunting.specs.Trails.{TrailRaces}

pub hunted_freely : (j : Judged) (races : Bool) (run : Option Trail) (text written : List ℕ) (status : ℕ) → IfSome run (λ (r : Trail). text ≡ run_text j.flow false r.threads r.moves) → (IsTrue races → TrailRaces j run) → (IsTrue races → (status ≡ holds) × (written ≡ text)) → (races ≡ false → (status ≡ fails) × (written ≡ none_met)) → IsHuntedFreely j status written
hunted_freely j false run text written status told racing found nothing = inr (nothing refl)
hunted_freely j true None text written status told racing found nothing = absurd (racing refl)
hunted_freely j true (Some r) text written status told racing found nothing =
    let f = found refl in inl (f.0, record { threads = r.threads; moves = r.moves; written = f.1 ∙ told; races = racing refl })
