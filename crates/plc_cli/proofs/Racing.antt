-- No run of a file that `check` answers with 0 races: its flow has a typing, and its outline holds.
use Rattle.std.proofs.Common.{ℕ, List}
use Rattle.plc_flow.specs.Lowering.{flow_of}
use Rattle.plc_run.specs.Run.{NeverRaces}
use Rattle.plc_sound.proofs.Runs.{true_claims_suffice}
use Rattle.plc_erasure.proofs.Runs.{true_claims}
use Rattle.plc_outline_sound.proofs.Kept.{held_claims}
use Rattle.plc_safety.proofs.Joint.{claims_suffice, held_suffices}
use Rattle.plc_safety.specs.Joint.{TypedAndHeldProgramsAreSafe}
use Rattle.plc_parse.specs.declared.unit.Unit.{Unit as FileUnit}
use Rattle.plc_check.specs.Loading.{IsFileOf}
use Rattle.plc_check.proofs.Fitting.{all_files_fit}
use Rattle.plc_cli.specs.Headline.{IsProved}

pub typed_and_held_are_safe : TypedAndHeldProgramsAreSafe
typed_and_held_are_safe = held_suffices (claims_suffice true_claims_suffice true_claims) held_claims

pub never_races : (bytes : List ℕ) (u : FileUnit) → IsFileOf bytes u → IsProved u → NeverRaces (flow_of u.file) u.observer
never_races bytes u spelled proved =
    let fits = all_files_fit bytes u spelled in
    typed_and_held_are_safe (flow_of u.file) u.observer u.outline fits.fits fits.observer.well_formed proved.typed proved.held
