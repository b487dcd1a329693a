-- From the answer that is due to what a 0 of `locate` says: the file is safe, and each claim is true in every state of
-- every run, since the outline that the claims extend holds.
use Rattle.std.proofs.Common.{◌≡◌, inl, inr, ℕ, List, Option, Some, sym, subst, arith, length-append}
use Rattle.std.specs.Prelude.{All}
use Rattle.plc_base.specs.FileSizes.{largest_file}
use Rattle.plc_outside.specs.Known.{KnownFiles, KnownSink}
use Rattle.plc_parse.specs.declared.unit.Unit.{Unit as FileUnit}
use Rattle.plc_flow.specs.Lowering.{flow_of}
use Rattle.plc_type.specs.declared.env.Env.{Env}
use Rattle.plc_reclaim.specs.Meanings.{Meanings}
use Rattle.plc_vocabulary.specs.Fit.{Fits}
use Rattle.plc_oblig.specs.Outlines.{OutlineHolds}
use Rattle.plc_run.specs.Run.{NeverRaces}
use Rattle.plc_run.proofs.Observed.{observed}
use Rattle.plc_sound.proofs.Moves.{sound}
use Rattle.plc_erasure.proofs.Runs.{erasure, true_claims}
use Rattle.plc_outline_sound.proofs.Kept.{held_outlines}
use Rattle.plc_safety.specs.Located.{ClaimsAreTrue, LocatedClaimsAreTrue}
use Rattle.plc_safety.proofs.Located.{located_claims}
use Rattle.plc_at.specs.declared.claim.LocationClaim.{LocationClaim}
use Rattle.plc_at.specs.Claims.{ClaimFits}
use Rattle.plc_at.specs.Extended.{added_items}
use Rattle.plc_at.proofs.ExtendedFits.{extended_fits}
use Rattle.plc_at.proofs.ReadingSoFar.{spelled_fit}
use Rattle.plc_check.specs.declared.verdict.Verdict.{Verdict}
use Rattle.plc_check.specs.declared.verdict.Verdict.TheVariants.{Safe, Untyped, Unproved}
use Rattle.plc_check.specs.Fit.{JudgedFits}
use Rattle.plc_check.specs.Loading.{IsFileOf}
use Rattle.plc_check.specs.Answered.{judged_of}
use Rattle.plc_check.specs.Outlined.{outlined}
use Rattle.plc_check.specs.Verdicts.{IsVerdictOn}
use Rattle.plc_check.proofs.Fitting.{all_files_fit}
use Rattle.plc_cli.specs.Answer.{IsDueFor, IsWritten, Outcome}
use Rattle.plc_cli.specs.Locations.{AreClaimsAnswered, IsAnsweredWith, IsLocationAnswered, IsLocationOf, AreExtended}
use Rattle.plc_cli.specs.Locations.{extended_of, IsLocatedProgram, IsLocatedPair, LocatedRuns}
use Rattle.plc_cli.specs.Reads.{IsDueForPair}
use Rattle.plc_cli.specs.Requests.{Request, Locate}
use Rattle.plc_cli.specs.Statuses.{holds}
use Rattle.plc_cli.specs.Verdicts.{verdict_status}
use Rattle.plc_cli.proofs.Racing.{typed_and_held_are_safe}
use Rattle.plc_cli.proofs.Suggested.{whole_status}
use Rattle.plc_cli.proofs.TwoReads.{told_is, unread_pair_status}

located_claims_are_true : LocatedClaimsAreTrue
located_claims_are_true = located_claims sound erasure true_claims held_outlines observed

-- ---- what the answer to claims says

module _ (status : ℕ) (text : List ℕ) (zero : status ≡ holds) where
  module _ (u : FileUnit) (judged_fits : JudgedFits (judged_of u)) (claims : List LocationClaim)
      (fit : All (ClaimFits (flow_of u.file)) claims) where
    -- no run races, and the claims are true
    abbrev IsLocatedSafely : Type 0
    IsLocatedSafely = NeverRaces (flow_of u.file) u.observer × ClaimsAreTrue (flow_of u.file) u.observer claims

    module _ (typing : List Env) (extends : AreExtended (judged_of u) claims typing) where
      fits : Fits (flow_of u.file) (extended_of (judged_of u) typing claims)
      fits = record {
        flow_fits = judged_fits.fits.flow_fits;
        file = judged_fits.fits.file;
        sorted = judged_fits.fits.sorted;
        outline_fits = extended_fits (flow_of u.file) u.observer typing claims u.outline
            judged_fits.fits.outline_fits fit
            (rw (sym (length-append u.outline.items (added_items (flow_of u.file) u.observer typing claims)))
            extends.few);
      }

      held : OutlineHolds (flow_of u.file) (extended_of (judged_of u) typing claims) → IsLocatedSafely
      held holds_so =
          let typed = extends.strongest.typed in
          let w = judged_fits.observer.well_formed in (
            typed_and_held_are_safe (flow_of u.file) u.observer (extended_of (judged_of u) typing claims) fits w
                (typing, typed) holds_so,
            located_claims_are_true (flow_of u.file) u.observer u.outline typing claims fits w typed fit extends.located
                holds_so,
          )

      safe : (verdict : Verdict)
          → IsVerdictOn (outlined (judged_of u) (extended_of (judged_of u) typing claims)) verdict
          → status ≡ verdict_status verdict → IsLocatedSafely
      safe (Safe env count) right status_is = held right.2
      safe (Untyped step prim fault) right status_is = absurd (omega (arith, status_is, zero))
      safe (Unproved o set model) right status_is = absurd (omega (arith, status_is, zero))

      extended_safe : IsAnsweredWith (judged_of u) (extended_of (judged_of u) typing claims) claims status text
          → IsLocatedSafely
      extended_safe (inl large) = absurd (omega (arith, large.status_is, zero))
      extended_safe (inr told) = safe told.answer.what told.answer.right told.answer.status_is

    claims_safe : AreClaimsAnswered (judged_of u) claims status text → IsLocatedSafely
    claims_safe (inl untyped) = absurd (omega (arith, untyped.status_is, zero))
    claims_safe (inr (inl unlocated)) = absurd (omega (arith, unlocated.status_is, zero))
    claims_safe (inr (inr (inl many))) = absurd (omega (arith, many.status_is, zero))
    claims_safe (inr (inr (inr extended))) = extended_safe extended.typing extended.extends extended.answer

  module _ (bytes second : List ℕ) where
    second_safe : (u : FileUnit) → IsFileOf bytes u → IsLocationAnswered (judged_of u) second status text
        → IsLocatedProgram bytes second
    second_safe u spelled (inl none) = absurd (omega (arith, none.status_is, zero))
    second_safe u spelled (inr (inl none)) = absurd (omega (arith, none.status_is, zero))
    second_safe u spelled (inr (inr read)) =
        let safely = claims_safe u (all_files_fit bytes u spelled) read.claims
        (spelled_fit (flow_of u.file) u.observer _ read.claims read.read) read.answer in
        record {
          unit = u;
          spelled = spelled;
          tokens = read.tokens;
          spelled_second = read.spelled;
          claims = read.claims;
          read = read.read;
          safe = safely.0;
          true_claims = safely.1;
        }

    located_at_0 : IsLocationOf bytes second status text → IsLocatedProgram bytes second
    located_at_0 (inl refused) = absurd (omega (arith, refused.status_is, zero))
    located_at_0 (inr file) = second_safe file.unit file.spelled file.answer

-- ---- the bytes that are judged

module _ (reclaimers : List Meanings) (request : Option Request) (old new : KnownFiles) (sink sink_now : KnownSink)
    (result : ℕ) (outcome : Outcome reclaimers request old new sink sink_now result) where
  module _ (name claims : List ℕ) (asked : request ≡ Some (Locate name claims)) (zero : result ≡ holds) where
    -- what is due for the two files with this status and this text
    abbrev IsDue : ℕ → List ℕ → Type 0
    IsDue status text =
        IsDueForPair old new name claims largest_file (λ bytes second. IsLocationOf bytes second status text) status text

    pair : (text : List ℕ) → IsDue result text
        → IsLocatedPair old new name claims
    pair text (inl none) = absurd (omega (arith, zero, unread_pair_status result text _ _ _ _ _ none))
    pair text (inr due) = record {
      bytes = due.0;
      second = due.1;
      given = due.2;
      located = located_at_0 result text zero due.0 due.1 due.3;
    }

    of_written : (w : IsWritten reclaimers request old new sink sink_now result) → result ≡ w.status
        → IsLocatedPair old new name claims
    of_written w is =
        let due = subst (λ (r : Option Request). IsDueFor reclaimers r old new w.status w.text) asked w.due in
        pair w.text (subst (λ (s : ℕ). IsDue s w.text) (sym is) due)

    located_pair : Outcome reclaimers request old new sink sink_now result → IsLocatedPair old new name claims
    located_pair (inl none) = absurd (omega (arith, zero, none.0))
    located_pair (inr w) = of_written w (whole_status w.status result (omega (arith, zero)) w.ends.only)

    located_contents : (bytes second : List ℕ) → old.content name ≡ Some bytes → old.content claims ≡ Some second
        → IsLocatedPair old new name claims → IsLocatedProgram bytes second
    located_contents bytes second told more p =
        let first = told_is (old.content name) p.bytes bytes p.given.read.told told in
        let other = told_is (old.content claims) p.second second p.given.read_second.told more in
        subst (λ (b : List ℕ). IsLocatedProgram bytes b) other
        (subst (λ (b : List ℕ). IsLocatedProgram b p.second) first p.located)

  pub located_runs : LocatedRuns request old new result
  located_runs = record {
    read = λ name claims asked zero. located_pair name claims asked zero outcome;
    told = λ name claims bytes second asked told more zero.
        located_contents name claims asked zero bytes second told more (located_pair name claims asked zero outcome);
  }
