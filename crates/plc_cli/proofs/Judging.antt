-- From the answer that is due to what a 0 says, and when it comes: the bytes spell one unit, which has a typing or is stuck, and not both.
use Rattle.std.proofs.Common.{◌≡◌, ◌<◌, ◌≤◌, ◌⊎◌, inl, inr, ℕ, List, [], length, Option, Some, None, ap, sym, subst}
use Rattle.std.proofs.Common.{refl, ◌∙◌, arith}
use Rattle.std.specs.Prelude.{◌++◌, ◌∷◌, All, Contains, IfSome}
use Rattle.std.proofs.lemmas.List.Elements.{All-contains, Contains-append_right}
use Rattle.plc_base.specs.FileSizes.{largest_file}
use Rattle.plc_outside.specs.Known.{KnownFiles, KnownSink}
use Rattle.plc_parse.specs.declared.unit.Unit.{Unit as FileUnit}
use Rattle.plc_auto.specs.declared.observer.Observer.{Observer}
use Rattle.plc_flow.specs.Lowering.{flow_of}
use Rattle.plc_xfer.specs.declared.fault.TypeFault.{TypeFault}
use Rattle.plc_xfer.specs.Typings.{HasTyping, IsStuckAt}
use Rattle.plc_lang.specs.Skeleton.{Skeleton}
use Rattle.plc_flow.specs.Skeleton.{skeleton_of}
use Rattle.plc_reclaim.specs.Meanings.{Meanings}
use Rattle.plc_flow.specs.declared.flow.Flow.{Flow}
use Rattle.plc_logic.specs.declared.clause.Outline.{Outline}
use Rattle.plc_vocabulary.specs.declared.obligations.Obligation.{Obligation}
use Rattle.plc_oblig.specs.Outlines.{IsKept, OutlineHolds, IsLeastOpen}
use Rattle.plc_check.specs.declared.verdict.Verdict.{Verdict}
use Rattle.plc_check.specs.declared.verdict.Verdict.TheVariants.{Safe, Untyped, Unproved}
use Rattle.plc_check.specs.Loading.{IsFileOf}
use Rattle.plc_check.specs.Answered.{judged_of}
use Rattle.plc_check.specs.Verdicts.{IsVerdictOn}
use Rattle.plc_check.proofs.Unique.{one_file}
use Rattle.plc_cli.specs.Requests.{Request, Check, Verify}
use Rattle.plc_cli.specs.Reads.{Only, IsUnread, IsGivenFile, IsDueForFile}
use Rattle.plc_cli.specs.Answer.{IsDueFor, Outcome}
use Rattle.plc_cli.specs.Files.{IsAnswerTo, IsJudgedAs}
use Rattle.plc_cli.specs.Statuses.{unwritten, no_memory}
use Rattle.plc_cli.specs.Verdicts.{verdict_status}
use Rattle.plc_cli.specs.Headline.{Headline, IsSafeProgram, IsSafeRead, IsProved}
use Rattle.plc_cli.proofs.Racing.{never_races}
use Rattle.plc_cli.proofs.TwoReads.{told_is, unread_status}
use Rattle.plc_cli.proofs.Verified as verified

pub stuck_or_typed : (o : Observer) (s : Skeleton) (k i : ℕ) (fault : TypeFault) → IsStuckAt o s k i fault → HasTyping o s → ⊥
stuck_or_typed o s k i fault stuck typed = stuck.fails typed.0 typed.1.pretyping (typed.1.holding k i)

-- what each thing of a list has has the one in its midst
in_midst : {A : Type 0} (P : A → Type 0) (xs before after : List A) (x : A) → xs ≡ before ++ x ∷ after → All P xs → P x
in_midst P xs before after x e all =
    let here : Contains (x ∷ after) x = (0, omega arith, refl) in
    All-contains P (before ++ x ∷ after) x (subst (All P) e all) (Contains-append_right before (x ∷ after) x here)

open_or_held : (flow : Flow) (outline : Outline) (o : Obligation) → IsLeastOpen flow outline o → OutlineHolds flow outline → ⊥
open_or_held flow outline o least held = in_midst (IsKept flow outline) _ least.before least.after o least.listed held least.has_model

-- what is safe is proved, and the other way round
module _ (v : FileUnit) where
  proved_by : (verdict : Verdict) → IsVerdictOn (judged_of v) verdict → verdict_status verdict ≡ 0 → IsProved v
  proved_by (Safe typing count) right zero = record { typed = (typing.env, right.0); held = right.2 }
  proved_by (Untyped step prim fault) right zero = absurd (omega (arith, zero))
  proved_by (Unproved o set model) right zero = absurd (omega (arith, zero))

  zero_by : (verdict : Verdict) → IsVerdictOn (judged_of v) verdict → IsProved v → verdict_status verdict ≡ 0
  zero_by (Safe typing count) right proved = refl
  zero_by (Untyped step prim fault) right proved = absurd (stuck_or_typed v.observer (skeleton_of (flow_of v.file)) step.0 prim fault right proved.typed)
  zero_by (Unproved o set model) right proved = absurd (open_or_held (flow_of v.file) v.outline o right.1 proved.held)

module _ (bytes : List ℕ) (status : ℕ) (text : List ℕ) where
  judged_proved : (v : FileUnit) → IsJudgedAs (judged_of v) status text → status ≡ 0 → IsProved v
  judged_proved v judged zero = proved_by v judged.what judged.right (sym judged.status_is ∙ zero)

  pub safe_at_0 : IsAnswerTo bytes status text → status ≡ 0 → IsSafeProgram bytes
  safe_at_0 (inl refused) zero = let is = refused.status_is in absurd cc
  safe_at_0 (inr judged) zero = record { unit = judged.unit; spelled = judged.spelled; safe = never_races bytes judged.unit judged.spelled (judged_proved judged.unit judged.answer zero) }

  module _ (u : FileUnit) (spelled : IsFileOf bytes u) where
    pub proved_at_0 : IsAnswerTo bytes status text → status ≡ 0 → IsProved u
    proved_at_0 (inl refused) zero = let is = refused.status_is in absurd cc
    proved_at_0 (inr judged) zero = subst IsProved (one_file bytes judged.unit u judged.spelled spelled) (judged_proved judged.unit judged.answer zero)

    judged_zero : (v : FileUnit) → IsJudgedAs (judged_of v) status text → IsProved v → status ≡ 0
    judged_zero v judged proved = judged.status_is ∙ zero_by v judged.what judged.right proved

    pub at_0_where_proved : IsAnswerTo bytes status text → IsProved u → status ≡ 0
    at_0_where_proved (inl refused) proved = absurd (refused.none u spelled)
    at_0_where_proved (inr judged) proved = judged_zero judged.unit judged.answer (subst IsProved (sym (one_file bytes judged.unit u judged.spelled spelled)) proved)

module _ (old new : KnownFiles) (status : ℕ) (text : List ℕ) (name : List ℕ) where
  -- what `check` answers to the bytes
  abbrev Answers : List ℕ → Type 0
  Answers bytes = IsAnswerTo bytes status text

  abbrev IsDue : Type 0
  IsDue = IsDueForFile old new name Answers status text

  -- what is judged is the content that is told
  answer_of : (content : List ℕ) → old.content name ≡ Some content → (bytes : List ℕ) → IsGivenFile old new name bytes → Answers bytes → Answers content
  answer_of content told bytes given answer = subst Answers (told_is (old.content name) bytes content given.read.told told) answer

  read_at_0 : IsUnread (Only name) old new [] name largest_file status text → status ≡ 0 → ⊥
  read_at_0 unread zero = let is = unread_status status text _ _ _ _ _ _ unread in absurd cc

  read_for : IsDue → status ≡ 0 → IsSafeRead old new name
  read_for (inl unread) zero = absurd (read_at_0 unread zero)
  read_for (inr due) zero = record { bytes = due.0; given = due.1; safe = safe_at_0 due.0 status text due.2 zero }

  sound_for : (content : List ℕ) → old.content name ≡ Some content → IsDue → status ≡ 0 → IsSafeProgram content
  sound_for content told (inl unread) zero = absurd (read_at_0 unread zero)
  sound_for content told (inr due) zero = safe_at_0 content status text (answer_of content told due.0 due.1 due.2) zero

  module _ (content : List ℕ) (told : old.content name ≡ Some content) (u : FileUnit) (spelled : IsFileOf content u) where
    proved_for : IsDue → status ≡ 0 → IsProved u
    proved_for (inl unread) zero = absurd (read_at_0 unread zero)
    proved_for (inr due) zero = proved_at_0 content status text u spelled (answer_of content told due.0 due.1 due.2) zero

    -- a content that isn't too long isn't told as one
    long_told : (o : Option (List ℕ)) → IfSome o (λ c. largest_file < length c) → o ≡ Some content → length content ≤ largest_file → ⊥
    long_told None h e short = absurd cc
    long_told (Some c) h e short = let same : c ≡ content = cc in omega (arith, h, short, ap (λ (x : List ℕ). length x) same)

    complete_for : IsDue → length content ≤ largest_file → new.faults name ≡ old.faults name → IsProved u → status ≡ 0
    complete_for (inl (inl failed)) short kept proved = absurd (omega (arith, failed.rose, kept))
    complete_for (inl (inr long)) short kept proved = absurd (long_told (old.content name) long.told told short)
    complete_for (inr due) short kept proved = at_0_where_proved content status text u spelled (answer_of content told due.0 due.1 due.2) proved

module _ (reclaimers : List Meanings) (request : Option Request) (old new : KnownFiles) (status : ℕ) (text : List ℕ) (due : IsDueFor reclaimers request old new status text) where
  due_for : (name : List ℕ) → request ≡ Some (Check name) → IsDue old new status text name
  due_for name asked = subst (λ (r : Option Request). IsDueFor reclaimers r old new status text) asked due

  pair_for : (name certificate : List ℕ) → request ≡ Some (Verify name certificate) → verified.IsDue status text old new name certificate
  pair_for name certificate asked = subst (λ (r : Option Request). IsDueFor reclaimers r old new status text) asked due

  headline_of : Headline request old new status
  headline_of = record {
    read = λ name asked zero. read_for old new status text name (due_for name asked) zero;
    sound = λ name bytes asked told zero. sound_for old new status text name bytes told (due_for name asked) zero;
    complete = λ name bytes asked told short kept u spelled proved. inl (complete_for old new status text name bytes told u spelled (due_for name asked) short kept proved);
    only_proved = λ name bytes asked told u spelled zero. proved_for old new status text name bytes told u spelled (due_for name asked) zero;
    read_verified = λ name certificate asked zero. verified.safe_pair status text zero old new name certificate (pair_for name certificate asked);
    verified = λ name certificate bytes asked told zero. verified.safe_content status text zero old new name certificate bytes told (pair_for name certificate asked);
  }

-- where the whole text wasn't written, the status is none that says something of the file
no_headline : (request : Option Request) (old new : KnownFiles) (result : ℕ) →
    (result ≡ unwritten) ⊎ (result ≡ no_memory) → Headline request old new result
no_headline request old new result unwhole = record {
  read = λ name asked zero. absurd (not_zero unwhole zero);
  sound = λ name bytes asked told zero. absurd (not_zero unwhole zero);
  complete = λ name bytes asked told short kept u spelled proved. inr unwhole;
  only_proved = λ name bytes asked told u spelled zero. absurd (not_zero unwhole zero);
  read_verified = λ name certificate asked zero. absurd (not_zero unwhole zero);
  verified = λ name certificate bytes asked told zero. absurd (not_zero unwhole zero);
}
  where
    not_zero : (result ≡ unwritten) ⊎ (result ≡ no_memory) → result ≡ 0 → ⊥
    not_zero (inl is) zero = omega (arith, is, zero)
    not_zero (inr is) zero = omega (arith, is, zero)

pub headline_from : (reclaimers : List Meanings) (request : Option Request) (old new : KnownFiles)
    (sink sink_now : KnownSink) (result : ℕ) → Outcome reclaimers request old new sink sink_now result →
    Headline request old new result
headline_from reclaimers request old new sink sink_now result (inl none) =
    no_headline request old new result (inr none.0)
headline_from reclaimers request old new sink sink_now result (inr written) = go written.ends.only
  where
    go : (result ≡ written.status) ⊎ ((result ≡ unwritten) ⊎ (result ≡ no_memory)) → Headline request old new result
    go (inl is) =
        subst (Headline request old new) (sym is)
        (headline_of reclaimers request old new written.status written.text written.due)
    go (inr unwhole) = no_headline request old new result unwhole
