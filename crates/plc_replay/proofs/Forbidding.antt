-- A replay makes its history as the law of a reclaimer's histories has it: each event that is heard is handed to the reclaimer, and
-- each tick frees what was picked just before. So a free that the observer forbids is none that was picked.
use Rattle.std.proofs.Common.{◌≡◌, ℕ, ◌+◌, true, List, [], ◌∷◌, ◌++◌, Option, Some, None, Result, Ok, Err, IfOk, fold, refl, sym, ap, ◌∙◌, subst, arith, append_assoc, inl, inr}
use Rattle.std.proofs.lemmas.List.{append-nil}
use Rattle.plc_base.specs.declared.memory.NoMemory.{NoMemory}
use Rattle.plc_auto.specs.declared.event.Event.{Event}
use Rattle.plc_auto.specs.declared.event.Event.TheVariants.{Free as Freed}
use Rattle.plc_auto.specs.declared.observer.Observer.{Observer}
use Rattle.plc_auto.specs.declared.observer.Observer.TheVariants.{Plain, Hazard, Epoch}
use Rattle.plc_auto.specs.Table.{is_well_formed}
use Rattle.plc_auto.specs.Location.{Allowed}
use Rattle.plc_flow.specs.declared.flow.Flow.{Flow}
use Rattle.plc_moves.specs.declared.words.Move.{Move}
use Rattle.plc_flow.specs.WellSorted.{FlowIsWellSorted}
use Rattle.plc_auto.specs.declared.scheme.Scheme.{Scheme}
use Rattle.plc_reclaim.specs.Meanings.{Meanings}
use Rattle.plc_auto.specs.Schemes.{schemes_of}
use Rattle.plc_reclaim.specs.Histories.{Happens, begins, hears, asks, frees}
use Rattle.plc_reclaim.proofs.Allowing.{hazards_allowed, epochs_allowed}
use Rattle.plc_run.specs.Run.{Configuration, first_configuration}
use Rattle.plc_run.specs.Position.{IsForbidden}
use Rattle.plc_run.proofs.Quiet.{quiet_init}
use Rattle.plc_sched.specs.declared.schedule.Entry.{Entry}
use Rattle.plc_sched.specs.declared.schedule.Entry.TheVariants.{Start, Step, Return, Tick}
use Rattle.plc_sched.specs.declared.schedule.Schedule.{Schedule}
use Rattle.plc_replay.specs.declared.end.End.{End}
use Rattle.plc_replay.specs.declared.end.End.TheVariants.{ForbiddenFree}
use Rattle.plc_replay.specs.Outcome.{Hands, LineLeads, LineEnds, ComesFrom, Comes, ComesTo}
use Rattle.plc_replay.specs.Laws.{Serves, IsServed, IsAllowedEnd, NeverForbidden}
use Rattle.plc_replay.proofs.OneEnd.{same_after}
use Rattle.plc_replay.proofs.Speaking.{AllSpoken, GoesOn, start_goes, step_goes, return_goes, free_grows}

module _ (schemes : List Scheme) (m : Meanings) where
  abbrev Makes : List Event → List ℕ → Type 0
  Makes h held = Happens schemes m h held

  -- ---- the reclaimer was handed what was heard

  handed : (h : List Event) (held : List ℕ) (es : List Event) → AllSpoken es → Makes h held → Makes (h ++ es) (fold m.after held es)
  handed h held [] spoken made = subst (λ h. Makes h held) (sym (append-nil h)) made
  handed h held (e ∷ es) spoken made =
      subst (λ g. Makes g (fold m.after (m.after held e) es)) (append_assoc h (e ∷ []) es) (handed (h ++ e ∷ []) (m.after held e) es spoken.1 (hears h held e spoken.0 made))

  -- what was handed is what was heard
  handed_all : (h : List Event) (held : List ℕ) (g : List Event) (kept : List ℕ) → GoesOn h g → Hands m h held g kept → Makes h held → Makes g kept
  handed_all h held g kept on hands made =
      let same : hands.0 ≡ on.events = same_after h hands.0 on.events (sym hands.1 ∙ on.grown) in
      subst (λ g. Makes g kept) (sym on.grown)
      (subst (λ kept. Makes (h ++ on.events) kept) (sym (hands.2 ∙ ap (fold m.after held) same)) (handed h held on.events on.spoken made))

  -- a tick frees what was picked
  freed_all : (h : List Event) (held : List ℕ) (a : ℕ) (g : List Event) (kept : List ℕ) → m.pick_of held ≡ Some a → g ≡ h ++ Freed a ∷ [] → Hands m h (m.picked held) g kept → Makes h held → Makes g kept
  freed_all h held a g kept picks grown hands made =
      let same : hands.0 ≡ Freed a ∷ [] = same_after h hands.0 (Freed a ∷ []) (sym hands.1 ∙ grown) in
      subst (λ g. Makes g kept) (sym grown)
      (subst (λ kept. Makes (h ++ Freed a ∷ []) kept) (sym (hands.2 ∙ ap (fold m.after (m.picked held)) same)) (frees h held a picks made))

  -- ---- lines

  module _ (flow : Flow) (o : Observer) (threads : ℕ) where
    line_makes : (c : Configuration) (held : List ℕ) (entry : Entry) (d : Configuration) (kept : List ℕ) → LineLeads flow o threads m c held entry d kept → Makes c.history held → Makes d.history kept
    line_makes c held (Start t op args) d kept (inl a) made = handed_all c.history held d.history kept (start_goes flow o threads c d a.0 t a.1.0 args a.1.2 a.2.0) a.2.1 made
    line_makes c held (Step t nth addr) d kept (inl a) made = handed_all c.history held d.history kept (step_goes flow o threads c d a.0 t nth addr a.1 a.2.0) a.2.1 made
    line_makes c held (Return t) d kept (inl a) made = handed_all c.history held d.history kept (return_goes flow o threads c d a.0 t a.1 a.2.0) a.2.1 made
    line_makes c held Tick d kept (inl a) made = freed_all c.history held a.1.0 d.history kept a.1.1 (free_grows flow o threads c d a.0 a.1.0 a.1.2 a.2.0) a.2.1 made
    line_makes c held (Start t op args) d kept (inr b) made = absurd b.0
    line_makes c held (Step t nth addr) d kept (inr b) made = absurd b.0
    line_makes c held (Return t) d kept (inr b) made = absurd b.0
    line_makes c held Tick d kept (inr b) made =
        subst (λ (d : Configuration). Makes d.history kept) (sym b.1) (subst (λ kept. Makes c.history kept) (sym b.2) (asks c.history held made))

    module _ (fine : (h : List Event) (held : List ℕ) → Makes h held → Allowed o threads h) where
      -- a forbidden free is none that was picked
      line_allows : (c : Configuration) (held : List ℕ) (entry : Entry) (lines a line : ℕ) → Makes c.history held → LineEnds flow o threads m c held entry lines (ForbiddenFree a line) → ⊥
      line_allows c held (Start t op args) lines a line made (inl x) = let starts = x.1.2 in let is_free = x.2.1 in cc
      line_allows c held (Step t nth addr) lines a line made (inl x) = let steps = x.1 in let is_free = x.2.1 in cc
      line_allows c held (Return t) lines a line made (inl x) = let returns = x.1 in let is_free = x.2.1 in cc
      line_allows c held Tick lines a line made (inl x) =
          let forbidden = subst (λ (move : Move). IsForbidden o threads c move) x.1.2 x.2.2 in
          forbidden.1 (fine (c.history ++ Freed x.1.0 ∷ []) (m.after (m.picked held) (Freed x.1.0)) (frees c.history held x.1.0 x.1.1 made))
      line_allows c held entry lines a line made (inr x) = let ends = x.1 in cc

      lines_allow : (lines : ℕ) (c : Configuration) (held : List ℕ) (entries : List Entry) (a line : ℕ) → Makes c.history held → ComesFrom flow o threads m lines c held entries (ForbiddenFree a line) → ⊥
      lines_allow lines c held [] a line made e = cc
      lines_allow lines c held (entry ∷ entries) a line made (inl x) = line_allows c held entry (lines + 1) a line made x
      lines_allow lines c held (entry ∷ entries) a line made (inr x) = lines_allow (lines + 1) x.0 x.1 entries a line (line_makes c held entry x.0 x.1 x.2 made) x.3

  replay_allows : (flow : Flow) (o : Observer) (s : Schedule) → ((h : List Event) (held : List ℕ) → Makes h held → Allowed o s.threads h) → FlowIsWellSorted flow → (a line : ℕ) → ComesTo flow o m schemes s (ForbiddenFree a line) → ⊥
  unfolding ComesTo
  replay_allows flow o s fine sorted a line comes = go (first_configuration flow s.threads) refl comes
    where
      go : (q : Option Configuration) → first_configuration flow s.threads ≡ q → Comes flow o m (m.begun schemes) s q (ForbiddenFree a line) → ⊥
      go None is e = cc
      go (Some c) is e =
          let empty = (quiet_init flow s.threads sorted).empty c is in
          lines_allow flow o s.threads fine 1 c (m.begun schemes) s.entries a line (subst (λ h. Makes h (m.begun schemes)) (sym empty) begins) e

-- ---- reclaimers that serve an observer

served_fine : (o : Observer) (m : Meanings) (threads : ℕ) → Serves o m → is_well_formed o ≡ true → (h : List Event) (held : List ℕ) → Happens (schemes_of o) m h held → Allowed o threads h
served_fine Plain m threads (inl acts) w h held made = (hazards_allowed [] m acts).plain h held threads made
served_fine Plain m threads (inr acts) w h held made = (epochs_allowed [] m acts).plain h held threads made
served_fine (Hazard f) m threads acts w h held made = (hazards_allowed (schemes_of (Hazard f)) m acts).each_scheme h held threads made (Hazard f) (0, omega arith, refl) w
served_fine (Epoch e l) m threads acts w h held made = (epochs_allowed (schemes_of (Epoch e l)) m acts).each_scheme h held threads made (Epoch e l) (0, omega arith, refl) w

pub never_forbidden : (flow : Flow) (o : Observer) (schemes : List Scheme) (m : Meanings) (s : Schedule) → IsServed flow o schemes m → NeverForbidden flow o m schemes s
never_forbidden flow o schemes m s served a line comes =
    replay_allows (schemes_of o) m flow o s (served_fine o m s.threads served.serves served.well_formed) served.sorted a line
    (subst (λ (schemes : List Scheme). ComesTo flow o m schemes s (ForbiddenFree a line)) served.schemes_are comes)

-- the answer of a replay
pub allowed_end : (flow : Flow) (o : Observer) (schemes : List Scheme) (m : Meanings) (s : Schedule) (r : Result End NoMemory) → IfOk r (ComesTo flow o m schemes s) → IsServed flow o schemes m → IfOk r IsAllowedEnd
allowed_end flow o schemes m s (Ok end) comes served = λ a line e. never_forbidden flow o schemes m s served a line (subst (ComesTo flow o m schemes s) e comes)
allowed_end flow o schemes m s (Err e) comes served = tt
