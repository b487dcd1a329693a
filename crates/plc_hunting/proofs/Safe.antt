-- No run of a program races that has a typing and an outline that holds, so neither does one that was found.
use Rattle.std.proofs.Common.{◌≡◌, ℕ, suc, ◌+◌, ◌<◌, List, [], ◌∷◌, Option, Some, None, refl, sym, subst, inl, inr}
use Rattle.std.proofs.Common.{arith}
use Rattle.plc_auto.specs.declared.observer.Observer.{Observer}
use Rattle.plc_auto.specs.declared.scheme.Scheme.{Scheme}
use Rattle.plc_flow.specs.declared.flow.Flow.{Flow}
use Rattle.plc_flow.specs.Lowering.{flow_of}
use Rattle.plc_moves.specs.declared.words.Move.{Move}
use Rattle.plc_mem.specs.declared.cell.RaceKind.{RaceKind}
use Rattle.plc_run.specs.Run.{Configuration, Run, NeverRaces, begin, more, first_configuration}
use Rattle.plc_reclaim.specs.Meanings.{Meanings}
use Rattle.plc_sched.specs.declared.schedule.Entry.{Entry}
use Rattle.plc_sched.specs.declared.schedule.Schedule.{Schedule}
use Rattle.plc_replay.specs.declared.end.End.TheVariants.{Race}
use Rattle.plc_replay.specs.Outcome.{LineLeads, ComesFrom, Comes, ComesTo}
use Rattle.plc_parse.specs.declared.unit.Unit.{Unit as FileUnit}
use Rattle.plc_check.specs.Loading.{IsFileOf}
use Rattle.plc_check.specs.Answered.{judged_of}
use Rattle.plc_check.proofs.Unique.{one_file}
use Rattle.plc_cli.specs.Headline.{IsProved}
use Rattle.plc_cli.proofs.Racing.{never_races}
use Rattle.plc_explore.specs.Racing.{LeadsToRace}
use Rattle.plc_hunting.specs.Racing.{IsHuntedBy, IsHuntUnder, IsHuntedFreely, IsFreeHunt}
use Rattle.plc_hunting.specs.Laws.{IsNothing, SafeFilesHaveNoHuntedRace}

module _ (flow : Flow) (o : Observer) (safe : NeverRaces flow o) (threads : ℕ) (some : 0 < threads) where
  -- moves never lead to a race
  leads_nowhere : (n : ℕ) (c : Configuration) (moves : List Move) → Run flow o threads n c → LeadsToRace flow o threads c moves → ⊥
  leads_nowhere n c [] run leads = leads
  leads_nowhere n c (move ∷ moves) run (inl x) = safe threads n c some run move x.1 x.2 x.3
  leads_nowhere n c (move ∷ moves) run (inr x) = leads_nowhere (suc n) x.0 moves (more run move x.1) x.2

  module _ (reclaimer : Meanings) where
    -- a line leads to where a run leads
    line_runs : (n : ℕ) (c : Configuration) (held : List ℕ) (entry : Entry) (d : Configuration) (kept : List ℕ) → Run flow o threads n c → LineLeads flow o threads reclaimer c held entry d kept → (m : ℕ) × Run flow o threads m d
    line_runs n c held entry d kept run (inl y) = (suc n, more run y.0 y.2.0)
    line_runs n c held entry d kept run (inr y) = (n, subst (λ (d : Configuration). Run flow o threads n d) (sym y.1) run)

    -- lines never come to a race
    comes_nowhere : (lines n : ℕ) (c : Configuration) (held : List ℕ) (entries : List Entry) (kind : RaceKind) (line prim : ℕ) → Run flow o threads n c → ComesFrom flow o threads reclaimer lines c held entries (Race kind line prim) → ⊥
    comes_nowhere lines n c held [] kind line prim run e = cc
    comes_nowhere lines n c held (entry ∷ entries) kind line prim run (inl (inl x)) = safe threads n c some run x.0 kind prim x.2.1
    comes_nowhere lines n c held (entry ∷ entries) kind line prim run (inl (inr x)) = let e = x.1 in cc
    comes_nowhere lines n c held (entry ∷ entries) kind line prim run (inr x) =
        let r = line_runs n c held entry x.0 x.1 run x.2 in comes_nowhere (lines + 1) r.0 x.0 x.1 entries kind line prim r.1 x.3

-- a schedule never comes to one
schedule_goes : (flow : Flow) (o : Observer) → NeverRaces flow o → (reclaimer : Meanings) (schemes : List Scheme) (s : Schedule) (kind : RaceKind) (line prim : ℕ) → 0 < s.threads → ComesTo flow o reclaimer schemes s (Race kind line prim) → ⊥
unfolding ComesTo
schedule_goes flow o safe reclaimer schemes s kind line prim some = go (first_configuration flow s.threads) refl
  where
    go : (c : Option Configuration) → first_configuration flow s.threads ≡ c → Comes flow o reclaimer (reclaimer.begun schemes) s c (Race kind line prim) → ⊥
    go None first e = cc
    go (Some c) first e = comes_nowhere flow o safe s.threads some reclaimer 1 0 c (reclaimer.begun schemes) s.entries kind line prim (begin first) e

-- what is due to a unit whose runs never race
freely_by : (u : FileUnit) (status : ℕ) (text : List ℕ) → NeverRaces (flow_of u.file) u.observer → IsHuntedFreely (judged_of u) status text → IsNothing status text
freely_by u status text safe (inl x) = let r = x.1.races in absurd (leads_nowhere (flow_of u.file) u.observer safe x.1.threads r.some 0 r.first x.1.moves (begin r.begins) r.races)
freely_by u status text safe (inr x) = x

under_by : (reclaimer : Meanings) (u : FileUnit) (status : ℕ) (text : List ℕ) → NeverRaces (flow_of u.file) u.observer → IsHuntedBy reclaimer (judged_of u) status text → IsNothing status text
under_by reclaimer u status text safe (inl x) =
    let r = x.1 in
    let fits = r.spelled.threads.0 in
    absurd (schedule_goes (flow_of u.file) u.observer safe reclaimer (judged_of u).schemes r.schedule r.kind r.line r.prim (omega (arith, fits)) r.comes)
under_by reclaimer u status text safe (inr x) = x

-- no run of the unit that bytes spell races
safe_unit : (bytes : List ℕ) (u v : FileUnit) → IsFileOf bytes u → IsProved u → IsFileOf bytes v → NeverRaces (flow_of v.file) v.observer
safe_unit bytes u v spelled proved other = never_races bytes v other (subst IsProved (one_file bytes u v spelled other) proved)

freely : (bytes : List ℕ) (u : FileUnit) (status : ℕ) (text : List ℕ) → IsFileOf bytes u → IsProved u → IsFreeHunt bytes status text → IsNothing status text
freely bytes u status text spelled proved (inl refused) = absurd (refused.none u spelled)
freely bytes u status text spelled proved (inr due) = freely_by due.unit status text (safe_unit bytes u due.unit spelled proved due.spelled) due.answer

under : (reclaimer : Meanings) (bytes : List ℕ) (u : FileUnit) (status : ℕ) (text : List ℕ) → IsFileOf bytes u → IsProved u → IsHuntUnder reclaimer bytes status text → IsNothing status text
under reclaimer bytes u status text spelled proved (inl refused) = absurd (refused.none u spelled)
under reclaimer bytes u status text spelled proved (inr due) = under_by reclaimer due.unit status text (safe_unit bytes u due.unit spelled proved due.spelled) due.answer

pub safe_files : SafeFilesHaveNoHuntedRace
safe_files = record { under = under; freely = freely }
