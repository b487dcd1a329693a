-- One move more at the end of those that lead to where a run stands.
use Rattle.std.proofs.Common.{◌≡◌, ℕ, suc, ◌<◌, List, [], ◌∷◌, ◌++◌, Some, refl, sym, ap, subst, inl, inr}
use Rattle.plc_auto.specs.declared.observer.Observer.{Observer}
use Rattle.plc_flow.specs.declared.flow.Flow.{Flow}
use Rattle.plc_flow.specs.WellFormed.{FlowFits}
use Rattle.plc_moves.specs.declared.words.Move.{Move}
use Rattle.plc_mem.specs.declared.cell.RaceKind.{RaceKind}
use Rattle.plc_run.specs.Run.{Configuration, Moves, Races, first_configuration, more}
use Rattle.plc_run.specs.Position.{Position, threads_of, IsOfRun, Answers}
use Rattle.plc_run.specs.declared.moved.Moved.{Moved}
use Rattle.plc_run.specs.declared.moved.Moved.TheVariants as done
use Rattle.plc_run.proofs.Threads.{run_fits}
use Rattle.plc_explore.specs.declared.program.Program.{Program}
use Rattle.plc_explore.specs.Racing.{LeadsToRace, IsRacingRun}
use Rattle.plc_explore.specs.Running.{IsRunOf}
use Rattle.plc_explore.specs.Walking.{LeadsTo, IsWalked, IsRaceOf}

-- a move leaves as many threads
as_many : (flow : Flow) → FlowFits flow → (o : Observer) (p q : Position) (move : Move) → 0 < threads_of p
    → IsOfRun flow o p → Moves flow o (threads_of p) p.here move q.here → threads_of q ≡ threads_of p
as_many flow fits o p q move some run m =
    (run_fits flow fits o (threads_of p) some (suc run.moves) q.here (more run.run move m)).standing.points

-- it leads on
leads_more : (flow : Flow) (o : Observer) (threads : ℕ) (c d e : Configuration) (moves : List Move) (move : Move)
    → LeadsTo flow o threads c moves d → Moves flow o threads d move e → LeadsTo flow o threads c (moves ++ move ∷ []) e
leads_more flow o threads c d e [] move is goes = (e, subst (λ f. Moves flow o threads f move e) (sym is) goes, refl)
leads_more flow o threads c d e (first ∷ moves) move leads goes =
    (leads.0, leads.1, leads_more flow o threads leads.0 d e moves move leads.2 goes)

-- or is a race
races_last : (flow : Flow) (o : Observer) (threads : ℕ) (c d : Configuration) (moves : List Move) (move : Move)
    (kind : RaceKind) (k : ℕ) → LeadsTo flow o threads c moves d → Races flow threads d move kind k
    → LeadsToRace flow o threads c (moves ++ move ∷ [])
races_last flow o threads c d [] move kind k is races =
    inl (refl, kind, k, subst (λ f. Races flow threads f move kind k) (sym is) races)
races_last flow o threads c d (first ∷ moves) move kind k leads races =
    inr (leads.0, leads.1, races_last flow o threads leads.0 d moves move kind k leads.2 races)

-- whatever came of it, there are as many threads
pub threads_stay : (program : Program) (p q : Position) (move : Move) (moved : Moved) → IsRunOf program p
    → Answers program.flow.now program.observer.now p move moved q → threads_of q ≡ threads_of p
threads_stay program p q move done.Done run a =
    as_many program.flow.now run.0 program.observer.now p q move run.2 run.1 a.2
threads_stay program p q move (done.Race kind k) run a = ap threads_of a.2
threads_stay program p q move (done.Forbidden address) run a = ap threads_of a.3
threads_stay program p q move done.Blocked run a = ap threads_of a.1

pub walked_more : (program : Program) (moves : List Move) (move : Move) (p q : Position) → IsRunOf program p
    → IsWalked program moves p → Moves program.flow.now program.observer.now (threads_of p) p.here move q.here
    → IsWalked program (moves ++ move ∷ []) q
walked_more program moves move p q run walked goes =
    let flow = program.flow.now in
    let o = program.observer.now in
    let many = sym (as_many flow run.0 o p q move run.2 run.1 goes) in
    let first = walked.first in
    record {
      some = subst (λ n. 0 < n) many walked.some;
      first = first;
      begins = subst (λ n. first_configuration flow n ≡ Some first) many walked.begins;
      leads = subst (λ n. LeadsTo flow o n first (moves ++ move ∷ []) q.here) many
          (leads_more flow o (threads_of p) first p.here q.here moves move walked.leads goes);
    }

-- and a race is one among as many
pub walked_race : (program : Program) (moves : List Move) (move : Move) (p q : Position) (kind : RaceKind) (k : ℕ)
    → threads_of q ≡ threads_of p → IsWalked program moves p
    → Races program.flow.now (threads_of p) p.here move kind k → IsRaceOf program q (moves ++ move ∷ [])
walked_race program moves move p q kind k many walked races =
    let flow = program.flow.now in
    let o = program.observer.now in
    subst (λ n. IsRacingRun flow o n (moves ++ move ∷ [])) (sym many) (record {
      some = walked.some;
      first = walked.first;
      begins = walked.begins;
      races = races_last flow o (threads_of p) walked.first p.here moves move kind k walked.leads races;
    })
