-- No race is missed by what came of a move.
use Rattle.std.proofs.Common.{◌≡◌, ℕ, false, List, ◌∷◌, sym, ap, subst, ◌∙◌, inl, inr}
use Rattle.plc_moves.specs.declared.words.Move.{Move}
use Rattle.plc_moves.specs.declared.words.Move.TheVariants.{Start, Step as Take, Return, Free}
use Rattle.plc_run.specs.Run.{Configuration, Moves}
use Rattle.plc_run.specs.Position.{Position, threads_of, Answers, HasNone, IsForbidden}
use Rattle.plc_run.specs.declared.moved.Moved.TheVariants as moved
use Rattle.plc_run.proofs.Runs.{run_laws}
use Rattle.plc_explore.specs.declared.program.Program.{Program}
use Rattle.plc_explore.specs.declared.follow.Met.TheVariants.{Goes, None}
use Rattle.plc_explore.specs.Racing.{LeadsToRace}
use Rattle.plc_explore.specs.Following.{FollowsOn, RacesFrom}

goes_from : (program : Program) (p q : Position) (move : Move) → threads_of q ≡ threads_of p
    → Moves program.flow.now program.observer.now (threads_of p) p.here move q.here
    → (moves : List Move) → RacesFrom program p (move ∷ moves) → RacesFrom program q moves
goes_from program p q move many goes moves (inl x) =
    absurd ((run_laws program.flow.now program.observer.now (threads_of p)).race_is_last p.here q.here move x.1 x.2 x.3
    goes)
goes_from program p q move many goes moves (inr x) =
    let flow = program.flow.now in
    let o = program.observer.now in
    subst (λ n. LeadsToRace flow o n q.here moves) (sym many)
    (subst (λ (e : Configuration). LeadsToRace flow o (threads_of p) e moves)
    ((run_laws flow o (threads_of p)).one_end p.here x.0 q.here move x.1 goes) x.2)

none_from : (program : Program) (p : Position) (move : Move)
    → HasNone program.flow.now program.observer.now (threads_of p) p.here move
    → (moves : List Move) → RacesFrom program p (move ∷ moves) → ⊥
none_from program p move none moves (inl x) = none.no_race x.1 x.2 x.3
none_from program p move none moves (inr x) = none.no_move x.0 x.1

forbidden_from : (program : Program) (p : Position) (move : Move)
    → IsForbidden program.observer.now (threads_of p) p.here move
    → (moves : List Move) → RacesFrom program p (move ∷ moves) → ⊥
forbidden_from program p (Start t op args) f moves races = absurd f
forbidden_from program p (Take t nth addr) f moves races = absurd f
forbidden_from program p (Return t) f moves races = absurd f
forbidden_from program p (Free a) f moves (inl x) = x.3
forbidden_from program p (Free a) f moves (inr x) = f.1 x.1.1

pub done_follows : (program : Program) (p q : Position) (move : Move) → threads_of q ≡ threads_of p
    → Answers program.flow.now program.observer.now p move moved.Done q → FollowsOn program p move Goes q
done_follows program p q move many a = (a.1, goes_from program p q move many a.2)

pub blocked_follows : (program : Program) (p q : Position) (move : Move) → p.ended ≡ false
    → Answers program.flow.now program.observer.now p move moved.Blocked q → FollowsOn program p move None q
blocked_follows program p q move goes a = (ap (λ (r : Position). r.ended) a.1 ∙ goes, none_from program p move (a.0 goes))

pub forbidden_follows : (program : Program) (p q : Position) (move : Move) (address : ℕ) → p.ended ≡ false
    → Answers program.flow.now program.observer.now p move (moved.Forbidden address) q
    → FollowsOn program p move None q
forbidden_follows program p q move address goes a =
    (ap (λ (r : Position). r.ended) a.3 ∙ goes, forbidden_from program p move a.2)

-- a move that isn't there is passed over
pub passed_follows : (program : Program) (p q : Position) (move : Move) → FollowsOn program p move None q
    → FollowsOn program p move Goes q
passed_follows program p q move none = (none.0, λ moves races. absurd (none.1 moves races))
