-- Moves one after the other, the last of which is a race.
use Rattle.std.proofs.Common.{◌≡◌, ℕ, suc, ◌+◌, ◌<◌, ◌==◌, List, [], ◌∷◌, length, drop, get_or, IsTrue, eq-eqb, sym, ap, ◌∙◌, subst, inl, inr, arith}
use Rattle.std.proofs.lemmas.List.{at_drop_more, drop_all, length-drop}
use Rattle.plc_auto.specs.declared.observer.Observer.{Observer}
use Rattle.plc_flow.specs.declared.flow.Flow.{Flow}
use Rattle.plc_flow.specs.WellFormed.{FlowFits}
use Rattle.plc_moves.specs.declared.words.Move.{Move}
use Rattle.plc_moves.specs.declared.words.Move.TheVariants.{Free}
use Rattle.plc_mem.specs.declared.cell.RaceKind.{RaceKind}
use Rattle.plc_run.specs.Run.{Configuration, Moves, Races, more}
use Rattle.plc_run.specs.Position.{Position, threads_of, IsOfRun, HasNone, IsForbidden}
use Rattle.plc_run.proofs.Runs.{run_laws}
use Rattle.plc_run.proofs.Threads.{run_fits}
use Rattle.plc_explore.specs.Racing.{LeadsToRace}

-- a move leaves as many threads
pub as_many : (flow : Flow) → FlowFits flow → (o : Observer) (p q : Position) (move : Move) → 0 < threads_of p → IsOfRun flow o p → Moves flow o (threads_of p) p.here move q.here → threads_of q ≡ threads_of p
as_many flow fits o p q move some run m = (run_fits flow fits o (threads_of p) some (suc run.moves) q.here (more run.run move m)).standing.points

-- the moves from one on
from_here : (moves : List Move) (k : ℕ) (m : Move) → k < length moves → m ≡ get_or moves k m → drop k moves ≡ m ∷ drop (k + 1) moves
from_here moves k m below is = at_drop_more (λ (xs : List Move). xs) moves k m below ∙ ap (λ x. x ∷ drop (k + 1) moves) (sym is)

-- they lead to a race where the first leads on and those after it do
pub leads_more : (flow : Flow) (o : Observer) (threads threads' : ℕ) (c d : Configuration) (moves : List Move) (k : ℕ) (m : Move) → threads ≡ threads' → k < length moves → m ≡ get_or moves k m → Moves flow o threads c m d → LeadsToRace flow o threads' d (drop (k + 1) moves) → LeadsToRace flow o threads' c (drop k moves)
leads_more flow o threads threads' c d moves k m many below is move rest =
    subst (λ (xs : List Move). LeadsToRace flow o threads' c xs) (sym (from_here moves k m below is))
    (inr (d, subst (λ n. Moves flow o n c m d) many move, rest))

-- or where it is the last, and a race
pub races_last : (flow : Flow) (o : Observer) (threads threads' : ℕ) (c : Configuration) (moves : List Move) (k : ℕ) (m : Move) (kind : RaceKind) (i : ℕ) → threads ≡ threads' → k < length moves → m ≡ get_or moves k m → k + 1 ≡ length moves → Races flow threads c m kind i → LeadsToRace flow o threads' c (drop k moves)
races_last flow o threads threads' c moves k m kind i many below is last races =
    subst (λ (xs : List Move). LeadsToRace flow o threads' c xs) (sym (from_here moves k m below is))
    (inl (drop_all (k + 1) moves (omega (arith, last)), kind, i, subst (λ n. Races flow n c m kind i) many races))

-- ---- and only there

module _ (flow : Flow) (o : Observer) (threads threads' : ℕ) (c : Configuration) (moves : List Move) (k : ℕ) (m : Move) (many : threads ≡ threads') (below : k < length moves) (is : m ≡ get_or moves k m) where
  -- the moves from here on, the first of them and the rest
  split : LeadsToRace flow o threads' c (drop k moves) → LeadsToRace flow o threads c (m ∷ drop (k + 1) moves)
  split leads = subst (λ n. LeadsToRace flow o n c (m ∷ drop (k + 1) moves)) (sym many) (subst (λ (xs : List Move). LeadsToRace flow o threads' c xs) (from_here moves k m below is) leads)

  -- where the first leads on, those after it do
  leads_after : (d : Configuration) → Moves flow o threads c m d → LeadsToRace flow o threads c (m ∷ drop (k + 1) moves) → LeadsToRace flow o threads d (drop (k + 1) moves)
  leads_after d move (inl x) = absurd ((run_laws flow o threads).race_is_last c d m x.1 x.2 x.3 move)
  leads_after d move (inr x) = subst (λ (e : Configuration). LeadsToRace flow o threads e (drop (k + 1) moves)) ((run_laws flow o threads).one_end c x.0 d m x.1 move) x.2

  pub leads_back : (d : Configuration) → Moves flow o threads c m d → LeadsToRace flow o threads' c (drop k moves) → LeadsToRace flow o threads' d (drop (k + 1) moves)
  leads_back d move leads = subst (λ n. LeadsToRace flow o n d (drop (k + 1) moves)) many (leads_after d move (split leads))

  -- where the first is a race, it is the last
  is_last : (kind : RaceKind) (i : ℕ) → Races flow threads c m kind i → LeadsToRace flow o threads c (m ∷ drop (k + 1) moves) → drop (k + 1) moves ≡ []
  is_last kind i races (inl x) = x.0
  is_last kind i races (inr x) = absurd ((run_laws flow o threads).race_is_last c x.0 m kind i races x.1)

  pub race_back : (kind : RaceKind) (i : ℕ) → Races flow threads c m kind i → LeadsToRace flow o threads' c (drop k moves) → IsTrue (k + 1 == length moves)
  race_back kind i races leads =
      let none = is_last kind i races (split leads) in
      let gone : length (drop (k + 1) moves) ≡ 0 = ap length none in
      let e : k + 1 ≡ length moves = omega (arith, below, gone, length-drop (k + 1) moves) in
      eq-eqb (k + 1) (length moves) e

  -- where there is no such move, none of this is
  first_goes : HasNone flow o threads c m → LeadsToRace flow o threads c (m ∷ drop (k + 1) moves) → ⊥
  first_goes none (inl x) = none.no_race x.1 x.2 x.3
  first_goes none (inr x) = none.no_move x.0 x.1

  pub none_back : HasNone flow o threads c m → LeadsToRace flow o threads' c (drop k moves) → ⊥
  none_back none leads = first_goes none (split leads)

  -- nor where it frees what may not be freed
  first_is_allowed : (a : ℕ) → m ≡ Free a → IsForbidden o threads c m → LeadsToRace flow o threads c (m ∷ drop (k + 1) moves) → ⊥
  first_is_allowed a e forbidden (inl x) = subst (λ (n : Move). Races flow threads c n x.1 x.2) e x.3
  first_is_allowed a e forbidden (inr x) =
      (subst (λ (n : Move). IsForbidden o threads c n) e forbidden).1 (subst (λ (n : Move). Moves flow o threads c n x.0) e x.1).1

  pub forbidden_back : (a : ℕ) → m ≡ Free a → IsForbidden o threads c m → LeadsToRace flow o threads' c (drop k moves) → ⊥
  forbidden_back a e forbidden leads = first_is_allowed a e forbidden (split leads)
