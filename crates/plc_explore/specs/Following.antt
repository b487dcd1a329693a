-- Moves that are made again, and what came of each.
use Rattle.std.specs.Prelude.{◌≡◌, false, List, ◌∷◌}
use Rattle.plc_moves.specs.declared.words.Move.{Move}
use Rattle.plc_run.specs.Position.{Position, threads_of}
use Rattle.plc_explore.specs.declared.program.Program.{Program}
use Rattle.plc_explore.specs.declared.follow.Met.{Met}
use Rattle.plc_explore.specs.declared.follow.Met.TheVariants.{Goes, Races, None}
use Rattle.plc_explore.specs.declared.frees.Frees.{Frees}
use Rattle.plc_explore.specs.declared.frees.Frees.TheVariants.{Any}
use Rattle.plc_explore.specs.Racing.{LeadsToRace}
use Rattle.plc_explore.specs.Walking.{IsRaceOf, IsWalked}

-- what a move leaves of those that were made: a run that races, or one that can go on
abbrev pub IsMet : Program → Met → List Move → Position → Type 0
IsMet program Races moves p = IsRaceOf program p moves
IsMet program Goes moves p = IsWalked program moves p
IsMet program None moves p = IsWalked program moves p

-- from where a run stands moves lead to a race
abbrev pub RacesFrom : Program → Position → List Move → Type 0
RacesFrom program p moves = LeadsToRace program.flow.now program.observer.now (threads_of p) p.here moves

-- no race is missed by what came of a move: whatever moves lead to one after it still do, and none do where there is no
-- such move
abbrev pub FollowsOn : Program → Position → Move → Met → Position → Type 0
FollowsOn program p move Goes q =
    (q.ended ≡ false) × ((moves : List Move) → RacesFrom program p (move ∷ moves) → RacesFrom program q moves)
FollowsOn program p move Races q = Unit {0}
FollowsOn program p move None q =
    (q.ended ≡ false) × ((moves : List Move) → RacesFrom program p (move ∷ moves) → ⊥)

-- nobody says what is freed
abbrev pub IsAny : {X : Type 0} {P : X → Type 0} → Frees X P → Type 0
IsAny frees = frees ≡ Any
