-- What a work list holds while the iteration goes on: each step that may lead too far leaves a point on the
-- list, or is still to be looked at.
use Rattle.std.specs.Prelude.{◌≡◌, ℕ, ◌+◌, ◌<◌, ◌≤◌, Bool, true, false, List, []}
use Rattle.std.specs.Prelude.{◌∷◌, ◌++◌, length, get_or, slice_set, ◌⊎◌}
use Rattle.plc_xfer.specs.Rules.{table}
use Rattle.plc_infer.specs.Iteration.{Graph, env_at, Stays, Rising, Relaxed, total}

-- a number is in a list
abbrev pub Among : List ℕ → ℕ → Type 0
Among [] n = ⊥
Among (x ∷ xs) n = (x ≡ n) ⊎ Among xs n

-- 0, 1, .. of so many numbers
abbrev pub numbers : ℕ → List ℕ
numbers n = table 0 n (λ (i : ℕ). i)

-- a point is marked
abbrev pub is_marked : List Bool → ℕ → Bool
is_marked marks p = get_or marks p false

-- a point is on the list already, and nothing changes, or it is put at its end and marked
abbrev pub Puts : ℕ → List ℕ → List ℕ → List Bool → List Bool → Type 0
Puts p queue queue' marks marks' =
    ((is_marked marks p ≡ true) × (queue' ≡ queue) × (marks' ≡ marks))
    ⊎ ((queue' ≡ queue ++ p ∷ []) × (marks' ≡ slice_set marks p true))

-- a step leads to no more than its last point has, and the environment from which it runs has what is asked of it
abbrev pub Settled : {E : Type 0} → Graph E → (ℕ → E → Type 0) → List E → ℕ → Type 0
Settled g asked envs k = Stays g envs k × asked k (env_at g envs (g.from k))

-- nothing is asked of the environments from which steps run
abbrev pub Unasked : {E : Type 0} → ℕ → E → Type 0
Unasked k e = Unit {0}

-- on the way to the strongest, with the points on the list and the steps that are still to be looked at
pub record UnderWay {E : Type 0} (g : Graph E) (asked : ℕ → E → Type 0) (starts envs : List E) (queue : List ℕ)
    (marks : List Bool) (todo : List ℕ) : Type 0 where
  pub rising : Rising g starts envs
  pub count : length marks ≡ g.points
  pub points : (p : ℕ) → Among queue p → p < g.points
  pub queued : (p : ℕ) → is_marked marks p ≡ true → Among queue p
  pub steps : (k : ℕ) → Among todo k → k < g.steps
  pub left : (k : ℕ) → k < g.steps → Settled g asked envs k ⊎ (is_marked marks (g.from k) ≡ true) ⊎ Among todo k

-- what a look at one step did: nothing, or its last point was raised and put on the list
abbrev pub Looked : {E : Type 0} → Graph E → ℕ → List E → List E → List ℕ → List ℕ → List Bool → List Bool → Type 0
Looked g k old new queue queue' marks marks' =
    (Relaxed g k old new false × (queue' ≡ queue) × (marks' ≡ marks))
    ⊎ (Relaxed g k old new true × Puts (g.to k) queue queue' marks marks')

-- the list grew by no more points than the environments grew
abbrev pub Gains : {E : Type 0} → Graph E → List E → List E → List ℕ → List ℕ → Type 0
Gains g old new queue queue' = length queue' + total g old ≤ length queue + total g new
