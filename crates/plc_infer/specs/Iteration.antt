-- What the iteration to the strongest pre-typing keeps, for any points, environments and steps that are
-- ordered: its lemmas then see no types.
-- `Graphs` says which graph a program is, and that its pre-typings are those of the typing rules.
use Rattle.std.specs.Prelude.{◌≡◌, ℕ, ◌<◌, ◌≤◌, Bool, true, false, List}
use Rattle.std.specs.Prelude.{length, slice_index_or, slice_set, ◌⊎◌}
use Rattle.std.specs.List.{sum_by}

-- points with values that are ordered and joined, and steps that lead from one to another
pub record Graph (E : Type 0) : Type 0 where
  pub points : ℕ
  pub steps : ℕ
  pub from : ℕ → ℕ
  pub to : ℕ → ℕ
  -- whether an environment is one of this point
  pub fits : ℕ → E → Bool
  pub bottom : E
  pub below : E → E → Bool
  pub joined : E → E → E
  -- a number that grows with the environment
  pub size : E → ℕ
  pub most : ℕ
  -- where a step leads from an environment of its first point
  pub after : ℕ → E → E
  -- the conditions of a step, and whether one holds as the step runs from an environment
  pub conditions : ℕ → ℕ
  pub holds : ℕ → ℕ → E → Bool

-- an order at each point, and steps that keep it
pub record Laws {E : Type 0} (g : Graph E) : Type 0 where
  pub from_in : (k : ℕ) → k < g.steps → g.from k < g.points
  pub to_in : (k : ℕ) → k < g.steps → g.to k < g.points
  pub same : (p : ℕ) (a : E) → g.fits p a ≡ true → g.below a a ≡ true
  pub trans : (p : ℕ) (a b c : E) → g.fits p a ≡ true → g.fits p b ≡ true → g.fits p c ≡ true
      → g.below a b ≡ true → g.below b c ≡ true → g.below a c ≡ true
  pub join_fits : (p : ℕ) (a b : E) → g.fits p a ≡ true → g.fits p b ≡ true → g.fits p (g.joined a b) ≡ true
  pub left : (p : ℕ) (a b : E) → g.fits p a ≡ true → g.fits p b ≡ true → g.below a (g.joined a b) ≡ true
  pub right : (p : ℕ) (a b : E) → g.fits p a ≡ true → g.fits p b ≡ true → g.below b (g.joined a b) ≡ true
  pub least : (p : ℕ) (a b c : E) → g.fits p a ≡ true → g.fits p b ≡ true → g.fits p c ≡ true
      → g.below a c ≡ true → g.below b c ≡ true → g.below (g.joined a b) c ≡ true
  pub grows : (p : ℕ) (a b : E) → g.fits p a ≡ true → g.fits p b ≡ true
      → g.below b a ≡ false → g.size a < g.size (g.joined a b)
  pub bounded : (p : ℕ) (a : E) → g.fits p a ≡ true → g.size a ≤ g.most
  pub after_fits : (k : ℕ) (a : E) → k < g.steps → g.fits (g.from k) a ≡ true → g.fits (g.to k) (g.after k a) ≡ true
  pub keeps : (k : ℕ) (a b : E) → k < g.steps → g.fits (g.from k) a ≡ true → g.fits (g.from k) b ≡ true
      → g.below a b ≡ true → g.below (g.after k a) (g.after k b) ≡ true
  pub less : (k i : ℕ) (a b : E) → k < g.steps → g.fits (g.from k) a ≡ true → g.fits (g.from k) b ≡ true
      → g.below a b ≡ true → g.holds k i b ≡ true → g.holds k i a ≡ true

-- the environment of a point
abbrev pub env_at : {E : Type 0} → Graph E → List E → ℕ → E
env_at g envs p = slice_index_or envs p g.bottom

-- an environment of its own for each point
pub record Shaped {E : Type 0} (g : Graph E) (envs : List E) : Type 0 where
  pub count : length envs ≡ g.points
  pub fitting : (p : ℕ) → p < g.points → g.fits p (env_at g envs p) ≡ true

-- the step leads to no more than its last point has
abbrev pub Stays : {E : Type 0} → Graph E → List E → ℕ → Type 0
Stays g envs k = g.below (g.after k (env_at g envs (g.from k))) (env_at g envs (g.to k)) ≡ true

-- above the starts, and closed under the steps
pub record IsPretyping {E : Type 0} (g : Graph E) (starts envs : List E) : Type 0 where
  pub shaped : Shaped g envs
  pub above : (p : ℕ) → p < g.points → g.below (env_at g starts p) (env_at g envs p) ≡ true
  pub stays : (k : ℕ) → k < g.steps → Stays g envs k

-- a pre-typing below each other
pub record IsStrongest {E : Type 0} (g : Graph E) (starts envs : List E) : Type 0 where
  pub pretyping : IsPretyping g starts envs
  pub below_all : (others : List E) → IsPretyping g starts others
      → (p : ℕ) → p < g.points → g.below (env_at g envs p) (env_at g others p) ≡ true

-- a condition holds under an assignment of values
abbrev pub Holds : {E : Type 0} → Graph E → List E → ℕ → ℕ → Type 0
Holds g envs k i = g.holds k i (env_at g envs (g.from k)) ≡ true

-- a pre-typing under which each condition holds
pub record IsTyping {E : Type 0} (g : Graph E) (starts envs : List E) : Type 0 where
  pub pretyping : IsPretyping g starts envs
  pub holding : (k i : ℕ) → k < g.steps → i < g.conditions k → Holds g envs k i

-- before, step by step and in a step condition by condition
abbrev pub IsEarlier : ℕ → ℕ → ℕ → ℕ → Type 0
IsEarlier j i l k = (j < l) ⊎ ((j ≡ l) × (i < k))

-- the first condition that fails under every pre-typing: each earlier one holds under some
pub record IsStuckAt {E : Type 0} (g : Graph E) (starts : List E) (k i : ℕ) : Type 0 where
  pub step_in : k < g.steps
  pub condition_in : i < g.conditions k
  pub fails : (envs : List E) → IsPretyping g starts envs → Holds g envs k i → ⊥
  pub first : (l j : ℕ) → l < g.steps → j < g.conditions l → IsEarlier l j k i
      → (envs : List E) × IsPretyping g starts envs × Holds g envs l j

-- all conditions of the first n steps hold
abbrev pub HoldBelow : {E : Type 0} → Graph E → List E → ℕ → Type 0
HoldBelow g envs n = (k : ℕ) → k < n → (i : ℕ) → i < g.conditions k → Holds g envs k i

-- the first condition that fails in these environments
pub record IsFirstFailing {E : Type 0} (g : Graph E) (envs : List E) (k i : ℕ) : Type 0 where
  pub step_in : k < g.steps
  pub condition_in : i < g.conditions k
  pub fails : g.holds k i (env_at g envs (g.from k)) ≡ false
  pub earlier : HoldBelow g envs k
  pub before : (j : ℕ) → j < i → Holds g envs k j

-- on the way there
pub record Rising {E : Type 0} (g : Graph E) (starts envs : List E) : Type 0 where
  pub shaped : Shaped g envs
  pub above : (p : ℕ) → p < g.points → g.below (env_at g starts p) (env_at g envs p) ≡ true
  pub below_all : (others : List E) → IsPretyping g starts others
      → (p : ℕ) → p < g.points → g.below (env_at g envs p) (env_at g others p) ≡ true

-- what one step did: the environment of its last point is the join, or already as large
abbrev pub Relaxed : {E : Type 0} → Graph E → ℕ → List E → List E → Bool → Type 0
Relaxed g k old new true =
    (g.below (g.after k (env_at g old (g.from k))) (env_at g old (g.to k)) ≡ false)
    × (new ≡ slice_set old (g.to k) (g.joined (env_at g old (g.to k)) (g.after k (env_at g old (g.from k)))))
Relaxed g k old new false = Stays g old k × (new ≡ old)

-- the sum of the sizes
abbrev pub total : {E : Type 0} → Graph E → List E → ℕ
total g envs = sum_by g.size envs
