-- One table of equalities that is extended and taken back: what its trail says, and where clashes are left.
use Rattle.std.specs.Prelude.{◌≡◌, ◌≢◌, ◌<◌, ◌≤◌, ◌+◌, ℕ, length, sum, List, [], ◌∷◌}
use Rattle.std.specs.Prelude.{◌++◌, slice_set, slice_get, slice_index, Some, Contains}
use Rattle.plc_ground.specs.declared.terms.Map.{Map}
use Rattle.plc_ground.specs.declared.terms.GroundTerm.{GroundTerm}
use Rattle.plc_ground.specs.declared.terms.GroundTerm.TheVariants.{App}
use Rattle.plc_ground.specs.declared.equalities.Change.{Change}
use Rattle.plc_ground.specs.declared.equalities.Equalities.{Equalities}
use Rattle.plc_ground.specs.declared.terms.Lit.{Lit}
use Rattle.plc_ground.specs.Equality.{Same}
use Rattle.plc_ground.specs.Fit.{ArgumentsInRange}
use Rattle.plc_ground.specs.Classes.{IsClash, IsMerged, IsCoarser}

-- the classes before these changes, of which the newest stands last
abbrev pub undone : List Change → List ℕ → List ℕ
undone [] class = class
undone (c ∷ cs) class = slice_set (undone cs class) c.term c.class

-- the trail is longer by the changes that were made
pub record Extends (old new : Equalities) : Type 0 where
  pub changes : List Change
  pub trail : new.trail ≡ old.trail ++ changes
  pub back : undone changes new.class ≡ old.class

-- the table is what it was
pub record IsBack (old new : Equalities) : Type 0 where
  pub class : new.class ≡ old.class
  pub trail : new.trail ≡ old.trail

-- the argument of this application has class x
abbrev pub HasArgumentIn : List GroundTerm → List ℕ → ℕ → ℕ → Type 0
HasArgumentIn terms class x i = (m : Map) × (v : ℕ) × (a : ℕ) × (slice_get terms i ≡ Some (App m v a))
    × (slice_index class a ≡ x)

-- the applications of the list whose arguments have class x share a class
abbrev pub AgreeAt : List GroundTerm → List ℕ → ℕ → List ℕ → Type 0
AgreeAt terms class x list = (k n : ℕ) → k < length list → n < length list
    → HasArgumentIn terms class x (slice_index list k) → HasArgumentIn terms class x (slice_index list n)
    → slice_index class (slice_index list k) ≡ slice_index class (slice_index list n)

-- at most one place of the list has a term of class x
abbrev pub IsAloneIn : List ℕ → ℕ → List ℕ → Type 0
IsAloneIn class x list = (k n : ℕ) → k < length list → n < length list
    → slice_index class (slice_index list k) ≡ x → slice_index class (slice_index list n) ≡ x → k ≡ n

-- no two applications clash whose arguments have class x
abbrev pub IsClearOf : List GroundTerm → List ℕ → ℕ → Type 0
IsClearOf terms class x = (i j : ℕ) (k : IsClash terms class i j) → slice_index class k.first ≢ x

-- two applications clash only where the class of their arguments is one of these
abbrev pub ClashOnlyIn : List GroundTerm → List ℕ → List ℕ → Type 0
ClashOnlyIn terms class joined = (i j : ℕ) (k : IsClash terms class i j)
    → Contains joined (slice_index class k.first)

-- two terms and their classes came together
pub record IsJoined (old new : Equalities) (x y : ℕ) : Type 0 where
  pub one_each : length new.class ≡ length old.class
  pub kept : (terms : List GroundTerm) (branch : List Lit) → IsMerged terms branch old.class → Same terms branch x y
      → IsMerged terms branch new.class
  pub together : slice_index new.class x ≡ slice_index new.class y
  pub coarser : IsCoarser old.class new.class
  pub less : sum new.class < sum old.class
  pub extends : Extends old new
  pub count : length new.joined ≤ length old.joined + 1
  pub left : (terms : List GroundTerm) → length terms ≤ length old.class → ArgumentsInRange terms
      → ClashOnlyIn terms old.class old.joined → ClashOnlyIn terms new.class new.joined

-- some clashes were joined, and what is left of them is known
pub record Settles (terms : List GroundTerm) (old new : Equalities) : Type 0 where
  pub one_each : length new.class ≡ length old.class
  pub kept : (branch : List Lit) → IsMerged terms branch old.class → IsMerged terms branch new.class
  pub coarser : IsCoarser old.class new.class
  pub no_more : sum new.class ≤ sum old.class
  pub extends : Extends old new
  pub left : ClashOnlyIn terms new.class new.joined

-- a bound on the steps that are left
abbrev pub to_settle : Equalities → ℕ
to_settle e = sum e.class + sum e.class + length e.joined
