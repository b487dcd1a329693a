-- The state of a search for a tree that closes a set.
use Rattle.std.specs.Prelude.{◌≡◌, ◌≢◌, ◌≤◌, ◌<◌, ◌+◌, ◌⊎◌, ℕ, true, List, [], ◌∷◌}
use Rattle.std.specs.Prelude.{◌++◌, length, map, take, drop, All, Any, Contains}
use Rattle.std.specs.Prelude.{slice_get, slice_index, sum, Option, Some, None, Vec}
use Rattle.plc_ground.specs.declared.terms.Lit.{Lit}
use Rattle.plc_ground.specs.declared.terms.Symbol.{Symbol}
use Rattle.plc_ground.specs.declared.terms.Node.{Node}
use Rattle.plc_ground.specs.declared.terms.Node.TheVariants.{Leaf}
use Rattle.plc_ground.specs.declared.terms.GroundTerm.{GroundTerm}
use Rattle.plc_ground.specs.declared.terms.GroundTerm.TheVariants.{Const}
use Rattle.plc_ground.specs.declared.terms.GroundSet.{GroundSet}
use Rattle.plc_ground.specs.declared.apart.Family.TheVariants.{Free}
use Rattle.plc_ground.specs.declared.table.Applications.{Applications}
use Rattle.plc_solve.specs.declared.chain.Pair.{Pair}
use Rattle.plc_solve.specs.declared.survey.Survey.{Survey}
use Rattle.plc_solve.specs.declared.place.Place.{Place}
use Rattle.plc_solve.specs.declared.frame.Frame.{Frame}
use Rattle.plc_solve.specs.declared.split.Descent.{Descent}
use Rattle.plc_solve.specs.declared.split.Descent.TheVariants.{Conflict, Longer}
use Rattle.plc_solve.specs.declared.frame.Step.{Step}
use Rattle.plc_solve.specs.declared.frame.Step.TheVariants.{Open, Closed, Deeper, Complete}
use Rattle.plc_ground.specs.Model.{symbol_family, FailsIn, MustDiffer, IsModel, literals}
use Rattle.plc_ground.specs.Fit.{IsWellFormed, IsInRange, LitFits}
use Rattle.plc_ground.specs.Classes.{IsClosure, IsNoLater, IsTable, AreApart}
use Rattle.plc_ground.specs.Changes.{Extends, undone}
use Rattle.plc_ground.specs.Trees.{Close, SplitsOnce}
use Rattle.plc_ground.specs.Equality.{Same}

-- the term is a constant that differs from others by the rule alone
abbrev pub IsDistinguishedAt : GroundSet → ℕ → Type 0
IsDistinguishedAt s i = (v : Symbol) × (slice_get s.terms i ≡ Some (Const v)) × (symbol_family v ≢ Free)

-- the term is this constant, or one that must differ from it
abbrev pub IsOfGroup : GroundSet → ℕ → ℕ → Type 0
IsOfGroup s first i = (first ≡ i) ⊎ MustDiffer s first i

-- the list is the group of a constant
pub record IsGroupOf (s : GroundSet) (first : ℕ) (list : List ℕ) : Type 0 where
  pub each : All (IsOfGroup s first) list
  pub whole : (i : ℕ) → IsOfGroup s first i → Contains list i

-- the list is the group of some constant
abbrev pub IsGroup : GroundSet → List ℕ → Type 0
IsGroup s list = (first : ℕ) × (first < length s.terms) × IsGroupOf s first list

-- a group has the term
abbrev pub IsGrouped : List (List ℕ) → ℕ → Type 0
IsGrouped groups i = Any (λ g. Contains g i) groups

-- groups of constants, with each constant that differs from others
pub record AreGroups (s : GroundSet) (groups : List (List ℕ)) : Type 0 where
  pub each : All (IsGroup s) groups
  pub whole : (i : ℕ) → IsDistinguishedAt s i → IsGrouped groups i

-- what a survey has of the set
pub record IsSurvey (s : GroundSet) (v : Survey) : Type 0 where
  pub table : IsTable s.terms v.table
  pub groups : AreGroups s v.groups
  pub units : All (IsInRange s.terms) v.units.items

-- the set keeps its rules, and each of its terms has a class, named by a term that is no later
pub record IsClassed (s : GroundSet) (class : List ℕ) : Type 0 where
  pub well : IsWellFormed s
  pub one_each : length class ≡ length s.terms
  pub no_later : IsNoLater class

-- two terms of one class that must differ
pub record IsConflict (s : GroundSet) (class : List ℕ) (i j : ℕ) : Type 0 where
  pub first : i < length s.terms
  pub second : j < length s.terms
  pub differ : MustDiffer s i j
  pub together : slice_index class i ≡ slice_index class j

-- the sides of the literal have a class
abbrev pub AreInside : List ℕ → Lit → Type 0
AreInside class l = (l.left < length class) × (l.right < length class)

-- each of the literals is false
abbrev pub AreFalse : List ℕ → List Lit → Type 0
AreFalse class ls = (k : ℕ) (l : Lit) → slice_get ls k ≡ Some l → FailsIn (slice_index class) l

-- no literal of the clause is true
abbrev pub IsFalse : GroundSet → List ℕ → ℕ → Type 0
IsFalse s class c = AreFalse class (literals s c)

-- a branch with its classes
pub record IsPlace (s : GroundSet) (branch : List Lit) (class : List ℕ) : Type 0 where
  pub closure : IsClosure s.terms branch class
  pub fit : All (LitFits s) branch
  pub apart : (i j : ℕ) → AreApart s class i j

-- each literal of the one list is in the other
abbrev pub IsWithin : List Lit → List Lit → Type 0
IsWithin few many = (l : Lit) → Contains few l → Contains many l

-- the classes are those of some branch
abbrev pub IsOfSome : GroundSet → List ℕ → Type 0
IsOfSome s class = (branch : List Lit) × IsClosure s.terms branch class

-- two terms of a set that keeps its rules, of which a branch may say why they are equal, with the set's applications
pub record CanExplain (s : GroundSet) (applications : Applications) (branch : List Lit) (p : Pair) : Type 0 where
  pub well : IsWellFormed s
  pub table : IsTable s.terms applications
  pub fit : All (LitFits s) branch
  pub first : p.a < length s.terms
  pub second : p.b < length s.terms

-- literals of a branch that make two terms equal
pub record Explains (s : GroundSet) (branch : List Lit) (a b : ℕ) (core : List Lit) : Type 0 where
  pub within : IsWithin core branch
  pub same : Same s.terms core a b

-- where this literal is on a branch, it makes the one term equal to the other
abbrev pub Leads : Lit → ℕ → ℕ → Type 0
Leads l at next = ((terms : List GroundTerm) (branch : List Lit) → Contains branch l → Same terms branch at next)
    × ((l.left ≡ next) ⊎ (l.right ≡ next))

-- the literals that were put into this table are on the branch
pub record PutsSome (s : GroundSet) (branch core : List Lit) (class : List ℕ) : Type 0 where
  pub within : IsWithin core branch
  pub closure : IsClosure s.terms core class

-- the core of a split after that of one more child, but for the child's own literal
pub record TakesCore (old new : List Lit) (own : Lit) (more : List Lit) : Type 0 where
  pub kept : IsWithin old new
  pub covered : IsWithin more (new ++ own ∷ [])
  pub within : (l : Lit) → Contains new l → Contains old l ⊎ (Contains more l × (l ≢ own))

-- a split of the present branch: the branch above it and its classes are told, where the search keeps two lengths
pub record OpenSplit : Type 0 where
  pub clause : ℕ
  pub next : ℕ
  pub nodes : List Node
  pub core : List Lit
  pub branch : List Lit
  pub class : List ℕ

-- the split on this branch, which has these classes
abbrev pub split_on : List Lit → List ℕ → Frame → OpenSplit
split_on branch class f = record {
  clause = f.clause;
  next = f.next;
  nodes = f.nodes.items;
  core = f.core.items;
  branch = branch;
  class = class;
}

-- the splits of a place, the newest first: each on the branch and the classes that were there before what came later
abbrev pub splits : Place → List Frame → List OpenSplit
splits p [] = []
splits p (f ∷ fs) =
    split_on (take f.depth p.branch.items) (undone (drop f.mark p.equal.trail) p.equal.class) f ∷ splits p fs

-- each of these splits, the newest first, stands at the place above it or before
abbrev pub AreNested : ℕ → ℕ → List Frame → Type 0
AreNested depth mark [] = Unit {0}
AreNested depth mark (f ∷ fs) = (f.depth ≤ depth) × (f.mark ≤ mark) × AreNested f.depth f.mark fs

-- the place is cut back to a split
pub record IsCutTo (f : Frame) (old new : Place) : Type 0 where
  pub branch : new.branch.items ≡ take f.depth old.branch.items
  pub class : new.equal.class ≡ undone (drop f.mark old.equal.trail) old.equal.class
  pub trail : new.equal.trail ≡ take f.mark old.equal.trail

-- the place is what it was
pub record IsSame (old new : Place) : Type 0 where
  pub branch : new.branch.items ≡ old.branch.items
  pub class : new.equal.class ≡ old.equal.class
  pub trail : new.equal.trail ≡ old.equal.trail

-- the place is the old one or lies deeper
pub record GoesOn (old new : Place) : Type 0 where
  pub more : List Lit
  pub branch : new.branch.items ≡ old.branch.items ++ more
  pub equal : Extends old.equal new.equal

-- a split on a false clause, whose first children are closed: its nodes need no more of the branch than the core
pub record IsSound (s : GroundSet) (f : OpenSplit) : Type 0 where
  pub place : IsPlace s f.branch f.class
  pub clause : f.clause < length s.clauses
  pub wrong : IsFalse s f.class f.clause
  pub within : f.next ≤ length (literals s f.clause)
  pub used : IsWithin f.core f.branch
  pub closed : Close s (map (λ l. f.core ++ l ∷ []) (take f.next (literals s f.clause))) f.nodes

-- the split and the trees below it split no clause twice, nor one of those above
pub record IsOnce (s : GroundSet) (above : List ℕ) (f : OpenSplit) : Type 0 where
  pub fresh : Contains above f.clause → ⊥
  pub below : SplitsOnce s (map (λ l. f.clause ∷ above) (take f.next (literals s f.clause))) f.nodes

-- the child is the split's next child, on an equation
pub record IsNextChild (s : GroundSet) (f : OpenSplit) (child : OpenSplit) : Type 0 where
  pub literal : Lit
  pub is : slice_get (literals s f.clause) f.next ≡ Some literal
  pub equal : literal.equal ≡ true
  pub longer : child.branch ≡ f.branch ++ literal ∷ []

-- a set that keeps its rules and was surveyed, with a row of the one table for each clause, of the other for each term
pub record CanSearch (s : GroundSet) (v : Survey) (by_clause by_class : List ℕ) : Type 0 where
  pub well : IsWellFormed s
  pub survey : IsSurvey s v
  pub seen : length by_clause ≡ length s.clauses
  pub last : length by_class ≡ length s.terms

-- a split at this place, of which no child is closed yet
pub record IsNew (s : GroundSet) (p : Place) (child : Frame) : Type 0 where
  pub sound : IsSound s (split_on p.branch.items p.equal.class child)
  pub first : child.next ≡ 0
  pub none : child.nodes.items ≡ []
  pub unused : child.core.items ≡ []
  pub depth : child.depth ≡ length p.branch.items
  pub mark : child.mark ≡ length p.equal.trail

-- what comes of a branch on which nothing is split yet
abbrev pub Enters : GroundSet → Place → Step → Type 0
Enters s p Open = IsModel s p.equal.class
Enters s p Closed = ⊥
Enters s p (Deeper child) = IsNew s p child
Enters s p Complete = ⊥

-- two terms that the longer branch makes equal and that must differ
pub record Collide (s : GroundSet) (branch : List Lit) (a b : ℕ) : Type 0 where
  pub first : a < length s.terms
  pub second : b < length s.terms
  pub same : Same s.terms branch a b
  pub differ : MustDiffer s a b
  pub fit : All (LitFits s) branch

-- two terms of one class that must differ, or the longer branch with its classes
abbrev pub Descends : GroundSet → Place → Lit → Place → Descent → Type 0
Descends s old l new (Conflict pair) =
    Collide s new.branch.items pair.a pair.b × (new.branch.items ≡ old.branch.items ++ l ∷ [])
Descends s old l new Longer =
    IsPlace s new.branch.items new.equal.class × (new.branch.items ≡ old.branch.items ++ l ∷ [])
    × (slice_index old.equal.class l.left ≢ slice_index old.equal.class l.right
    → sum new.equal.class < sum old.equal.class)

-- the frame after one more child, which a tree closes
pub record TakesTree (old new : Frame) (tree : List Node) : Type 0 where
  pub clause : new.clause ≡ old.clause
  pub depth : new.depth ≡ old.depth
  pub mark : new.mark ≡ old.mark
  pub next : new.next ≡ old.next + 1
  pub nodes : new.nodes.items ≡ old.nodes.items ++ tree

-- one step at a split that stands at the old place
abbrev pub StepGives : GroundSet → Place → Frame → Frame → Place → Step → Type 0
StepGives s old f g new Open = IsModel s new.equal.class
StepGives s old f g new Closed = IsSound s (split_on old.branch.items old.equal.class g)
    × ((a : ℕ) × (b : ℕ) × TakesTree f g (Leaf a b ∷ []))
StepGives s old f g new (Deeper child) = (g ≡ f) × IsNew s new child
    × IsNextChild s (split_on old.branch.items old.equal.class f) (split_on new.branch.items new.equal.class child)
    × (sum new.equal.class < sum old.equal.class)
StepGives s old f g new Complete = (g ≡ f) × (f.next ≡ length (literals s f.clause))

-- the clauses of these splits
abbrev pub clauses_of : List OpenSplit → List ℕ
clauses_of [] = []
clauses_of (f ∷ fs) = f.clause ∷ clauses_of fs

-- the split is the next child of the split above, or the first of all
abbrev pub IsChildOf : GroundSet → OpenSplit → List OpenSplit → Type 0
IsChildOf s f [] = f.branch ≡ []
IsChildOf s f (p ∷ fs) = IsNextChild s p f

-- the splits of one branch, the newest first
abbrev pub IsStack : GroundSet → List OpenSplit → Type 0
IsStack s [] = Unit {0}
IsStack s (f ∷ fs) = IsSound s f × IsOnce s (clauses_of fs) f × IsChildOf s f fs × IsStack s fs

-- the splits of a place, the newest first, are those of one branch
pub record Stands (s : GroundSet) (p : Place) (fs : List Frame) : Type 0 where
  pub nested : AreNested (length p.branch.items) (length p.equal.trail) fs
  pub stack : IsStack s (splits p fs)

-- the nodes close the next child of a split by a core of its branch, and split no clause twice
pub record ClosesChild (s : GroundSet) (p : OpenSplit) (above : List ℕ) (core : List Lit) (tree : List Node)
    : Type 0 where
  pub literal : Lit
  pub is : slice_get (literals s p.clause) p.next ≡ Some literal
  pub used : IsWithin core (p.branch ++ literal ∷ [])
  pub close : Close s (core ∷ []) tree
  pub once : SplitsOnce s ((p.clause ∷ above) ∷ []) tree

-- the nodes close the set, and split no clause twice
abbrev pub ClosesAll : GroundSet → List Node → Type 0
ClosesAll s tree = Close s ([] ∷ []) tree × SplitsOnce s ([] ∷ []) tree

-- the nodes close the branch that these splits lead to by a core of it, and split no clause twice
abbrev pub ClosesTop : GroundSet → List OpenSplit → List Lit → List Node → Type 0
ClosesTop s [] core tree = ClosesAll s tree
ClosesTop s (p ∷ fs) core tree = ClosesChild s p (clauses_of fs) core tree

-- what a search comes to at this place: its classes are a model, or these nodes close the set and split no clause twice
abbrev pub Finds : {Z : Type 0} → GroundSet → Place → Option (Vec Node Z) → Type 0
Finds s p None = IsModel s p.equal.class
Finds s p (Some nodes) = ClosesAll s nodes.items
