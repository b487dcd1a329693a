-- What every outline keeps that was read: the limits, that what its clauses name is there, and that the two sides of
-- an equation have one sort.
use Rattle.std.specs.Prelude.{◌≡◌, ◌<◌, ◌≤◌, ℕ, Bool, true, false}
use Rattle.std.specs.Prelude.{List, [], ◌∷◌, length, slice_get, Some, All}
use Rattle.plc_base.specs.Limits.{most, most_bound}
use Rattle.plc_base.specs.declared.limits.What1.TheVariants as limits
use Rattle.plc_lang.specs.declared.syntax.Local.{Local}
use Rattle.plc_lang.specs.declared.syntax.Field.{Field}
use Rattle.plc_lang.specs.declared.syntax.Ghost.{Ghost}
use Rattle.plc_lang.specs.declared.syntax.Op.{Op}
use Rattle.plc_lang.specs.declared.syntax.File.{File}
use Rattle.plc_logic.specs.declared.clause.Base.{Base}
use Rattle.plc_logic.specs.declared.clause.Base.TheVariants as bases
use Rattle.plc_logic.specs.declared.clause.Term.{Term}
use Rattle.plc_logic.specs.declared.clause.Term.TheVariants as terms
use Rattle.plc_logic.specs.declared.clause.Sort.{Sort}
use Rattle.plc_logic.specs.declared.clause.Sort.TheVariants as sorts
use Rattle.plc_logic.specs.declared.clause.Literal.{Literal}
use Rattle.plc_logic.specs.declared.clause.Literal.TheVariants.{Same, Retired, Marked}
use Rattle.plc_logic.specs.declared.clause.Clause.{Clause}
use Rattle.plc_logic.specs.declared.clause.Site.{Site}
use Rattle.plc_logic.specs.declared.clause.Site.TheVariants.{Over, At}
use Rattle.plc_logic.specs.declared.clause.Item.{Item}
use Rattle.plc_logic.specs.declared.clause.Outline.{Outline}
use Rattle.plc_lang.specs.Labels.{labels_by_op, op_of_label}

-- what a clause may name: the things of the file, the locals and the thread of its operation, and so many quantified
-- names
pub record InReach : Type 0 where
  pub file : File
  pub locals : List Local
  pub in_operation : Bool
  pub bound : ℕ

-- ---- sorts

-- what a variable or a field holds, by whether it is a pointer
abbrev pub pointer_sort : Bool → Sort
pointer_sort true = sorts.Node
pointer_sort false = sorts.Number

-- what an auxiliary field holds, by its values: a thread where it has none
abbrev pub ghost_sort : ℕ → List ℕ → Sort
ghost_sort g [] = sorts.Thread
ghost_sort g (v ∷ vs) = sorts.Value g

-- a node that is there
abbrev pub IsNode : InReach → Base → Type 0
IsNode w (bases.Shared i) = i < length w.file.shared
IsNode w (bases.Local i) = (l : Local) × (slice_get w.locals i ≡ Some l) × (l.pointer ≡ true)
IsNode w (bases.Bound i) = i < w.bound

-- a term that is there has this sort
abbrev pub HasSort : InReach → Term → Sort → Type 0
HasSort w (terms.Shared i) s = (i < length w.file.shared) × (s ≡ sorts.Node)
HasSort w (terms.Local i) s = (l : Local) × (slice_get w.locals i ≡ Some l) × (s ≡ pointer_sort l.pointer)
HasSort w (terms.Bound i) s = (i < w.bound) × (s ≡ sorts.Node)
HasSort w (terms.FieldOf b f) s = IsNode w b × (d : Field) × (slice_get w.file.fields f.0 ≡ Some d)
    × (s ≡ pointer_sort d.pointer)
HasSort w (terms.GhostOf b g) s = IsNode w b × (h : Ghost) × (slice_get w.file.ghosts g ≡ Some h)
    × (s ≡ ghost_sort g h.values)
HasSort w terms.Null s = s ≡ sorts.Node
HasSort w (terms.Number n) s = s ≡ sorts.Number
HasSort w (terms.Value g v) s = (h : Ghost) × (slice_get w.file.ghosts g ≡ Some h) × (v < length h.values)
    × (s ≡ sorts.Value g)
HasSort w terms.Me s = (w.in_operation ≡ true) × (s ≡ sorts.Thread)
HasSort w terms.Nobody s = s ≡ sorts.Thread

-- a place that is there and holds a pointer, which is marked or not
abbrev pub HoldsPointer : InReach → Term → Type 0
HoldsPointer w (terms.Shared i) = i < length w.file.shared
HoldsPointer w (terms.Local i) = (l : Local) × (slice_get w.locals i ≡ Some l) × (l.pointer ≡ true)
HoldsPointer w (terms.Bound i) = ⊥
HoldsPointer w (terms.FieldOf b f) = IsNode w b × (d : Field) × (slice_get w.file.fields f.0 ≡ Some d)
    × (d.pointer ≡ true)
HoldsPointer w (terms.GhostOf b g) = ⊥
HoldsPointer w terms.Null = ⊥
HoldsPointer w (terms.Number n) = ⊥
HoldsPointer w (terms.Value g v) = ⊥
HoldsPointer w terms.Me = ⊥
HoldsPointer w terms.Nobody = ⊥

-- ---- clauses

-- the two sides of an equation have one sort, and only a place of a pointer has a mark
abbrev pub LiteralFits : InReach → Literal → Type 0
LiteralFits w (Same a b is_so) = (s : Sort) × HasSort w a s × HasSort w b s
LiteralFits w (Retired x is_so) = IsNode w x
LiteralFits w (Marked t is_so) = HoldsPointer w t

-- what a clause of an operation with these locals, or of an invariant, may name
abbrev pub in_reach_of : File → List Local → Bool → Clause → InReach
in_reach_of file ls in_operation c =
    record { file = file; locals = ls; in_operation = in_operation; bound = length c.bound.names }

-- a clause in an operation with these locals, or in an invariant
pub record ClauseFits (file : File) (ls : List Local) (in_operation : Bool) (c : Clause) : Type 0 where
  pub bound : length c.bound.names ≤ most_bound
  pub some : 0 < length c.literals
  pub literals : length c.literals ≤ most limits.Literals
  pub each : All (LiteralFits (in_reach_of file ls in_operation c)) c.literals

-- an invariant names no local and no thread
abbrev pub InvariantFits : File → Clause → Type 0
InvariantFits file c = ClauseFits file [] false c

-- labels of the file, at least one, that stand in one operation
pub record LabelsFit (file : File) (labels : List ℕ) (operation : ℕ) : Type 0 where
  pub some : 0 < length labels
  pub known : All (λ l. l < length file.labels) labels
  pub within : All (λ l. op_of_label (labels_by_op file.ops) l ≡ Some operation) labels

-- a clause over an operation, or at labels that stand in one
abbrev pub SiteFits : File → Clause → Site → Type 0
SiteFits file c (Over o) = (op : Op) × (slice_get file.ops o.0 ≡ Some op) × ClauseFits file op.locals true c
SiteFits file c (At labels) = (k : ℕ) × (op : Op) × (slice_get file.ops k ≡ Some op) × LabelsFit file labels k
    × ClauseFits file op.locals true c

-- an item, whose clause stands where it says
abbrev pub ItemFits : File → Item → Type 0
ItemFits file item = SiteFits file item.clause item.site

-- the limits, and what each part keeps
pub record OutlineFits (file : File) (outline : Outline) : Type 0 where
  pub depth : outline.depth ≤ 1
  pub invariants : length outline.invariants ≤ most limits.Invariants
  pub each_invariant : All (InvariantFits file) outline.invariants
  pub items : length outline.items ≤ most limits.Items
  pub each_item : All (ItemFits file) outline.items
