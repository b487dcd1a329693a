-- Obligations whose clause is read after the step as before it: no primitive of the step writes what the clause reads.
use Rattle.std.specs.Prelude.{◌≡◌, ◌==◌, ◌&&◌, ◌||◌, ℕ, Bool, true, false, not, if◌then◌else◌, nat_lt, length, Contains}
use Rattle.std.specs.Prelude.{List, Option, Some, None}
use Rattle.std.specs.List.{list_any}
use Rattle.plc_base.specs.Functions.{is_retire}
use Rattle.plc_base.specs.declared.ids.FieldId.{FieldId}
use Rattle.plc_lang.specs.declared.syntax.Var.{Var}
use Rattle.plc_lang.specs.declared.syntax.Var.TheVariants as vars
use Rattle.plc_lang.specs.declared.syntax.Primitive.{Primitive}
use Rattle.plc_lang.specs.declared.syntax.Primitive.TheVariants as prims
use Rattle.plc_lang.specs.Allocation.{is_new}
use Rattle.plc_flow.specs.declared.flow.Flow.{Flow}
use Rattle.plc_logic.specs.declared.clause.Base.{Base}
use Rattle.plc_logic.specs.declared.clause.Base.TheVariants as bases
use Rattle.plc_logic.specs.declared.clause.Term.{Term}
use Rattle.plc_logic.specs.declared.clause.Term.TheVariants as terms
use Rattle.plc_logic.specs.declared.clause.Literal.{Literal}
use Rattle.plc_logic.specs.declared.clause.Literal.TheVariants as literals
use Rattle.plc_logic.specs.declared.clause.Clause.{Clause}
use Rattle.plc_logic.specs.declared.clause.Outline.{Outline}
use Rattle.plc_vocabulary.specs.declared.obligations.Obligation.{Obligation}
use Rattle.plc_vocabulary.specs.declared.obligations.Obligation.TheVariants.{Start, Enter, Own, Other, Claim}
use Rattle.plc_vocabulary.specs.Fit.{Fits}
use Rattle.plc_vocabulary.specs.Parts.{conclusion, step_prims}
use Rattle.plc_oblig.specs.declared.touching.Part.{Part}
use Rattle.plc_oblig.specs.declared.touching.Part.TheVariants as parts
use Rattle.plc_oblig.specs.Obligations.{obligations}
use Rattle.plc_oblig.specs.Outlines.{IsKept}

-- ---- what is written

-- a pointer variable as such a part, where all threads share it
abbrev pub shared_part : Var → Option Part
shared_part (vars.Shared i) = Some (parts.Shared i)
shared_part (vars.Local k) = None

-- the part that the primitive writes, or gives a mark
abbrev pub written : Primitive → Option Part
written (prims.Null p) = shared_part p
written (prims.Copy p q) = shared_part p
written (prims.New p) = shared_part p
written (prims.Load p q f) = shared_part p
written (prims.Store p f q) = Some (parts.Field f)
written (prims.StoreNull p f) = Some (parts.Field f)
written (prims.DataSet x e) = None
written (prims.DataLoad x q f) = None
written (prims.DataStore p f e) = Some (parts.Field f)
written (prims.Eq p q) = None
written (prims.Ne p q) = None
written (prims.IsNull p) = None
written (prims.NotNull p) = None
written (prims.DataTest r x e) = None
written (prims.Refresh p q) = None
written (prims.RefreshLoad p q f) = None
written (prims.RefreshStore p f q) = Some (parts.Field f)
written (prims.Mark p q) = shared_part p
written (prims.Unmark p q) = shared_part p
written (prims.MarkTest p m) = None
written (prims.Call f a) = if is_retire f then Some parts.Retired else None
written (prims.Done f) = None
written (prims.Active p) = None
written (prims.Ghost p g e) = Some (parts.Ghost g)

-- ---- what is read

abbrev pub is_pointer : ℕ → Part → Bool
is_pointer i (parts.Shared j) = j == i
is_pointer i (parts.Field f) = false
is_pointer i (parts.Ghost g) = false
is_pointer i parts.Retired = false

abbrev pub is_field : FieldId → Part → Bool
is_field f (parts.Shared j) = false
is_field f (parts.Field h) = h.0 == f.0
is_field f (parts.Ghost g) = false
is_field f parts.Retired = false

abbrev pub is_ghost : ℕ → Part → Bool
is_ghost g (parts.Shared j) = false
is_ghost g (parts.Field f) = false
is_ghost g (parts.Ghost h) = h == g
is_ghost g parts.Retired = false

abbrev pub is_flag : Part → Bool
is_flag (parts.Shared j) = false
is_flag (parts.Field f) = false
is_flag (parts.Ghost g) = false
is_flag parts.Retired = true

-- a node is reached, a term or its mark is read, a literal is read by way of the part
abbrev pub reaches : Part → Base → Bool
reaches part (bases.Shared i) = is_pointer i part
reaches part (bases.Local k) = false
reaches part (bases.Bound i) = false

abbrev pub term_reads : Part → Term → Bool
term_reads part (terms.Shared i) = is_pointer i part
term_reads part (terms.Local k) = false
term_reads part (terms.Bound i) = false
term_reads part (terms.FieldOf b f) = reaches part b || is_field f part
term_reads part (terms.GhostOf b g) = reaches part b || is_ghost g part
term_reads part terms.Null = false
term_reads part (terms.Number n) = false
term_reads part (terms.Value g v) = false
term_reads part terms.Me = false
term_reads part terms.Nobody = false

abbrev pub literal_reads : Part → Literal → Bool
literal_reads part (literals.Same a b equal) = term_reads part a || term_reads part b
literal_reads part (literals.Retired b is_so) = reaches part b || is_flag part
literal_reads part (literals.Marked t is_so) = term_reads part t

-- one of these literals is
abbrev pub any_reads : List Literal → Part → Bool
any_reads ls part = list_any (literal_reads part) ls

-- ---- the clause of an obligation

-- there is a part, and it passes
abbrev pub passes : (Part → Bool) → Option Part → Bool
passes test None = false
passes test (Some part) = test part

-- the primitive writes what these literals read
abbrev pub touches : List Literal → Primitive → Bool
touches ls q = passes (any_reads ls) (written q)

-- no primitive does, and none makes a node, which a quantified name could stand for after the step alone
abbrev pub is_read_alike : List Primitive → Clause → Bool
is_read_alike ps c =
    not (list_any (touches c.literals) ps) && (length c.bound.names == 0 || not (list_any is_new ps))

abbrev pub any_read_alike : List Primitive → Option Clause → Bool
any_read_alike ps None = false
any_read_alike ps (Some c) = is_read_alike ps c

-- an invariant after a step that reads it alike, or such a clause of another thread meanwhile
abbrev pub is_untouched : Flow → Outline → Obligation → Bool
is_untouched flow outline (Start i) = false
is_untouched flow outline (Enter o c) = false
is_untouched flow outline (Own k c) =
    nat_lt c (length outline.invariants) && any_read_alike (step_prims flow k.0) (conclusion flow outline (Own k c))
is_untouched flow outline (Other k p c) = any_read_alike (step_prims flow k.0) (conclusion flow outline (Other k p c))
is_untouched flow outline (Claim k j) = false

-- the ground set of such an obligation has no model
abbrev pub UntouchedObligationsAreKept : Type 0
UntouchedObligationsAreKept = (flow : Flow) (outline : Outline) (o : Obligation) → Fits flow outline
    → Contains (obligations flow outline) o → is_untouched flow outline o ≡ true → IsKept flow outline o
