-- Still obligations: what they say of another thread, or of all, holds before, and their step changes nothing of it.
use Rattle.std.specs.Prelude.{◌≡◌, ℕ, Bool, true, false, not, ◌&&◌, nat_lt, length, Contains}
use Rattle.std.specs.List.{list_any}
use Rattle.plc_base.specs.Functions.{is_retire}
use Rattle.plc_lang.specs.declared.syntax.Var.{Var}
use Rattle.plc_lang.specs.declared.syntax.Var.TheVariants as vars
use Rattle.plc_lang.specs.declared.syntax.Primitive.{Primitive}
use Rattle.plc_lang.specs.declared.syntax.Primitive.TheVariants.{Null, Copy, New, Load, Store, StoreNull, DataSet}
use Rattle.plc_lang.specs.declared.syntax.Primitive.TheVariants.{DataLoad, DataStore, Eq, Ne, IsNull, NotNull, DataTest}
use Rattle.plc_lang.specs.declared.syntax.Primitive.TheVariants.{Refresh, RefreshLoad, RefreshStore, Call, Done, Active}
use Rattle.plc_lang.specs.declared.syntax.Primitive.TheVariants.{Ghost, Mark, Unmark, MarkTest}
use Rattle.plc_flow.specs.declared.flow.Flow.{Flow}
use Rattle.plc_logic.specs.declared.clause.Outline.{Outline}
use Rattle.plc_vocabulary.specs.declared.obligations.Obligation.{Obligation}
use Rattle.plc_vocabulary.specs.declared.obligations.Obligation.TheVariants.{Start, Enter, Own, Other, Claim}
use Rattle.plc_vocabulary.specs.Fit.{Fits}
use Rattle.plc_vocabulary.specs.Parts.{step_prims}
use Rattle.plc_oblig.specs.Obligations.{obligations}
use Rattle.plc_oblig.specs.Outlines.{IsKept}

-- a pointer variable that all threads share
abbrev pub is_shared : Var → Bool
is_shared (vars.Shared i) = true
is_shared (vars.Local k) = false

-- the primitive makes a node, writes a field or an auxiliary field, retires, or gives a shared pointer a value or mark
abbrev pub changes : Primitive → Bool
changes (Null p) = is_shared p
changes (Copy p q) = is_shared p
changes (New p) = true
changes (Load p q f) = is_shared p
changes (Store p f q) = true
changes (StoreNull p f) = true
changes (DataSet x e) = false
changes (DataLoad x q f) = false
changes (DataStore p f e) = true
changes (Eq p q) = false
changes (Ne p q) = false
changes (IsNull p) = false
changes (NotNull p) = false
changes (DataTest r x e) = false
changes (Refresh p q) = false
changes (RefreshLoad p q f) = false
changes (RefreshStore p f q) = true
changes (Mark p q) = is_shared p
changes (Unmark p q) = is_shared p
changes (MarkTest p m) = false
changes (Call f a) = is_retire f
changes (Done f) = false
changes (Active p) = false
changes (Ghost p g e) = true

-- no primitive of the step does
abbrev pub is_quiet : Flow → ℕ → Bool
is_quiet flow k = not (list_any changes (step_prims flow k))

-- an invariant after such a step, or a clause of another thread meanwhile
abbrev pub is_still : Flow → Outline → Obligation → Bool
is_still flow outline (Start i) = false
is_still flow outline (Enter o c) = false
is_still flow outline (Own k c) = nat_lt c (length outline.invariants) && is_quiet flow k.0
is_still flow outline (Other k p c) = is_quiet flow k.0
is_still flow outline (Claim k j) = false

-- the ground set of a still obligation has no model
abbrev pub StillObligationsAreKept : Type 0
StillObligationsAreKept = (flow : Flow) (outline : Outline) (o : Obligation) → Fits flow outline
    → Contains (obligations flow outline) o → is_still flow outline o ≡ true → IsKept flow outline o
