-- What a primitive does to what it names, whichever meaning memory has. The tables of the meanings stay tables with a
-- row for each primitive; laws beside them say that they agree with these words, so that a row which is missing here is
-- refused.
use Rattle.std.specs.Prelude.{Option, Some, None}
use Rattle.plc_base.specs.declared.ids.FuncId.{FuncId}
use Rattle.plc_lang.specs.declared.syntax.Var.{Var}
use Rattle.plc_lang.specs.declared.syntax.Var.TheVariants as vars
use Rattle.plc_lang.specs.declared.syntax.Arg.{Arg}
use Rattle.plc_lang.specs.declared.syntax.Arg.TheVariants as args
use Rattle.plc_lang.specs.declared.syntax.Primitive.{Primitive}
use Rattle.plc_lang.specs.declared.syntax.Primitive.TheVariants.{Null, Copy, New, Load, Store, StoreNull, DataLoad}
use Rattle.plc_lang.specs.declared.syntax.Primitive.TheVariants.{DataStore, Eq, Ne, Refresh, RefreshLoad, RefreshStore}
use Rattle.plc_lang.specs.declared.syntax.Primitive.TheVariants.{Mark, Unmark, Call}

-- the pointer that it goes through, to a field of the node
abbrev pub accessed : Primitive → Option Var
accessed (Load p q f) = Some q
accessed (Store p f q) = Some p
accessed (StoreNull p f) = Some p
accessed (DataLoad x q f) = Some q
accessed (DataStore p f e) = Some p
accessed (RefreshLoad p q f) = Some q
accessed (RefreshStore p f q) = Some p
accessed k = None

-- the two pointers that it compares
abbrev pub compared : Primitive → Option (Var × Var)
compared (Eq p q) = Some (p, q)
compared (Ne p q) = Some (p, q)
compared k = None

-- the function that it calls, and the argument
abbrev pub called : Primitive → Option (FuncId × Arg)
called (Call f a) = Some (f, a)
called k = None

-- the pointers by which a primitive of these facts may be a race: the one that it goes through, else the two that it
-- compares, else the one that it hands to a function
abbrev pub risked_by : Option Var → Option (Var × Var) → Option (FuncId × Arg) → Option Var × Option Var
risked_by (Some p) both call = (Some p, None)
risked_by None (Some (p, q)) call = (Some p, Some q)
risked_by None None (Some (f, args.None)) = (None, None)
risked_by None None (Some (f, args.Null)) = (None, None)
risked_by None None (Some (f, args.Var p)) = (Some p, None)
risked_by None None None = (None, None)

-- the pointers by which it may be a race
abbrev pub risked : Primitive → Option Var × Option Var
risked k = risked_by (accessed k) (compared k) (called k)

-- the pointer that it assigns; the last row is for what assigns none (of this word speaks what draws and shows runs
-- alone, so a row that is missing makes no answer of a command wrong)
abbrev pub assigned : Primitive → Option Var
assigned (Null p) = Some p
assigned (Copy p q) = Some p
assigned (New p) = Some p
assigned (Load p q f) = Some p
assigned (Refresh p q) = Some (vars.Local p)
assigned (RefreshLoad p q f) = Some (vars.Local p)
assigned (Mark p q) = Some p
assigned (Unmark p q) = Some p
assigned k = None
