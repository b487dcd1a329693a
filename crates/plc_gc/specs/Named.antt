-- What the code reads of a local by its number among all that are declared: in one word what it holds and its mark.
use Rattle.std.specs.Prelude.{ℕ, if◌then◌else◌, get_or, slice_get, Option, Some, None}
use Rattle.plc_lang.specs.declared.syntax.Local.{Local}
use Rattle.plc_lang.specs.Numbering.{pointer_number, data_number}
use Rattle.plc_gc.specs.declared.slot.Pointer.{Pointer}
use Rattle.plc_gc.specs.State.{GcState, Locals, null_pointer, locals_of}

-- a number that has no mark
abbrev pub unmarked : ℕ → Pointer
unmarked n = record { node = n; mark = 0 }

-- by its declaration a pointer local has its pointer and a data local its number
abbrev pub declared_local : Locals → ℕ → Option Local → Pointer
declared_local l i None = null_pointer
declared_local l i (Some d) =
    if d.pointer then get_or l.pointers (pointer_number l.declared i) null_pointer
    else unmarked (get_or l.values (data_number l.declared i) 0)

-- the local of the thread for which a clause is asked, null where there is no thread
abbrev pub named_local : GcState → Option ℕ → ℕ → Pointer
named_local g None i = null_pointer
named_local g (Some t) i = declared_local (locals_of g t) i (slice_get (locals_of g t).declared i)
