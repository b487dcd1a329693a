-- A worked case: thread 0 allocates at the address 1 and retires it, it is freed, and thread 1 allocates there again. Thread 0 holds an invalid pointer of the same number, whose node is the first.
use Rattle.std.proofs.Common.{◌≡◌, true, false, [], ◌∷◌, Some, refl}
use Rattle.plc_base.specs.Functions.{retire}
use Rattle.plc_lang.specs.declared.syntax.Var.TheVariants.{Local}
use Rattle.plc_lang.specs.declared.syntax.Arg.TheVariants as args
use Rattle.plc_lang.specs.declared.syntax.Primitive.TheVariants.{New, Call}
use Rattle.plc_mem.specs.State.{State, Locals, null_cell, at_local, at, put, with_node, with_retired, with_locals, locals_of, freed, fresh_state}
use Rattle.plc_mem.specs.Primitives.{after}
use Rattle.plc_gc.specs.declared.slot.Slot.TheVariants.{Local as in_local}
use Rattle.plc_gc.specs.declared.slot.Map.TheVariants.{Retirement as retirement}
use Rattle.plc_gc.specs.State.{GcState, Locals as GcLocals, null_pointer, value, entry, count, put as gc_put, update}
use Rattle.plc_gc.specs.State.{made, with_locals as gc_with_locals, locals_of as gc_locals_of}
use Rattle.plc_gc.specs.State.{fresh_state as gc_fresh_state}
use Rattle.plc_gc.specs.Primitives.{after as gc_after}
use Rattle.plc_erasure.specs.Trace.{last_node}

one_local : Locals
one_local = record { pointers = null_cell ∷ []; values = [] }

one_gc_local : GcLocals
one_gc_local =
    record {
      declared = record { name = 0; pointer = true; param = false } ∷ [];
      pointers = null_pointer ∷ [];
      values = [];
    }

reused : State
unfolding one_local
reused =
    let busy = with_locals (with_locals (fresh_state (true ∷ []) 0 2) 0 (Some one_local)) 1 (Some one_local) in
    let handed_over = after (after busy 0 1 (New (Local 0))) 0 0 (Call retire (args.Var (Local 0))) in
    after (freed handed_over 1) 1 1 (New (Local 0))

never_reused : GcState
unfolding one_gc_local
never_reused =
    let busy = gc_with_locals (gc_with_locals (gc_fresh_state (record { name = 0; pointer = true } ∷ []) 0 0 2) 0 (Some one_gc_local)) 1 (Some one_gc_local) in
    let handed_over = gc_after (gc_after busy 0 (New (Local 0))) 0 (Call retire (args.Var (Local 0))) in
    gc_after handed_over 1 (New (Local 0))

stale : at reused (at_local 0 0) ≡ record { number = 1; mark = false; valid = false }
unfolding one_local reused at put with_node with_retired with_locals locals_of freed
stale = refl

fresh : at reused (at_local 1 0) ≡ record { number = 1; mark = false; valid = true }
unfolding one_local reused at put with_node with_retired with_locals locals_of freed
fresh = refl

stale_node : value never_reused (in_local 0 0) ≡ 1
unfolding one_gc_local never_reused value entry count gc_put update made gc_with_locals gc_locals_of
stale_node = refl

fresh_node : value never_reused (in_local 1 0) ≡ 2
unfolding one_gc_local never_reused value entry count gc_put update made gc_with_locals gc_locals_of
fresh_node = refl

first_is_retired : entry never_reused retirement 1 ≡ 1
unfolding one_gc_local never_reused value entry count gc_put update made gc_with_locals gc_locals_of
first_is_retired = refl

second_isnt : entry never_reused retirement 2 ≡ 0
unfolding one_gc_local never_reused value entry count gc_put update made gc_with_locals gc_locals_of
second_isnt = refl

last_is_second : last_node (1 ∷ 1 ∷ []) 1 ≡ 2
last_is_second = refl
