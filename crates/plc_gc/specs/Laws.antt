-- What each change of a garbage-collected state leaves at each place and at each node.
use Rattle.std.specs.Prelude.{◌≡◌, ℕ, suc, ◌<◌, ◌≤◌, true, not, List, Option, Some, get_or}
use Rattle.std.specs.Option.{unwrap_or}
use Rattle.plc_lang.specs.declared.syntax.Field.{Field}
use Rattle.plc_lang.specs.declared.syntax.Primitive.{Primitive}
use Rattle.plc_lang.specs.declared.syntax.Var.{Var}
use Rattle.plc_lang.specs.Facts.{accessed}
use Rattle.plc_lang.specs.WellSorted.{is_test}
use Rattle.plc_flow.specs.Sides.{opposite}
use Rattle.plc_gc.specs.declared.slot.Slot.{Slot}
use Rattle.plc_gc.specs.declared.slot.Slot.TheVariants.{Shared as in_shared, Local as in_local, Data as in_data}
use Rattle.plc_gc.specs.declared.slot.Slot.TheVariants.{SharedMark as shared_mark, LocalMark as local_mark}
use Rattle.plc_gc.specs.declared.slot.Map.{Map}
use Rattle.plc_gc.specs.declared.slot.Map.TheVariants.{Pointer as pointer_field, Mark as mark_field}
use Rattle.plc_gc.specs.State.{GcState, Locals, value, entry, count, put, update, made, with_locals, no_locals}
use Rattle.plc_gc.specs.State.{fresh_state, null_pointer, slot, mark_slot, put_pointer, update_pointer}
use Rattle.plc_gc.specs.Primitives.{some_node, goes, after}

-- every map has at every node what it had, and there are as many nodes
pub record SameNodes (g new : GcState) : Type 0 where
  pub entries : (m : Map) (k : ℕ) → entry new m k ≡ entry g m k
  pub count : count new ≡ count g

-- the value was put into this place
pub record Put (g : GcState) (p : Slot) (n : ℕ) (new : GcState) : Type 0 where
  pub here : value new p ≡ n
  pub elsewhere : (q : Slot) → (q ≡ p → ⊥) → value new q ≡ value g q
  pub nodes : SameNodes g new

-- the map was changed at this node
pub record Updated (g : GcState) (m : Map) (k n : ℕ) (new : GcState) : Type 0 where
  pub here : entry new m k ≡ n
  pub other_node : (l : Map) (j : ℕ) → (j ≡ k → ⊥) → entry new l j ≡ entry g l j
  pub other_map : (l : Map) (j : ℕ) → (l ≡ m → ⊥) → entry new l j ≡ entry g l j
  pub values : (q : Slot) → value new q ≡ value g q
  pub count : k < count g → count new ≡ count g

-- a node and a mark were put into this variable of thread t
pub record PointerPut (g : GcState) (t : ℕ) (v : Var) (n m : ℕ) (new : GcState) : Type 0 where
  pub node : value new (slot t v) ≡ n
  pub mark : value new (mark_slot t v) ≡ m
  pub elsewhere : (q : Slot) → (q ≡ slot t v → ⊥) → (q ≡ mark_slot t v → ⊥) → value new q ≡ value g q
  pub nodes : SameNodes g new

-- a node and a mark were put into this pointer field of a node
pub record PointerUpdated (g : GcState) (f k n m : ℕ) (new : GcState) : Type 0 where
  pub node : entry new (pointer_field f) k ≡ n
  pub mark : entry new (mark_field f) k ≡ m
  pub other_node : (l : Map) (j : ℕ) → (j ≡ k → ⊥) → entry new l j ≡ entry g l j
  pub other_map : (l : Map) (j : ℕ) → (l ≡ pointer_field f → ⊥) → (l ≡ mark_field f → ⊥) → entry new l j ≡ entry g l j
  pub values : (q : Slot) → value new q ≡ value g q
  pub count : k < count g → count new ≡ count g

-- there is one node more, which reads as it read before
pub record WasMade (g new : GcState) : Type 0 where
  pub entries : (m : Map) (k : ℕ) → entry new m k ≡ entry g m k
  pub values : (q : Slot) → value new q ≡ value g q
  pub count : count new ≡ suc (count g)

-- thread t has these locals now, or none; all else stays
pub record HasLocals (g : GcState) (t : ℕ) (l : Option Locals) (new : GcState) : Type 0 where
  pub pointers : (v : ℕ) → value new (in_local t v) ≡ (get_or (unwrap_or l no_locals).pointers v null_pointer).node
  pub marks : (v : ℕ) → value new (local_mark t v) ≡ (get_or (unwrap_or l no_locals).pointers v null_pointer).mark
  pub values : (x : ℕ) → value new (in_data t x) ≡ get_or (unwrap_or l no_locals).values x 0
  pub shared : (i : ℕ) → value new (in_shared i) ≡ value g (in_shared i)
  pub shared_marks : (i : ℕ) → value new (shared_mark i) ≡ value g (shared_mark i)
  pub others : (u v : ℕ) → (u ≡ t → ⊥) → value new (in_local u v) ≡ value g (in_local u v)
  pub other_marks : (u v : ℕ) → (u ≡ t → ⊥) → value new (local_mark u v) ≡ value g (local_mark u v)
  pub other_values : (u x : ℕ) → (u ≡ t → ⊥) → value new (in_data u x) ≡ value g (in_data u x)
  pub nodes : SameNodes g new

-- before anything happened every value is 0, and null is the only row
pub record IsFirst (g : GcState) : Type 0 where
  pub values : (q : Slot) → value g q ≡ 0
  pub entries : (m : Map) (k : ℕ) → entry g m k ≡ 0
  pub count : count g ≡ 1

-- what is put is read, and elsewhere nothing changes
pub record GcStateLaws : Type 0 where
  pub puts : (g : GcState) (p : Slot) (n : ℕ) → Put g p n (put g p n)
  pub updates : (g : GcState) (m : Map) (k n : ℕ) → Updated g m k n (update g m k n)
  pub puts_pointer : (g : GcState) (t : ℕ) (v : Var) (n m : ℕ) → PointerPut g t v n m (put_pointer g t v n m)
  pub updates_pointer : (g : GcState) (f k n m : ℕ) → PointerUpdated g f k n m (update_pointer g f k n m)
  pub makes : (g : GcState) → WasMade g (made g)
  pub gives : (g : GcState) (t : ℕ) (l : Option Locals) → HasLocals g t l (with_locals g t l)
  pub unmade : (g : GcState) (m : Map) (k : ℕ) → count g ≤ k → entry g m k ≡ 0
  pub first : (fields : List Field) (ghosts shared threads : ℕ) → IsFirst (fresh_state fields ghosts shared threads)

-- of a test and its opposite exactly one goes, and a test changes nothing
pub record TestHasAnOpposite (g : GcState) (t : ℕ) (k : Primitive) : Type 0 where
  pub goes : goes g t (opposite k) ≡ not (goes g t k)
  pub unchanged : after g t k ≡ g

-- so it is with each test, in every state and whichever thread meets it
abbrev pub CollectedTestsHaveOpposites : Type 0
CollectedTestsHaveOpposites = (g : GcState) (t : ℕ) (k : Primitive) → is_test k ≡ true → TestHasAnOpposite g t k

-- a primitive that goes through a pointer is blocked exactly where it is null
abbrev pub CollectedAccessesAgree : Type 0
CollectedAccessesAgree =
    (g : GcState) (t : ℕ) (k : Primitive) (q : Var) → accessed k ≡ Some q → goes g t k ≡ some_node g t q
