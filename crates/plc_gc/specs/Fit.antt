-- What the code keeps of a state, and what it asks of what is written there.
use Rattle.std.specs.Prelude.{◌≡◌, ℕ, ◌<◌, ◌+◌, ◌^◌, List, [], ◌∷◌, length, get_or, Some, None}
use Rattle.plc_lang.specs.declared.syntax.Primitive.{Primitive}
use Rattle.plc_lang.specs.declared.syntax.Primitive.TheVariants.{Ghost}
use Rattle.plc_lang.specs.Shape.{Shape, PrimitiveIn}
use Rattle.plc_gc.specs.declared.slot.Slot.{Slot}
use Rattle.plc_gc.specs.declared.slot.Slot.TheVariants.{Shared as in_shared, Local as in_local, Data as in_data}
use Rattle.plc_gc.specs.declared.slot.Slot.TheVariants.{SharedMark as shared_mark, LocalMark as local_mark}
use Rattle.plc_gc.specs.declared.slot.Map.{Map}
use Rattle.plc_gc.specs.declared.slot.Map.TheVariants.{Pointer as pointer_field, Mark as mark_field}
use Rattle.plc_gc.specs.declared.slot.Map.TheVariants.{Number as data_field, Auxiliary as auxiliary_field}
use Rattle.plc_gc.specs.declared.slot.Map.TheVariants.{Retirement as retirement}
use Rattle.plc_gc.specs.State.{GcState, Row, Locals, locals_of}
use Rattle.plc_gc.specs.Ranges.{IsInRange}

-- each row has so many fields, which are counted twice, and so many auxiliary fields
abbrev pub RowsFit : ℕ → ℕ → List Row → Type 0
RowsFit fields ghosts [] = Unit {0}
RowsFit fields ghosts (r ∷ rs) =
    (length r.pointers ≡ fields) × (length r.values ≡ fields) × (length r.auxiliary ≡ ghosts) × RowsFit fields ghosts rs

-- a row has an entry of this map
abbrev pub EntryIn : Row → Map → Type 0
EntryIn r (pointer_field f) = f < length r.pointers
EntryIn r (mark_field f) = f < length r.pointers
EntryIn r (data_field f) = f < length r.values
EntryIn r (auxiliary_field h) = h < length r.auxiliary
EntryIn r retirement = Unit {0}

-- there are such fields
abbrev pub MapIn : GcState → Map → Type 0
MapIn g (pointer_field f) = f < length g.fields
MapIn g (mark_field f) = f < length g.fields
MapIn g (data_field f) = f < length g.fields
MapIn g (auxiliary_field h) = h < g.ghosts
MapIn g retirement = Unit {0}

-- there is such a place
abbrev pub SlotIn : GcState → Slot → Type 0
SlotIn g (in_shared i) = i < length g.shared
SlotIn g (in_local t v) = v < length (locals_of g t).pointers
SlotIn g (shared_mark i) = i < length g.shared
SlotIn g (local_mark t v) = v < length (locals_of g t).pointers
SlotIn g (in_data t x) = x < length (locals_of g t).values

-- a thread has locals
abbrev pub IsHeld : GcState → ℕ → Type 0
IsHeld g t = (l : Locals) × (get_or g.locals t None ≡ Some l)

-- what a thread may name: variables and fields, and so many auxiliary fields
pub record Frame : Type 0 where
  pub shape : Shape
  pub ghosts : ℕ

-- that of thread t
abbrev pub frame : GcState → ℕ → Frame
frame g t = record {
  shape = record {
    shared = length g.shared;
    pointers = length (locals_of g t).pointers;
    values = length (locals_of g t).values;
    fields = length g.fields;
  };
  ghosts = g.ghosts;
}

-- a write of an auxiliary field is one of a field that is there
abbrev pub WriteIn : ℕ → Primitive → Type 0
WriteIn ghosts (Ghost p h v) = h < ghosts
WriteIn ghosts k = Unit {0}

-- all that a primitive names is there
abbrev pub FrameHas : Frame → Primitive → Type 0
FrameHas fr k = PrimitiveIn fr.shape k × WriteIn fr.ghosts k

-- all that several primitives name is there
abbrev pub FrameHasAll : Frame → List Primitive → Type 0
FrameHasAll fr [] = Unit {0}
FrameHasAll fr (k ∷ ks) = FrameHas fr k × FrameHasAll fr ks

-- a thread may take these primitives, and its number has one more below 2^32
pub record IsReady (g : GcState) (t : ℕ) (ps : List Primitive) : Type 0 where
  pub small : t + 1 < 2 ^ 32
  pub held : IsHeld g t
  pub there : FrameHasAll (frame g t) ps
  pub ranges : IsInRange g
