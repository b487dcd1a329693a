-- What primitives keep: how many variables and fields there are, and the other threads' locals.
use Rattle.std.proofs.Common.{◌≡◌, ℕ, ◌<◌, Bool, true, false, List, [], ◌∷◌, Some, None, length, get_or, refl, sym, ap, ◌∙◌, subst}
use Rattle.std.specs.Option.{unwrap_or}
use Rattle.plc_base.specs.Functions.{is_retire}
use Rattle.plc_base.specs.Tables.{put_at}
use Rattle.plc_base.proofs.Tables.{get-put_same, get-put_other, length_put}
use Rattle.plc_lang.specs.declared.syntax.Var.{Var}
use Rattle.plc_lang.specs.declared.syntax.Var.TheVariants as vars
use Rattle.plc_lang.specs.declared.syntax.Arg.{Arg}
use Rattle.plc_lang.specs.declared.syntax.Arg.TheVariants as args
use Rattle.plc_lang.specs.declared.syntax.Primitive.{Primitive}
use Rattle.plc_lang.specs.declared.syntax.Primitive.TheVariants.{Null, Copy, New, Load, Store, StoreNull, DataSet}
use Rattle.plc_lang.specs.declared.syntax.Primitive.TheVariants.{DataLoad, DataStore, Eq, Ne, IsNull, NotNull, DataTest}
use Rattle.plc_lang.specs.declared.syntax.Primitive.TheVariants.{Refresh, RefreshLoad, RefreshStore, Mark, Unmark}
use Rattle.plc_lang.specs.declared.syntax.Primitive.TheVariants.{MarkTest, Call, Done, Active, Ghost}
use Rattle.plc_lang.specs.Shape.{VarIn, PrimitiveIn}
use Rattle.plc_gc.specs.declared.slot.Slot.{Slot}
use Rattle.plc_gc.specs.declared.slot.Slot.TheVariants.{Shared as in_shared, Local as in_local}
use Rattle.plc_gc.specs.declared.slot.Slot.TheVariants.{SharedMark as shared_mark, LocalMark as local_mark}
use Rattle.plc_gc.specs.declared.slot.Slot.TheVariants.{Data as in_data}
use Rattle.plc_gc.specs.declared.slot.Map.{Map}
use Rattle.plc_gc.specs.declared.slot.Pointer.{Pointer}
use Rattle.plc_gc.specs.State.{GcState, Locals, null_pointer, with_node, with_mark, mark_put, no_locals}
use Rattle.plc_gc.specs.State.{locals_of, with_locals, put, put_pointer, update, update_pointer, made, slot, mark_slot}
use Rattle.plc_gc.proofs.Views.{locals-with_same}
use Rattle.plc_gc.specs.Primitives.{after_call, goes, after}
use Rattle.plc_gc.specs.Run.{turn, execute}
use Rattle.plc_gc.specs.Fit.{Frame, frame, FrameHasAll, SlotIn}
use Rattle.plc_moves.proofs.Places.{held_below}

-- thread t held locals l before and holds m now; all else has its old frame
pub record KeepsFrame (t : ℕ) (g : GcState) (l : Locals) (new : GcState) (m : Locals) : Type 0 where
  pub fields : new.fields ≡ g.fields
  pub ghosts : new.ghosts ≡ g.ghosts
  pub shared : length new.shared ≡ length g.shared
  pub threads : length new.locals ≡ length g.locals
  pub others : (u : ℕ) → (u ≡ t → ⊥) → get_or new.locals u None ≡ get_or g.locals u None
  pub held : get_or new.locals t None ≡ Some m
  pub declared : m.declared ≡ l.declared
  pub pointers : length m.pointers ≡ length l.pointers
  pub values : length m.values ≡ length l.values

abbrev pub Keeps : ℕ → GcState → Locals → GcState → Type 0
Keeps t g l new = (m : Locals) × KeepsFrame t g l new m

pub held_is : (g : GcState) (t : ℕ) (l : Locals) → get_or g.locals t None ≡ Some l → locals_of g t ≡ l
unfolding locals_of
held_is g t l held = ap (λ o. unwrap_or o no_locals) held

-- the frame of a thread that holds these locals
abbrev pub frame_by : GcState → Locals → Frame
frame_by g l = record {
  shape = record { shared = length g.shared; pointers = length l.pointers; values = length l.values; fields = length g.fields };
  ghosts = g.ghosts;
}

pub frame_held : (g : GcState) (t : ℕ) (l : Locals) → get_or g.locals t None ≡ Some l → frame g t ≡ frame_by g l
frame_held g t l held = ap (frame_by g) (held_is g t l held)

pub same_frame : {t : ℕ} {g new : GcState} {l m : Locals} → KeepsFrame t g l new m → frame_by new m ≡ frame_by g l
same_frame k = (let a = k.shared in let b = k.pointers in let c = k.values in let d = ap length k.fields in let e = k.ghosts in cc)

-- what changes no local, no field and no number of shared pointers
same_locals : (t : ℕ) (g new : GcState) (l : Locals) → get_or g.locals t None ≡ Some l → new.fields ≡ g.fields
    → new.ghosts ≡ g.ghosts → length new.shared ≡ length g.shared → new.locals ≡ g.locals → Keeps t g l new
same_locals t g new l held fields ghosts shared locals = (
  l,
  record {
    fields = fields;
    ghosts = ghosts;
    shared = shared;
    threads = ap length locals;
    others = λ u ne. ap (λ ls. get_or ls u None) locals;
    held = ap (λ ls. get_or ls t None) locals ∙ held;
    declared = refl;
    pointers = refl;
    values = refl;
  },
)

itself : (t : ℕ) (g : GcState) (l : Locals) → get_or g.locals t None ≡ Some l → Keeps t g l g
itself t g l held = same_locals t g g l held refl refl refl refl

pub frame_kept : {t : ℕ} {g : GcState} {l : Locals} {new : GcState} → get_or g.locals t None ≡ Some l → Keeps t g l new
    → frame new t ≡ frame g t
frame_kept {t = t} {g = g} {l = l} {new = new} held k =
    frame_held new t k.0 k.1.held ∙ same_frame k.1 ∙ sym (frame_held g t l held)

keeps_then : {t : ℕ} {g new last : GcState} {l m n : Locals} → KeepsFrame t g l new m → KeepsFrame t new m last n
    → KeepsFrame t g l last n
keeps_then k j = record {
  fields = j.fields ∙ k.fields;
  ghosts = j.ghosts ∙ k.ghosts;
  shared = j.shared ∙ k.shared;
  threads = j.threads ∙ k.threads;
  others = λ u ne. j.others u ne ∙ k.others u ne;
  held = j.held;
  declared = j.declared ∙ k.declared;
  pointers = j.pointers ∙ k.pointers;
  values = j.values ∙ k.values;
}

-- locals put in the place of those that were held
given : (t : ℕ) (g : GcState) (l m : Locals) → get_or g.locals t None ≡ Some l → m.declared ≡ l.declared → length m.pointers ≡ length l.pointers → length m.values ≡ length l.values → KeepsFrame t g l (with_locals g t (Some m)) m
unfolding with_locals
given t g l m held d p v = record {
  fields = refl;
  ghosts = refl;
  shared = refl;
  threads = length_put None g.locals t (Some m) (held_below g.locals t l held);
  others = λ u ne. get-put_other None g.locals t (Some m) u ne;
  held = get-put_same None g.locals t (Some m);
  declared = d;
  pointers = p;
  values = v;
}

-- a place that thread t may write
abbrev IsOwn : ℕ → Slot → Type 0
IsOwn t (in_shared i) = Unit {0}
IsOwn t (in_local u v) = u ≡ t
IsOwn t (shared_mark i) = Unit {0}
IsOwn t (local_mark u v) = u ≡ t
IsOwn t (in_data u x) = u ≡ t

-- the locals with a pointer changed
abbrev changed : Locals → ℕ → (Pointer → Pointer) → Locals
changed l v f = record l { pointers = put_at null_pointer l.pointers v (f (get_or l.pointers v null_pointer)) }

-- a pointer local that is changed
pointer_keeps : (t : ℕ) (g : GcState) (l : Locals) (u v : ℕ) (f : Pointer → Pointer) → get_or g.locals t None ≡ Some l
    → u ≡ t → v < length (locals_of g u).pointers
    → Keeps t g l (with_locals g u (Some (changed (locals_of g u) v f)))
pointer_keeps t g l u v f held own =
    let e = held_is g t l held in
    let ps = (locals_of g t).pointers in
    subst (λ u. v < length (locals_of g u).pointers
    → Keeps t g l (with_locals g u (Some (changed (locals_of g u) v f)))) (sym own)
    (λ small. (
      _,
      given t g l (changed (locals_of g t) v f) held (ap (λ (m : Locals). m.declared) e)
          (length_put null_pointer ps v (f (get_or ps v null_pointer)) small ∙ ap (λ (m : Locals). length m.pointers) e)
          (ap (λ (m : Locals). length m.values) e),
    ))

-- a value that is put where thread t may put it
slot_keeps : (t : ℕ) (g : GcState) (l : Locals) (p : Slot) (n : ℕ) → get_or g.locals t None ≡ Some l → SlotIn g p
    → IsOwn t p → Keeps t g l (put g p n)
unfolding put
slot_keeps t g l (in_shared i) n held h own =
    same_locals t g _ l held refl refl
    (length_put null_pointer g.shared i (with_node (get_or g.shared i null_pointer) n) h) refl
slot_keeps t g l (shared_mark i) n held h own =
    same_locals t g _ l held refl refl
    (length_put null_pointer g.shared i (with_mark (get_or g.shared i null_pointer) n) h) refl
slot_keeps t g l (in_local u v) n held h own = pointer_keeps t g l u v (λ p. with_node p n) held own h
slot_keeps t g l (local_mark u v) n held h own = pointer_keeps t g l u v (λ p. with_mark p n) held own h
slot_keeps t g l (in_data u x) n held h own =
    let e = held_is g t l held in
    subst (λ u. x < length (locals_of g u).values → Keeps t g l (with_locals g u (Some (record (locals_of g u) { values = put_at 0 (locals_of g u).values x n })))) (sym own)
    (λ small. (_, given t g l (record (locals_of g t) { values = put_at 0 (locals_of g t).values x n }) held (rw e refl) (rw e refl) (length_put 0 (locals_of g t).values x n small ∙ ap (λ (m : Locals). length m.values) e))) h

node_keeps : (t : ℕ) (g : GcState) (l : Locals) (p : Var) (n : ℕ) → get_or g.locals t None ≡ Some l
    → VarIn (frame g t).shape p → Keeps t g l (put g (slot t p) n)
node_keeps t g l (vars.Shared i) n held h = slot_keeps t g l (in_shared i) n held h tt
node_keeps t g l (vars.Local v) n held h = slot_keeps t g l (in_local t v) n held h refl

mark_keeps : (t : ℕ) (g : GcState) (l : Locals) (p : Var) (n : ℕ) → get_or g.locals t None ≡ Some l
    → VarIn (frame g t).shape p → Keeps t g l (put g (mark_slot t p) n)
mark_keeps t g l (vars.Shared i) n held h = slot_keeps t g l (shared_mark i) n held h tt
mark_keeps t g l (vars.Local v) n held h = slot_keeps t g l (local_mark t v) n held h refl

var_keeps : (t : ℕ) (g : GcState) (l : Locals) (p : Var) (n m : ℕ) → get_or g.locals t None ≡ Some l
    → VarIn (frame g t).shape p → Keeps t g l (put_pointer g t p n m)
var_keeps t g l p n m held h =
    let one = mark_keeps t g l p m held h in
    let two = node_keeps t (put g (mark_slot t p) m) one.0 p n one.1.held
    (subst (λ (f : Frame). VarIn f.shape p) (sym (frame_kept held one)) h) in
    (two.0, keeps_then one.1 two.1)

-- a mark that is put leaves the place of the node
pub slot_stays : (g : GcState) (t : ℕ) (p : Var) (m : ℕ) → VarIn (frame g t).shape p
    → SlotIn (put g (mark_slot t p) m) (slot t p)
unfolding put
slot_stays g t (vars.Shared i) m h =
    subst (λ n. i < n) (sym (length_put null_pointer g.shared i (with_mark (get_or g.shared i null_pointer) m) h)) h
slot_stays g t (vars.Local v) m h =
    subst (λ (l : Locals). v < length l.pointers)
    (sym (locals-with_same g t
    (Some (record (locals_of g t) { pointers = mark_put (locals_of g t).pointers v m }))))
    (subst (λ n. v < n) (sym (length_put null_pointer (locals_of g t).pointers v
    (with_mark (get_or (locals_of g t).pointers v null_pointer) m) h)) h)

data_keeps : (t : ℕ) (g : GcState) (l : Locals) (x n : ℕ) → get_or g.locals t None ≡ Some l → x < (frame g t).shape.values → Keeps t g l (put g (in_data t x) n)
data_keeps t g l x n held h = slot_keeps t g l (in_data t x) n held h refl

update_keeps : (t : ℕ) (g : GcState) (l : Locals) (m : Map) (k n : ℕ) → get_or g.locals t None ≡ Some l → Keeps t g l (update g m k n)
unfolding update
update_keeps t g l m k n held = same_locals t g _ l held refl refl refl refl

field_keeps : (t : ℕ) (g : GcState) (l : Locals) (f k n m : ℕ) → get_or g.locals t None ≡ Some l
    → Keeps t g l (update_pointer g f k n m)
unfolding update
field_keeps t g l f k n m held = same_locals t g _ l held refl refl refl refl

made_keeps : (t : ℕ) (g : GcState) (l : Locals) → get_or g.locals t None ≡ Some l → Keeps t g l (made g)
unfolding made
made_keeps t g l held = same_locals t g _ l held refl refl refl refl

new_keeps : (t : ℕ) (g : GcState) (l : Locals) (p : Var) (n m : ℕ) → get_or g.locals t None ≡ Some l
    → VarIn (frame g t).shape p → Keeps t g l (put_pointer (made g) t p n m)
new_keeps t g l p n m held h =
    let one = made_keeps t g l held in
    let two = var_keeps t (made g) one.0 p n m one.1.held
    (subst (λ (f : Frame). VarIn f.shape p) (sym (frame_kept held one)) h) in
    (two.0, keeps_then one.1 two.1)

call_keeps : (t : ℕ) (g : GcState) (l : Locals) (b : Bool) (r : Arg) → get_or g.locals t None ≡ Some l → Keeps t g l (after_call g t b r)
call_keeps t g l true (args.Var p) held = update_keeps t g l _ _ _ held
call_keeps t g l true args.Null held = itself t g l held
call_keeps t g l true args.None held = itself t g l held
call_keeps t g l false r held = itself t g l held

pub after_keeps : (t : ℕ) (g : GcState) (l : Locals) (k : Primitive) → get_or g.locals t None ≡ Some l → PrimitiveIn (frame g t).shape k → Keeps t g l (after g t k)
after_keeps t g l (Null p) held h = var_keeps t g l p _ _ held h
after_keeps t g l (Copy p q) held h = var_keeps t g l p _ _ held h.0
after_keeps t g l (New p) held h = new_keeps t g l p _ _ held h
after_keeps t g l (Load p q f) held h = var_keeps t g l p _ _ held h.0
after_keeps t g l (Store p f q) held h = field_keeps t g l _ _ _ _ held
after_keeps t g l (StoreNull p f) held h = field_keeps t g l _ _ _ _ held
after_keeps t g l (DataSet x e) held h = data_keeps t g l x _ held h.0
after_keeps t g l (DataLoad x q f) held h = data_keeps t g l x _ held h.0
after_keeps t g l (DataStore p f e) held h = update_keeps t g l _ _ _ held
after_keeps t g l (Eq p q) held h = itself t g l held
after_keeps t g l (Ne p q) held h = itself t g l held
after_keeps t g l (IsNull p) held h = itself t g l held
after_keeps t g l (NotNull p) held h = itself t g l held
after_keeps t g l (DataTest r x e) held h = itself t g l held
after_keeps t g l (Refresh p q) held h = var_keeps t g l (vars.Local p) _ _ held h.0
after_keeps t g l (RefreshLoad p q f) held h = var_keeps t g l (vars.Local p) _ _ held h.0
after_keeps t g l (RefreshStore p f q) held h = field_keeps t g l _ _ _ _ held
after_keeps t g l (Mark p q) held h = var_keeps t g l p _ _ held h.0
after_keeps t g l (Unmark p q) held h = var_keeps t g l p _ _ held h.0
after_keeps t g l (MarkTest p m) held h = itself t g l held
after_keeps t g l (Call f r) held h = call_keeps t g l (is_retire f) r held
after_keeps t g l (Done f) held h = itself t g l held
after_keeps t g l (Active p) held h = itself t g l held
after_keeps t g l (Ghost p x v) held h = update_keeps t g l _ _ _ held

-- ---- primitives in order

pub execute_keeps : (t : ℕ) (g new : GcState) (l : Locals) (ps : List Primitive) → get_or g.locals t None ≡ Some l → FrameHasAll (frame g t) ps → execute g t ps ≡ Some new → Keeps t g l new
execute_keeps t g new l [] held fit e = let same : g ≡ new = cc in subst (Keeps t g l) same (itself t g l held)
execute_keeps t g new l (p ∷ ps) held fit e =
    let one = after_keeps t g l p held fit.0.0 in
    go (goes g t p) e (λ rest. (
    let later = execute_keeps t (after g t p) new one.0 ps one.1.held (subst (λ f. FrameHasAll f ps) (sym (frame_kept held one)) fit.1) rest in
    (later.0, keeps_then one.1 later.1)
    ))
  where
    go : (b : Bool) → turn b (execute (after g t p) t ps) ≡ Some new → (execute (after g t p) t ps ≡ Some new → Keeps t g l new) → Keeps t g l new
    go true e next = next e
    go false e next = cc
