-- No primitive changes how many variables there are, or another thread's locals.
use Rattle.std.proofs.Common.{◌≡◌, ℕ, ◌+◌, ◌<◌, Bool, true, false, List, [], ◌∷◌, Option, Some, None, length, get_or, refl, sym, ap, ◌∙◌, subst}
use Rattle.std.specs.Option.{unwrap_or}
use Rattle.plc_lang.specs.declared.syntax.Var.{Var}
use Rattle.plc_lang.specs.declared.syntax.Var.TheVariants as vars
use Rattle.plc_lang.specs.declared.syntax.Arg.{Arg}
use Rattle.plc_lang.specs.declared.syntax.Arg.TheVariants as args
use Rattle.plc_lang.specs.declared.syntax.Primitive.{Primitive}
use Rattle.plc_lang.specs.declared.syntax.Primitive.TheVariants.{Null, Copy, New, Load, Store, StoreNull, DataSet, DataLoad, DataStore, Eq, Ne, IsNull, NotNull, DataTest, Refresh, RefreshLoad, RefreshStore, Call, Done, Active, Ghost}
use Rattle.plc_lang.specs.declared.syntax.Primitive.TheVariants.{Mark, Unmark, MarkTest}
use Rattle.plc_lang.specs.Shape.{VarIn, PrimitiveIn, PrimitivesIn}
use Rattle.plc_auto.specs.declared.event.Event.{Event}
use Rattle.plc_base.specs.Functions.{is_retire}
use Rattle.plc_mem.specs.declared.cell.Cell.{Cell}
use Rattle.plc_mem.specs.declared.cell.RaceKind.{RaceKind}
use Rattle.plc_mem.specs.State.{State, Locals, null_cell, locals_of, with_locals, at_field, put, put_value, put_field_value, place, with_node, with_retired, no_locals}
use Rattle.plc_base.specs.Tables.{put_at}
use Rattle.plc_mem.specs.Primitives.{after_call, race_of, goes, after, event_of}
use Rattle.plc_mem.specs.Fit.{shape}
use Rattle.plc_base.proofs.Tables.{get-put_same, length_put}
use Rattle.plc_moves.proofs.Places.{held_below}
use Rattle.plc_moves.proofs.Fit.{IsNewAt, put_is_new}
use Rattle.plc_run.specs.Run.{Ending, Fine, Stuck, Raced, turn, recorded, execute}

-- thread t holds locals l before and m after; all else has its old shape
pub record KeepsShape (t : ℕ) (s : State) (l : Locals) (new : State) (m : Locals) : Type 0 where
  pub fields : new.fields ≡ s.fields
  pub shared : length new.shared ≡ length s.shared
  pub table : IsNewAt t s.locals new.locals
  pub held : get_or new.locals t None ≡ Some m
  pub pointers : length m.pointers ≡ length l.pointers
  pub values : length m.values ≡ length l.values

abbrev pub Keeps : ℕ → State → Locals → State → Type 0
Keeps t s l new = (m : Locals) × KeepsShape t s l new m

pub same_shape : {t : ℕ} {s new : State} {l m : Locals} → KeepsShape t s l new m → shape new m ≡ shape s l
same_shape k = (let a = k.shared in let b = k.pointers in let c = k.values in let d = ap length k.fields in cc)

itself : (t : ℕ) (s : State) (l : Locals) → get_or s.locals t None ≡ Some l → KeepsShape t s l s l
itself t s l held = record { fields = refl; shared = refl; table = record { many = refl; others = λ u ne. refl }; held = held; pointers = refl; values = refl }

-- locals put in the place of those that were held
given : (t : ℕ) (s : State) (l m : Locals) → get_or s.locals t None ≡ Some l → length m.pointers ≡ length l.pointers → length m.values ≡ length l.values → KeepsShape t s l (with_locals s t (Some m)) m
unfolding with_locals
given t s l m held p v = record {
  fields = refl;
  shared = refl;
  table = put_is_new t s.locals (Some m) (held_below s.locals t l held);
  held = get-put_same None s.locals t (Some m);
  pointers = p;
  values = v;
}

held_is : (s : State) (t : ℕ) (l : Locals) → get_or s.locals t None ≡ Some l → locals_of s t ≡ l
unfolding locals_of
held_is s t l held = ap (λ o. unwrap_or o no_locals) held

var_keeps : (t : ℕ) (s : State) (l : Locals) (v : Var) (c : Cell) → get_or s.locals t None ≡ Some l → VarIn (shape s l) v → Keeps t s l (put s (place t v) c)
unfolding put
var_keeps t s l (vars.Shared i) c held h = (l, record { fields = refl; shared = length_put null_cell s.shared i c h; table = record { many = refl; others = λ u ne. refl }; held = held; pointers = refl; values = refl })
var_keeps t s l (vars.Local v) c held h =
    let e = held_is s t l held in
    (_, given t s l (record (locals_of s t) { pointers = put_at null_cell (locals_of s t).pointers v c }) held (rw e (length_put null_cell l.pointers v c h)) (rw e refl))

field_keeps : (t : ℕ) (s : State) (l : Locals) (a f : ℕ) (c : Cell) → get_or s.locals t None ≡ Some l → Keeps t s l (put s (at_field a f) c)
unfolding put
field_keeps t s l a f c held = (l, record { fields = refl; shared = refl; table = record { many = refl; others = λ u ne. refl }; held = held; pointers = refl; values = refl })

value_keeps : (t : ℕ) (s : State) (l : Locals) (x n : ℕ) → get_or s.locals t None ≡ Some l → x < length l.values → Keeps t s l (put_value s t x n)
unfolding put_value
value_keeps t s l x n held h =
    let e = held_is s t l held in
    (_, given t s l (record (locals_of s t) { values = put_at 0 (locals_of s t).values x n }) held (rw e refl) (rw e (length_put 0 l.values x n h)))

field_value_keeps : (t : ℕ) (s : State) (l : Locals) (a f n : ℕ) → get_or s.locals t None ≡ Some l → Keeps t s l (put_field_value s a f n)
unfolding put_field_value
field_value_keeps t s l a f n held = (l, record { fields = refl; shared = refl; table = record { many = refl; others = λ u ne. refl }; held = held; pointers = refl; values = refl })

new_keeps : (t : ℕ) (s : State) (l : Locals) (a : ℕ) (v : Var) (c : Cell) → get_or s.locals t None ≡ Some l → VarIn (shape s l) v → Keeps t s l (put (with_node s a) (place t v) c)
unfolding with_node
new_keeps t s l a v c held h = let k = var_keeps t (with_node s a) l v c held h in (k.0, record { fields = k.1.fields; shared = k.1.shared; table = k.1.table; held = k.1.held; pointers = k.1.pointers; values = k.1.values })

call_keeps : (t : ℕ) (s : State) (l : Locals) (b : Bool) (r : Arg) → get_or s.locals t None ≡ Some l → Keeps t s l (after_call s t b r)
unfolding with_retired
call_keeps t s l true (args.Var p) held = (l, record { fields = refl; shared = refl; table = record { many = refl; others = λ u ne. refl }; held = held; pointers = refl; values = refl })
call_keeps t s l true args.Null held = (l, itself t s l held)
call_keeps t s l true args.None held = (l, itself t s l held)
call_keeps t s l false r held = (l, itself t s l held)

after_keeps : (t : ℕ) (s : State) (l : Locals) (a : ℕ) (k : Primitive) → get_or s.locals t None ≡ Some l → PrimitiveIn (shape s l) k → Keeps t s l (after s t a k)
after_keeps t s l a (Null p) held h = var_keeps t s l p null_cell held h
after_keeps t s l a (Copy p q) held h = var_keeps t s l p _ held h.0
after_keeps t s l a (New p) held h = new_keeps t s l a p _ held h
after_keeps t s l a (Load p q f) held h = var_keeps t s l p _ held h.0
after_keeps t s l a (Store p f q) held h = field_keeps t s l _ _ _ held
after_keeps t s l a (StoreNull p f) held h = field_keeps t s l _ _ _ held
after_keeps t s l a (DataSet x e) held h = value_keeps t s l x _ held h.0
after_keeps t s l a (DataLoad x q f) held h = value_keeps t s l x _ held h.0
after_keeps t s l a (DataStore p f e) held h = field_value_keeps t s l _ _ _ held
after_keeps t s l a (Eq p q) held h = (l, itself t s l held)
after_keeps t s l a (Ne p q) held h = (l, itself t s l held)
after_keeps t s l a (IsNull p) held h = (l, itself t s l held)
after_keeps t s l a (NotNull p) held h = (l, itself t s l held)
after_keeps t s l a (DataTest r x e) held h = (l, itself t s l held)
after_keeps t s l a (Refresh p q) held h = var_keeps t s l (vars.Local p) _ held h.0
after_keeps t s l a (RefreshLoad p q f) held h = var_keeps t s l (vars.Local p) _ held h.0
after_keeps t s l a (RefreshStore p f q) held h = field_keeps t s l _ _ _ held
after_keeps t s l a (Mark p q) held h = var_keeps t s l p _ held h.0
after_keeps t s l a (Unmark p q) held h = var_keeps t s l p _ held h.0
after_keeps t s l a (MarkTest p m) held h = (l, itself t s l held)
after_keeps t s l a (Call f r) held h = call_keeps t s l (is_retire f) r held
after_keeps t s l a (Done f) held h = (l, itself t s l held)
after_keeps t s l a (Active p) held h = (l, itself t s l held)
after_keeps t s l a (Ghost p g v) held h = (l, itself t s l held)

-- ---- a step

keeps_then : {t : ℕ} {s new last : State} {l m n : Locals} → KeepsShape t s l new m → KeepsShape t new m last n → KeepsShape t s l last n
keeps_then k j = record {
  fields = j.fields ∙ k.fields;
  shared = j.shared ∙ k.shared;
  table = record { many = j.table.many ∙ k.table.many; others = λ u ne. j.table.others u ne ∙ k.table.others u ne };
  held = j.held;
  pointers = j.pointers ∙ k.pointers;
  values = j.values ∙ k.values;
}

-- where all its primitives succeeded, the shape is the old one
abbrev pub EndsKept : ℕ → State → Locals → Ending → Type 0
EndsKept t s l (Fine new h) = Keeps t s l new
EndsKept t s l Stuck = Unit {0}
EndsKept t s l (Raced kind k) = Unit {0}

later_kept : {t : ℕ} {s new : State} {l m : Locals} (end : Ending) → KeepsShape t s l new m → EndsKept t new m end → EndsKept t s l end
later_kept (Fine last h) k j = (j.0, keeps_then k j.1)
later_kept Stuck k j = tt
later_kept (Raced kind n) k j = tt

pub execute_keeps : (t : ℕ) (s : State) (l : Locals) (h : List Event) (a k : ℕ) (ps : List Primitive) → get_or s.locals t None ≡ Some l → PrimitivesIn (shape s l) ps → EndsKept t s l (execute s h t a k ps)
execute_keeps t s l h a k [] held fit = (l, itself t s l held)
execute_keeps t s l h a k (p ∷ ps) held fit =
    let one = after_keeps t s l a p held fit.0 in
    let rest = execute (after s t a p) (recorded h (event_of s t p)) t a (k + 1) ps in
    let later = execute_keeps t (after s t a p) one.0 (recorded h (event_of s t p)) a (k + 1) ps one.1.held (subst (λ x. PrimitivesIn x ps) (sym (same_shape one.1)) fit.1) in
    go (race_of s t p) (goes s t a p) rest (later_kept rest one.1 later)
  where
    go : (r : Option RaceKind) (g : Bool) (rest : Ending) → EndsKept t s l rest → EndsKept t s l (turn r g k rest)
    go (Some kind) g rest j = tt
    go None true rest j = j
    go None false rest j = tt
