-- A garbage-collected state as ground sets see it: which thread acts and whose clause it is settles what each constant
-- stands for.
use Rattle.std.proofs.Common.{◌≡◌, ℕ, suc, Bool, true, false, not, ◌==◌, List, Option, Some, None, slice_get}
use Rattle.std.proofs.Common.{refl, sym, ap, ◌∙◌}
use Rattle.std.specs.Prelude.{if◌then◌else◌, unwrap_or}
use Rattle.std.proofs.lemmas.Bool.{eq-eqb, ne_eqb}
use Rattle.plc_lang.specs.declared.syntax.Local.{Local}
use Rattle.plc_lang.specs.declared.syntax.Ghost.{Ghost}
use Rattle.plc_lang.specs.Numbering.{pointer_number, data_number, pointer_place, data_place, value_at}
use Rattle.plc_lang.proofs.Numbers.{numbers_are_one}
use Rattle.plc_ground.specs.declared.terms.Symbol.{Symbol}
use Rattle.plc_ground.specs.declared.terms.Symbol.TheVariants as symbols
use Rattle.plc_ground.specs.declared.terms.Map.{Map}
use Rattle.plc_ground.specs.declared.terms.Map.TheVariants as maps
use Rattle.plc_vocabulary.specs.Acts.{mark_of}
use Rattle.plc_vocabulary.specs.Setting.{local_symbol}
use Rattle.plc_gc.specs.declared.slot.Slot.{Slot}
use Rattle.plc_gc.specs.declared.slot.Slot.TheVariants.{Shared as in_shared, Local as in_local, Data as in_data}
use Rattle.plc_gc.specs.declared.slot.Slot.TheVariants.{SharedMark as shared_mark, LocalMark as local_mark}
use Rattle.plc_gc.specs.declared.slot.Map.{Map as GcMap}
use Rattle.plc_gc.specs.declared.slot.Map.TheVariants.{Auxiliary as auxiliary_field, Mark as mark_field}
use Rattle.plc_gc.specs.declared.slot.Map.TheVariants.{Retirement as retirement}
use Rattle.plc_gc.specs.State.{GcState, value, entry, count}
use Rattle.plc_gc.specs.Clauses.{declared_value, declared_mark, field_map}
use Rattle.plc_outline_sound.proofs.Acts.{View}

-- the auxiliary fields; the acting thread and the owner of the clause, with the locals that they declare; the number of
-- the node that is made, if one is; the nodes of quantified names
pub record Scene : Type 0 where
  pub ghosts : List Ghost
  pub acting : ℕ
  pub mine : List Local
  pub owner : ℕ
  pub theirs : List Local
  pub node : ℕ
  pub bound : ℕ → ℕ

-- the locals of the acting thread, or of the owner
abbrev pub locals_for : Scene → Bool → List Local
locals_for w false = w.mine
locals_for w true = w.theirs

-- the thread that acts, or the owner
abbrev pub thread_for : Scene → Bool → ℕ
thread_for w false = w.acting
thread_for w true = w.owner

-- a value's number in its field; a number that names no value is kept apart from all of these
abbrev pub value_or : ℕ → Option (ℕ × ℕ) → ℕ
value_or n None = n
value_or n (Some v) = v.1

abbrev pub symbol_in : Scene → GcState → Symbol → ℕ
symbol_in w g symbols.Null = 0
symbol_in w g (symbols.Shared i) = value g (in_shared i)
symbol_in w g (symbols.Mine k) = declared_value g w.acting w.mine k (slice_get w.mine k)
symbol_in w g (symbols.Theirs k) = declared_value g w.owner w.theirs k (slice_get w.theirs k)
symbol_in w g symbols.New = w.node
symbol_in w g (symbols.Bound i) = w.bound i
symbol_in w g (symbols.Loaded i) = 0
symbol_in w g symbols.Yes = 1
symbol_in w g symbols.No = 0
symbol_in w g symbols.Nobody = 0
symbol_in w g symbols.Me = suc w.acting
symbol_in w g symbols.You = suc w.owner
symbol_in w g (symbols.Value v) = value_or v (value_at w.ghosts v)
symbol_in w g (symbols.Number n) = n
symbol_in w g (symbols.MarkShared i) = value g (shared_mark i)
symbol_in w g (symbols.MarkMine k) = declared_mark g w.acting w.mine k (slice_get w.mine k)
symbol_in w g (symbols.MarkTheirs k) = declared_mark g w.owner w.theirs k (slice_get w.theirs k)
symbol_in w g (symbols.MarkLoaded i) = 0

-- the map of the state
abbrev pub gc_map : GcState → Map → GcMap
gc_map g (maps.Field f) = field_map g f.0
gc_map g (maps.Ghost h) = auxiliary_field h
gc_map g maps.Retired = retirement
gc_map g (maps.FieldMark f) = mark_field f.0

abbrev pub seen : Scene → GcState → View
seen w g = record { symbol = symbol_in w g; map = λ m. entry g (gc_map g m); count = count g }

-- ---- the places of constants

abbrev pub local_slot : ℕ → List Local → ℕ → Option Local → Option Slot
local_slot t ls k None = None
local_slot t ls k (Some l) =
    Some (if l.pointer then in_local t (pointer_number ls k) else in_data t (data_number ls k))

-- data have no mark
abbrev pub local_mark_slot : ℕ → List Local → ℕ → Option Local → Option Slot
local_mark_slot t ls k None = None
local_mark_slot t ls k (Some l) = if l.pointer then Some (local_mark t (pointer_number ls k)) else None

-- the place of a variable or of its mark; other constants have none
abbrev pub slot_of : Scene → Symbol → Option Slot
slot_of w symbols.Null = None
slot_of w (symbols.Shared i) = Some (in_shared i)
slot_of w (symbols.Mine k) = local_slot w.acting w.mine k (slice_get w.mine k)
slot_of w (symbols.Theirs k) = local_slot w.owner w.theirs k (slice_get w.theirs k)
slot_of w symbols.New = None
slot_of w (symbols.Bound i) = None
slot_of w (symbols.Loaded i) = None
slot_of w symbols.Yes = None
slot_of w symbols.No = None
slot_of w symbols.Nobody = None
slot_of w symbols.Me = None
slot_of w symbols.You = None
slot_of w (symbols.Value v) = None
slot_of w (symbols.Number n) = None
slot_of w (symbols.MarkShared i) = Some (shared_mark i)
slot_of w (symbols.MarkMine k) = local_mark_slot w.acting w.mine k (slice_get w.mine k)
slot_of w (symbols.MarkTheirs k) = local_mark_slot w.owner w.theirs k (slice_get w.theirs k)
slot_of w (symbols.MarkLoaded i) = None

declared_there : (g : GcState) (t : ℕ) (ls : List Local) (k : ℕ) (o : Option Local) (q : Slot)
    → local_slot t ls k o ≡ Some q → declared_value g t ls k o ≡ value g q
declared_there g t ls k None q e = cc
declared_there g t ls k (Some l) q e = go l.pointer e
  where
    go : (b : Bool) → Some (if b then in_local t (pointer_number ls k) else in_data t (data_number ls k)) ≡ Some q
        → (if b then value g (in_local t (pointer_number ls k)) else value g (in_data t (data_number ls k))) ≡ value g q
    go true e = ap (value g) (let same : in_local t (pointer_number ls k) ≡ q = cc in same)
    go false e = ap (value g) (let same : in_data t (data_number ls k) ≡ q = cc in same)

declared_nowhere : (g h : GcState) (t : ℕ) (ls : List Local) (k : ℕ) (o : Option Local) → local_slot t ls k o ≡ None
    → declared_value g t ls k o ≡ declared_value h t ls k o
declared_nowhere g h t ls k None e = refl
declared_nowhere g h t ls k (Some l) e = cc

mark_there : (g : GcState) (t : ℕ) (ls : List Local) (k : ℕ) (o : Option Local) (q : Slot)
    → local_mark_slot t ls k o ≡ Some q → declared_mark g t ls k o ≡ value g q
mark_there g t ls k None q e = cc
mark_there g t ls k (Some l) q e = go l.pointer e
  where
    go : (b : Bool) → (if b then Some (local_mark t (pointer_number ls k)) else None) ≡ Some q
        → (if b then value g (local_mark t (pointer_number ls k)) else 0) ≡ value g q
    go true e = ap (value g) (let same : local_mark t (pointer_number ls k) ≡ q = cc in same)
    go false e = cc

mark_nowhere : (g h : GcState) (t : ℕ) (ls : List Local) (k : ℕ) (o : Option Local)
    → local_mark_slot t ls k o ≡ None → declared_mark g t ls k o ≡ declared_mark h t ls k o
mark_nowhere g h t ls k None e = refl
mark_nowhere g h t ls k (Some l) e = go l.pointer e
  where
    go : (b : Bool) → (if b then Some (local_mark t (pointer_number ls k)) else None) ≡ None
        → (if b then value g (local_mark t (pointer_number ls k)) else 0)
        ≡ (if b then value h (local_mark t (pointer_number ls k)) else 0)
    go true e = cc
    go false e = refl

-- a variable, and a mark, has the value of its place
pub symbol_there : (w : Scene) (g : GcState) (s : Symbol) (q : Slot) → slot_of w s ≡ Some q
    → symbol_in w g s ≡ value g q
symbol_there w g (symbols.Shared i) q e = ap (value g) (let same : in_shared i ≡ q = cc in same)
symbol_there w g (symbols.Mine k) q e = declared_there g w.acting w.mine k (slice_get w.mine k) q e
symbol_there w g (symbols.Theirs k) q e = declared_there g w.owner w.theirs k (slice_get w.theirs k) q e
symbol_there w g (symbols.MarkShared i) q e = ap (value g) (let same : shared_mark i ≡ q = cc in same)
symbol_there w g (symbols.MarkMine k) q e = mark_there g w.acting w.mine k (slice_get w.mine k) q e
symbol_there w g (symbols.MarkTheirs k) q e = mark_there g w.owner w.theirs k (slice_get w.theirs k) q e
symbol_there w g _ q e = cc

-- any other constant has one value in all states
pub symbol_fixed : (w : Scene) (g h : GcState) (s : Symbol) → slot_of w s ≡ None → symbol_in w g s ≡ symbol_in w h s
symbol_fixed w g h (symbols.Shared i) e = cc
symbol_fixed w g h (symbols.Mine k) e = declared_nowhere g h w.acting w.mine k (slice_get w.mine k) e
symbol_fixed w g h (symbols.Theirs k) e = declared_nowhere g h w.owner w.theirs k (slice_get w.theirs k) e
symbol_fixed w g h (symbols.MarkShared i) e = cc
symbol_fixed w g h (symbols.MarkMine k) e = mark_nowhere g h w.acting w.mine k (slice_get w.mine k) e
symbol_fixed w g h (symbols.MarkTheirs k) e = mark_nowhere g h w.owner w.theirs k (slice_get w.theirs k) e
symbol_fixed w g h s e = refl

-- ---- no two constants have one place

-- the local of the acting thread, or of the owner, with a number among those of its kind
abbrev local_of : Scene → (List Local → ℕ → Option ℕ) → ℕ → Bool → Symbol
local_of w place n owner = local_symbol owner (unwrap_or (place (locals_for w owner) n) 0)

-- whether a thread isn't the acting one
abbrev is_owner : Scene → ℕ → Bool
is_owner w t = not (t == w.acting)

-- which constant has a place
abbrev named_by : Scene → Slot → Symbol
named_by w (in_shared i) = symbols.Shared i
named_by w (in_local t v) = local_of w pointer_place v (is_owner w t)
named_by w (shared_mark i) = symbols.MarkShared i
named_by w (local_mark t v) = mark_of (local_of w pointer_place v (is_owner w t))
named_by w (in_data t x) = local_of w data_place x (is_owner w t)

module _ (w : Scene) (ne : w.owner ≡ w.acting → ⊥) where
  owner_is : (owner : Bool) → is_owner w (thread_for w owner) ≡ owner
  owner_is false = ap not (eq-eqb w.acting w.acting refl)
  owner_is true = ap not (ne_eqb w.owner w.acting ne)

  pointer_named : (owner : Bool) (k : ℕ) (l : Local) → slice_get (locals_for w owner) k ≡ Some l → l.pointer ≡ true
      → local_of w pointer_place (pointer_number (locals_for w owner) k) (is_owner w (thread_for w owner))
      ≡ local_symbol owner k
  pointer_named owner k l at is =
      ap (local_of w pointer_place (pointer_number (locals_for w owner) k)) (owner_is owner)
      ∙ ap (λ o. local_symbol owner (unwrap_or o 0)) ((numbers_are_one (locals_for w owner)).to_pointer k l at is)

  data_named : (owner : Bool) (k : ℕ) (l : Local) → slice_get (locals_for w owner) k ≡ Some l → l.pointer ≡ false
      → local_of w data_place (data_number (locals_for w owner) k) (is_owner w (thread_for w owner))
      ≡ local_symbol owner k
  data_named owner k l at is =
      ap (local_of w data_place (data_number (locals_for w owner) k)) (owner_is owner)
      ∙ ap (λ o. local_symbol owner (unwrap_or o 0)) ((numbers_are_one (locals_for w owner)).to_data k l at (ap not is))

  local_named_by : (owner : Bool) (k : ℕ) (o : Option Local) → slice_get (locals_for w owner) k ≡ o → (q : Slot)
      → local_slot (thread_for w owner) (locals_for w owner) k o ≡ Some q → named_by w q ≡ local_symbol owner k
  local_named_by owner k None at q e = cc
  local_named_by owner k (Some l) at q e = go l.pointer refl e
    where
      go : (b : Bool) → l.pointer ≡ b
          → Some (if b then in_local (thread_for w owner) (pointer_number (locals_for w owner) k)
          else in_data (thread_for w owner) (data_number (locals_for w owner) k)) ≡ Some q
          → named_by w q ≡ local_symbol owner k
      go true is e = ap (named_by w)
          (let same : q ≡ in_local (thread_for w owner) (pointer_number (locals_for w owner) k) = cc in same)
          ∙ pointer_named owner k l at is
      go false is e = ap (named_by w)
          (let same : q ≡ in_data (thread_for w owner) (data_number (locals_for w owner) k) = cc in same)
          ∙ data_named owner k l at is

  mark_named_by : (owner : Bool) (k : ℕ) (o : Option Local) → slice_get (locals_for w owner) k ≡ o → (q : Slot)
      → local_mark_slot (thread_for w owner) (locals_for w owner) k o ≡ Some q
      → named_by w q ≡ mark_of (local_symbol owner k)
  mark_named_by owner k None at q e = cc
  mark_named_by owner k (Some l) at q e = go l.pointer refl e
    where
      go : (b : Bool) → l.pointer ≡ b
          → (if b then Some (local_mark (thread_for w owner) (pointer_number (locals_for w owner) k)) else None)
          ≡ Some q
          → named_by w q ≡ mark_of (local_symbol owner k)
      go true is e = ap (named_by w)
          (let same : q ≡ local_mark (thread_for w owner) (pointer_number (locals_for w owner) k) = cc in same)
          ∙ ap mark_of (pointer_named owner k l at is)
      go false is e = cc

  named_is : (s : Symbol) (q : Slot) → slot_of w s ≡ Some q → named_by w q ≡ s
  named_is (symbols.Shared i) q e = ap (named_by w) (let same : q ≡ in_shared i = cc in same)
  named_is (symbols.Mine k) q e = local_named_by false k (slice_get w.mine k) refl q e
  named_is (symbols.Theirs k) q e = local_named_by true k (slice_get w.theirs k) refl q e
  named_is (symbols.MarkShared i) q e = ap (named_by w) (let same : q ≡ shared_mark i = cc in same)
  named_is (symbols.MarkMine k) q e = mark_named_by false k (slice_get w.mine k) refl q e
  named_is (symbols.MarkTheirs k) q e = mark_named_by true k (slice_get w.theirs k) refl q e
  named_is _ q e = cc

  pub one_symbol : (s r : Symbol) (q : Slot) → slot_of w s ≡ Some q → slot_of w r ≡ Some q → s ≡ r
  one_symbol s r q e f = sym (named_is s q e) ∙ named_is r q f
