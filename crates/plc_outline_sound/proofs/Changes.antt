-- What is put into a place, changed in a map or made, as ground sets see it.
use Rattle.std.proofs.Common.{◌≡◌, ℕ, suc, ◌<◌, Bool, true, false, ◌==◌, Option, Some, None, slice_get}
use Rattle.std.proofs.Common.{refl, sym, ap, ◌∙◌, subst, arith, inl, inr, ◌⊎◌}
use Rattle.std.specs.Prelude.{if◌then◌else◌}
use Rattle.std.proofs.lemmas.Bool.{both_ways, cases_eq, eq-eqb, eqb-true, ne_eqb}
use Rattle.plc_base.specs.declared.ids.FieldId.{FieldId}
use Rattle.plc_lang.specs.declared.syntax.Field.{Field}
use Rattle.plc_lang.specs.declared.syntax.Var.{Var}
use Rattle.plc_ground.specs.declared.terms.Symbol.{Symbol}
use Rattle.plc_ground.specs.declared.terms.Map.{Map}
use Rattle.plc_ground.specs.declared.terms.Map.TheVariants as maps
use Rattle.plc_ground.specs.Symbols.{same_symbol, same_map}
use Rattle.plc_gc.specs.declared.slot.Slot.{Slot}
use Rattle.plc_gc.specs.declared.slot.Slot.TheVariants.{Shared as in_shared, Local as in_local, Data as in_data}
use Rattle.plc_gc.specs.declared.slot.Slot.TheVariants.{SharedMark as shared_mark, LocalMark as local_mark}
use Rattle.plc_gc.specs.declared.slot.Map.{Map as GcMap}
use Rattle.plc_gc.specs.declared.slot.Map.TheVariants.{Pointer as pointer_field, Mark as mark_field}
use Rattle.plc_gc.specs.declared.slot.Map.TheVariants.{Number as data_field, Auxiliary as auxiliary_field}
use Rattle.plc_gc.specs.declared.slot.Map.TheVariants.{Retirement as retirement}
use Rattle.plc_gc.specs.State.{GcState, value, entry, count, put, put_pointer, update, made}
use Rattle.plc_gc.specs.State.{update_pointer, with_locals, slot, mark_slot}
use Rattle.plc_gc.specs.Clauses.{declared_map}
use Rattle.plc_gc.proofs.Views.{puts, updates, makes}
use Rattle.plc_ground.proofs.Symbols.{same_symbol_true, same_symbol_refl, same_map_true, same_map_refl}
use Rattle.plc_vocabulary.specs.Acts.{mark_of}
use Rattle.plc_outline_sound.proofs.Acts.{View, with_symbol, with_map, changed}
use Rattle.plc_outline_sound.proofs.Scene.{Scene, symbol_in, gc_map, seen, slot_of, symbol_there, symbol_fixed, one_symbol}

pub same_view : (v w : View) → ((s : Symbol) → v.symbol s ≡ w.symbol s) → ((m : Map) (i : ℕ) → v.map m i ≡ w.map m i)
    → v.count ≡ w.count → v ≡ w
same_view v w a b c = λ i. record { symbol = λ s. a s i; map = λ m n. b m n i; count = c i }

-- ---- fields stay

pub put_fields : (g : GcState) (q : Slot) (n : ℕ) → (put g q n).fields ≡ g.fields
unfolding put with_locals
put_fields g (in_shared i) n = refl
put_fields g (in_local t v) n = refl
put_fields g (shared_mark i) n = refl
put_fields g (local_mark t v) n = refl
put_fields g (in_data t x) n = refl

pub put_pointer_fields : (g : GcState) (t : ℕ) (v : Var) (n m : ℕ) → (put_pointer g t v n m).fields ≡ g.fields
put_pointer_fields g t v n m = put_fields (put g (mark_slot t v) m) (slot t v) n ∙ put_fields g (mark_slot t v) m

pub update_fields : (g : GcState) (m : GcMap) (k n : ℕ) → (update g m k n).fields ≡ g.fields
unfolding update
update_fields g m k n = refl

pub update_pointer_fields : (g : GcState) (f k n m : ℕ) → (update_pointer g f k n m).fields ≡ g.fields
update_pointer_fields g f k n m =
    update_fields (update g (mark_field f) k m) (pointer_field f) k n ∙ update_fields g (mark_field f) k m

pub made_fields : (g : GcState) → (made g).fields ≡ g.fields
unfolding made
made_fields g = refl

pub same_gc_map : (g h : GcState) → h.fields ≡ g.fields → (m : Map) → gc_map h m ≡ gc_map g m
same_gc_map g h e (maps.Field f) = ap (λ fs. declared_map f.0 (slice_get fs f.0)) e
same_gc_map g h e (maps.Ghost i) = refl
same_gc_map g h e maps.Retired = refl
same_gc_map g h e (maps.FieldMark f) = refl

-- ---- no two maps are one map of the state

-- which map is one of the state
abbrev named_map : GcMap → Map
named_map (pointer_field f) = maps.Field (record { 0 = f })
named_map (mark_field f) = maps.FieldMark (record { 0 = f })
named_map (data_field f) = maps.Field (record { 0 = f })
named_map (auxiliary_field h) = maps.Ghost h
named_map retirement = maps.Retired

named_field : (f : FieldId) (o : Option Field) → named_map (declared_map f.0 o) ≡ maps.Field f
named_field f None = refl
named_field f (Some d) = go d.pointer
  where
    go : (b : Bool) → named_map (if b then pointer_field f.0 else data_field f.0) ≡ maps.Field f
    go true = refl
    go false = refl

map_named : (g : GcState) (m : Map) → named_map (gc_map g m) ≡ m
map_named g (maps.Field f) = named_field f (slice_get g.fields f.0)
map_named g (maps.Ghost h) = refl
map_named g maps.Retired = refl
map_named g (maps.FieldMark f) = refl

one_map : (g : GcState) (l m : Map) → gc_map g l ≡ gc_map g m → l ≡ m
one_map g l m same = sym (map_named g l) ∙ ap named_map same ∙ map_named g m

-- ---- what is there already

-- a value put where it is changes nothing
pub put_again : (v : View) (p : Symbol) (n : ℕ) → v.symbol p ≡ n → with_symbol v p n v.count ≡ v
unfolding with_symbol
put_again v p n is = same_view
    (record { symbol = λ s. if same_symbol p s then n else v.symbol s; map = v.map; count = v.count }) v
    (λ s. go s (same_symbol p s) refl) (λ m i. refl) refl
  where
    go : (s : Symbol) (b : Bool) → same_symbol p s ≡ b → (if b then n else v.symbol s) ≡ v.symbol s
    go s true is_it = sym is ∙ ap v.symbol (same_symbol_true p s is_it)
    go s false other = refl

pub update_again : (v : View) (m : Map) (k n : ℕ) → v.map m k ≡ n → with_map v m k n ≡ v
unfolding with_map
update_again v m k n is = same_view
    (record {
      symbol = v.symbol;
      map = λ l i. if same_map l m then changed (v.map l) k n i else v.map l i;
      count = v.count;
    }) v (λ s. refl) (λ l i. go l i (same_map l m) refl) refl
  where
    at : (l : Map) → l ≡ m → (i : ℕ) (b : Bool) → (i == k) ≡ b → (if b then n else v.map l i) ≡ v.map l i
    at l same i true here = sym is ∙ ap (λ l. v.map l k) (sym same) ∙ ap (v.map l) (sym (eqb-true i k here))
    at l same i false other = refl

    go : (l : Map) (i : ℕ) (b : Bool) → same_map l m ≡ b
        → (if b then changed (v.map l) k n i else v.map l i) ≡ v.map l i
    go l i true same = at l (same_map_true l m same) i (i == k) refl
    go l i false other = refl

-- ---- values, where the owner isn't the acting thread

module _ (w : Scene) (ne : w.owner ≡ w.acting → ⊥) where
  -- a constant's value where values elsewhere stay
  stays : (g h : GcState) → ((q : Slot) → value h q ≡ value g q) → (s : Symbol) → symbol_in w h s ≡ symbol_in w g s
  stays g h same s = go (slot_of w s) refl
    where
      go : (o : Option Slot) → slot_of w s ≡ o → symbol_in w h s ≡ symbol_in w g s
      go None e = symbol_fixed w h g s e
      go (Some q) e = symbol_there w h s q e ∙ same q ∙ sym (symbol_there w g s q e)

  put_symbol : (g : GcState) (p : Symbol) (q : Slot) (n : ℕ) → slot_of w p ≡ Some q → (s : Symbol)
      → symbol_in w (put g q n) s ≡ (if same_symbol p s then n else symbol_in w g s)
  put_symbol g p q n at s = go (same_symbol p s) refl
    where
      other : (same_symbol p s ≡ false) → (r : Slot) → slot_of w s ≡ Some r → r ≡ q → ⊥
      other differ r e same = both_ways (same_symbol p s) differ
          (ap (same_symbol p) (sym (one_symbol w ne p s q at (e ∙ ap Some same))) ∙ same_symbol_refl p)

      rest : same_symbol p s ≡ false → (o : Option Slot) → slot_of w s ≡ o → symbol_in w (put g q n) s ≡ symbol_in w g s
      rest differ None e = symbol_fixed w (put g q n) g s e
      rest differ (Some r) e = symbol_there w (put g q n) s r e ∙ (puts g q n).elsewhere r (other differ r e)
          ∙ sym (symbol_there w g s r e)

      go : (b : Bool) → same_symbol p s ≡ b → symbol_in w (put g q n) s ≡ (if b then n else symbol_in w g s)
      go true is = symbol_there w (put g q n) s q (ap (slot_of w) (sym (same_symbol_true p s is)) ∙ at)
          ∙ (puts g q n).here
      go false differ = rest differ (slot_of w s) refl

  pub seen_put : (g : GcState) (p : Symbol) (q : Slot) (n : ℕ) → slot_of w p ≡ Some q
      → seen w (put g q n) ≡ with_symbol (seen w g) p n (count g)
  unfolding with_symbol
  seen_put g p q n at = same_view (seen w (put g q n)) (record {
    symbol = λ s. if same_symbol p s then n else symbol_in w g s;
    map = λ m. entry g (gc_map g m);
    count = count g;
  })
      (put_symbol g p q n at)
      (λ m i. (puts g q n).nodes.entries (gc_map (put g q n) m) i
      ∙ ap (λ l. entry g l i) (same_gc_map g (put g q n) (put_fields g q n) m))
      (puts g q n).nodes.count

  -- a variable of thread t gets a node and a mark
  pub seen_put_pointer : (g : GcState) (t : ℕ) (v : Var) (p : Symbol) (n m : ℕ) → slot_of w p ≡ Some (slot t v)
      → slot_of w (mark_of p) ≡ Some (mark_slot t v)
      → seen w (put_pointer g t v n m) ≡ with_symbol (with_symbol (seen w g) (mark_of p) m (count g)) p n (count g)
  unfolding with_symbol
  seen_put_pointer g t v p n m at marked =
      seen_put (put g (mark_slot t v) m) p (slot t v) n at
      ∙ ap (λ (u : View). with_symbol u p n u.count) (seen_put g (mark_of p) (mark_slot t v) m marked)

  seen_grown : (g : GcState) (p : Symbol) (n : ℕ) (q : Symbol) (m : ℕ)
      → with_symbol (with_symbol (seen w (made g)) q m (count (made g))) p n (count (made g))
      ≡ with_symbol (with_symbol (seen w g) q m (count g)) p n (suc (count g))
  unfolding with_symbol
  seen_grown g p n q m = same_view
      (record {
        symbol = λ s. if same_symbol p s then n else if same_symbol q s then m else symbol_in w (made g) s;
        map = λ l. entry (made g) (gc_map (made g) l);
        count = count (made g);
      })
      (record {
        symbol = λ s. if same_symbol p s then n else if same_symbol q s then m else symbol_in w g s;
        map = λ l. entry g (gc_map g l);
        count = suc (count g);
      })
      (λ s. ap (λ k. if same_symbol p s then n else if same_symbol q s then m else k)
      (stays g (made g) (makes g).values s))
      (λ l i. (makes g).entries (gc_map (made g) l) i
      ∙ ap (λ l. entry g l i) (same_gc_map g (made g) (made_fields g) l))
      (makes g).count

  pub seen_made : (g : GcState) (t : ℕ) (v : Var) (p : Symbol) (n m : ℕ) → slot_of w p ≡ Some (slot t v)
      → slot_of w (mark_of p) ≡ Some (mark_slot t v)
      → seen w (put_pointer (made g) t v n m)
      ≡ with_symbol (with_symbol (seen w g) (mark_of p) m (count g)) p n (suc (count g))
  seen_made g t v p n m at marked = seen_put_pointer (made g) t v p n m at marked ∙ seen_grown g p n (mark_of p) m

  update_map : (g : GcState) (m : Map) (k n : ℕ) (l : Map) (i : ℕ)
      → entry (update g (gc_map g m) k n) (gc_map g l) i
      ≡ (if same_map l m then changed (entry g (gc_map g l)) k n i else entry g (gc_map g l) i)
  update_map g m k n l i = go (same_map l m) refl
    where
      here : (l ≡ m) → (i ≡ k) ⊎ (i ≡ k → ⊥)
          → entry (update g (gc_map g m) k n) (gc_map g l) i ≡ changed (entry g (gc_map g l)) k n i
      here same (inl e) = rw (eq-eqb i k e)
          (subst (λ l. entry (update g (gc_map g m) k n) (gc_map g l) i ≡ n) (sym same)
          (subst (λ i. entry (update g (gc_map g m) k n) (gc_map g m) i ≡ n) (sym e) (updates g (gc_map g m) k n).here))
      here same (inr other) = rw (ne_eqb i k other) ((updates g (gc_map g m) k n).other_node (gc_map g l) i other)

      go : (b : Bool) → same_map l m ≡ b
          → entry (update g (gc_map g m) k n) (gc_map g l) i
          ≡ (if b then changed (entry g (gc_map g l)) k n i else entry g (gc_map g l) i)
      go true e = here (same_map_true l m e) (cases_eq i k)
      go false e = (updates g (gc_map g m) k n).other_map (gc_map g l) i
          (λ same. both_ways (same_map l m) e
          (subst (λ l. same_map l m ≡ true) (sym (one_map g l m same)) (same_map_refl m)))

  pub seen_update : (g : GcState) (m : Map) (k n : ℕ) → k < count g
      → seen w (update g (gc_map g m) k n) ≡ with_map (seen w g) m k n
  unfolding with_map
  seen_update g m k n small = same_view (seen w (update g (gc_map g m) k n)) (record {
    symbol = symbol_in w g;
    map = λ l i. if same_map l m then changed (entry g (gc_map g l)) k n i else entry g (gc_map g l) i;
    count = count g;
  })
      (stays g (update g (gc_map g m) k n) (updates g (gc_map g m) k n).values)
      (λ l i. ap (λ d. entry (update g (gc_map g m) k n) d i)
      (same_gc_map g (update g (gc_map g m) k n) (update_fields g (gc_map g m) k n) l) ∙ update_map g m k n l i)
      ((updates g (gc_map g m) k n).count small)

  -- a pointer field of a node gets a node and a mark
  pub seen_update_pointer : (g : GcState) (f : FieldId) (k n m : ℕ) → gc_map g (maps.Field f) ≡ pointer_field f.0
      → k < count g
      → seen w (update_pointer g f.0 k n m) ≡ with_map (with_map (seen w g) (maps.FieldMark f) k m) (maps.Field f) k n
  seen_update_pointer g f k n m is small =
      let h = update g (mark_field f.0) k m in
      let same : gc_map h (maps.Field f) ≡ pointer_field f.0 =
      same_gc_map g h (update_fields g (mark_field f.0) k m) (maps.Field f) ∙ is in
      let more : k < count h = (let c = (updates g (mark_field f.0) k m).count small in omega arith) in
      ap (λ d. seen w (update h d k n)) (sym same) ∙ seen_update h (maps.Field f) k n more
      ∙ ap (λ (u : View). with_map u (maps.Field f) k n) (seen_update g (maps.FieldMark f) k m small)
