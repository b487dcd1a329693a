-- Primitives that are executed are acts that run.
use Rattle.std.proofs.Common.{◌≡◌, ℕ, ◌+◌, ◌<◌, ◌≤◌, Bool, true, false, List, [], ◌∷◌, ◌++◌, Some, count_by, cond}
use Rattle.std.proofs.Common.{refl, sym, ap, ◌∙◌, subst, arith}
use Rattle.std.proofs.lemmas.Bool.{or_parts}
use Rattle.std.proofs.lemmas.List.Sums.{sum_by-cons}
use Rattle.plc_base.specs.Functions.{is_retire}
use Rattle.plc_lang.specs.declared.syntax.Arg.{Arg}
use Rattle.plc_lang.specs.declared.syntax.Arg.TheVariants as args
use Rattle.plc_lang.specs.declared.syntax.File.{File}
use Rattle.plc_lang.specs.declared.syntax.Rel.{Rel}
use Rattle.plc_lang.specs.declared.syntax.Rel.TheVariants as rels
use Rattle.plc_lang.specs.declared.syntax.Var.TheVariants as vars
use Rattle.plc_lang.specs.declared.syntax.Ghost.{Ghost as AuxiliaryField}
use Rattle.plc_lang.specs.declared.syntax.Primitive.{Primitive}
use Rattle.plc_lang.specs.declared.syntax.Primitive.TheVariants.{Null, Copy, New, Load, Store, StoreNull, DataSet}
use Rattle.plc_lang.specs.declared.syntax.Primitive.TheVariants.{DataLoad, DataStore, DataTest, Refresh}
use Rattle.plc_lang.specs.declared.syntax.Primitive.TheVariants.{RefreshLoad, RefreshStore, Mark, Unmark, Call, Ghost}
use Rattle.plc_lang.specs.Allocation.{is_new}
use Rattle.plc_lang.specs.Marks.{speaks_of_marks, speak_of_marks}
use Rattle.plc_lang.specs.Shape.{Shape, PrimitiveIn, PrimitivesIn}
use Rattle.plc_lang.specs.WellSorted.{IsWellSorted, AreWellSorted}
use Rattle.plc_ground.specs.declared.terms.Symbol.{Symbol}
use Rattle.plc_vocabulary.specs.declared.acts.Act.{Act}
use Rattle.plc_vocabulary.specs.declared.acts.Act.TheVariants.{Assign, Make, Fetch, FetchMarked, Update, Test}
use Rattle.plc_vocabulary.specs.declared.acts.Act.TheVariants.{Differ, Skip}
use Rattle.plc_vocabulary.specs.declared.setting.Variables.{Variables}
use Rattle.plc_vocabulary.specs.Acts.{data_test, call_act, acts_of_primitive, acts_of}
use Rattle.plc_vocabulary.specs.Setting.{variables_of}
use Rattle.plc_gc.specs.State.{GcState, count, made}
use Rattle.plc_gc.specs.Primitives.{node_at, mark_at, field_at, field_mark_at, goes, after_call, after}
use Rattle.plc_gc.specs.Ranges.{IsInRange}
use Rattle.plc_gc.specs.Run.{turn, execute}
use Rattle.plc_gc.specs.Unmarked.{AllUnmarked}
use Rattle.plc_gc.proofs.Ranges.{ranged_primitive}
use Rattle.plc_gc.proofs.Unmarked.{unmarked_primitive}
use Rattle.plc_outline_sound.proofs.Acts.{View, with_symbol, with_map, act_after, ActsRun}
use Rattle.plc_outline_sound.proofs.Current.{bit}
use Rattle.plc_outline_sound.proofs.Scene.{Scene, seen}
use Rattle.plc_outline_sound.proofs.Changes.{put_fields, put_pointer_fields, update_fields, update_pointer_fields, made_fields}
use Rattle.plc_outline_sound.proofs.Variables.{ShapeFits}
use Rattle.plc_outline_sound.proofs.Rows.{RowFits, IsRow, row}

-- ---- runs of several acts

-- acts run after acts
runs_on : (node limit : ℕ) (v u w : View) (xs ys : List Act) → ActsRun node limit v xs u → ActsRun node limit u ys w
    → ActsRun node limit v (xs ++ ys) w
runs_on node limit v u w [] ys same more = subst (λ u. ActsRun node limit u ys w) (sym same) more
runs_on node limit v u w (a ∷ xs) ys run more = (run.0, runs_on node limit (act_after v a) u w xs ys run.1 more)

-- ---- how many nodes there are

abbrev pub made_by : Act → ℕ
made_by (Assign p e) = 0
made_by (Make p) = 1
made_by (Fetch p q f pointer) = 0
made_by (FetchMarked p q f) = 0
made_by (Update checked m p e) = 0
made_by (Test a b equal) = 0
made_by (Differ a b) = 0
made_by Skip = 0

count_act : (v : View) (a : Act) → (act_after v a).count ≡ v.count + made_by a
unfolding with_symbol with_map
count_act v (Assign p e) = omega arith
count_act v (Make p) = omega arith
count_act v (Fetch p q f pointer) = omega arith
count_act v (FetchMarked p q f) = omega arith
count_act v (Update checked m p e) = omega arith
count_act v (Test a b equal) = omega arith
count_act v (Differ a b) = omega arith
count_act v Skip = omega arith

abbrev made_by_all : List Act → ℕ
made_by_all [] = 0
made_by_all (a ∷ more) = made_by a + made_by_all more

count_acts : (node limit : ℕ) (v w : View) (xs : List Act) → ActsRun node limit v xs w
    → w.count ≡ v.count + made_by_all xs
count_acts node limit v w [] run = (let same = ap (λ (u : View). u.count) run in omega arith)
count_acts node limit v w (a ∷ more) run =
    let first = count_act v a in
    let rest = count_acts node limit (act_after v a) w more run.1 in
    omega arith

test_makes : (r : Rel) (a b : Symbol) → made_by_all (data_test r a b ∷ []) ≡ 0
test_makes rels.Eq a b = refl
test_makes rels.Ne a b = refl
test_makes rels.Lt a b = refl
test_makes rels.Ge a b = refl

call_makes : (v : Variables) (b : Bool) (a : Arg) → made_by_all (call_act v b a ∷ []) ≡ 0
call_makes v true (args.Var p) = refl
call_makes v true args.Null = refl
call_makes v true args.None = refl
call_makes v false a = refl

makes : (marked : Bool) (gs : List AuxiliaryField) (v : Variables) (k : Primitive)
    → made_by_all (acts_of_primitive marked gs v k) ≡ bit (is_new k)
makes true gs v (New p) = refl
makes true gs v (DataTest r x e) = test_makes r _ _
makes true gs v (Call f a) = call_makes v (is_retire f) a
makes true gs v _ = refl
makes false gs v (New p) = refl
makes false gs v (DataTest r x e) = test_makes r _ _
makes false gs v (Call f a) = call_makes v (is_retire f) a
makes false gs v _ = refl

-- ---- fields stay

call_fields : (g : GcState) (t : ℕ) (b : Bool) (a : Arg) → (after_call g t b a).fields ≡ g.fields
call_fields g t true (args.Var p) = update_fields g _ _ _
call_fields g t true args.Null = refl
call_fields g t true args.None = refl
call_fields g t false a = refl

after_fields : (g : GcState) (t : ℕ) (k : Primitive) → (after g t k).fields ≡ g.fields
after_fields g t (Null p) = put_pointer_fields g t _ _ _
after_fields g t (Copy p q) = put_pointer_fields g t _ _ _
after_fields g t (New p) = put_pointer_fields (made g) t _ _ _ ∙ made_fields g
after_fields g t (Load p q f) = put_pointer_fields g t _ _ _
after_fields g t (Store p f q) = update_pointer_fields g _ _ _ _
after_fields g t (StoreNull p f) = update_pointer_fields g _ _ _ _
after_fields g t (DataSet x e) = put_fields g _ _
after_fields g t (DataLoad x q f) = put_fields g _ _
after_fields g t (DataStore p f e) = update_fields g _ _ _
after_fields g t (Refresh p q) = put_pointer_fields g t (vars.Local p) (node_at g t q) (mark_at g t q)
after_fields g t (RefreshLoad p q f) =
    put_pointer_fields g t (vars.Local p) (field_at g t q f.0) (field_mark_at g t q f.0)
after_fields g t (RefreshStore p f q) = update_pointer_fields g _ _ _ _
after_fields g t (Mark p q) = put_pointer_fields g t _ _ _
after_fields g t (Unmark p q) = put_pointer_fields g t _ _ _
after_fields g t (Call f a) = call_fields g t (is_retire f) a
after_fields g t (Ghost p i v) = update_fields g _ _ _
after_fields g t _ = refl

module _ (file : File) (marked : Bool) (w : Scene) (shape : Shape) (shaped : ShapeFits shape w.mine)
    (apart : w.owner ≡ w.acting → ⊥) (ghosts : w.ghosts ≡ file.ghosts) where
  -- the acts of these primitives lead from one state to the other
  pub record Ran (g : GcState) (ks : List Primitive) (h : GcState) : Type 0 where
    pub runs : (limit : ℕ) → count h ≤ limit
        → ActsRun w.node limit (seen w g) (acts_of marked file.ghosts (variables_of false w.mine) ks) (seen w h)
    pub count_is : count h ≡ count g + count_by is_new ks
    pub ranges : IsInRange h
    pub fields : h.fields ≡ file.fields

  fits_at : (g : GcState) (limit : ℕ) → g.fields ≡ file.fields → IsInRange g → (marked ≡ false → AllUnmarked g)
      → count g ≤ limit → RowFits file marked w g limit
  fits_at g limit same ranges clear few =
      record { apart = apart; ghosts = ghosts; fields = same; ranges = ranges; few = few; unmarked = clear }

  abbrev its_acts : Primitive → List Act
  its_acts k = acts_of_primitive marked file.ghosts (variables_of false w.mine) k

  row_at : (g : GcState) (limit : ℕ) (k : Primitive) → g.fields ≡ file.fields → IsInRange g
      → (marked ≡ false → AllUnmarked g) → count g ≤ limit → (marked ≡ false → speaks_of_marks k ≡ false)
      → PrimitiveIn shape k → IsWellSorted file k → goes g w.acting k ≡ true → (is_new k ≡ true → w.node ≡ count g)
      → IsRow w g limit (its_acts k) (after g w.acting k)
  row_at g limit k same ranges clear few quiet is sorted went node =
      row file marked w g limit (fits_at g limit same ranges clear few) shape shaped k quiet is sorted went node

  count_after : (g : GcState) (k : Primitive) → IsRow w g (count g) (its_acts k) (after g w.acting k)
      → count (after g w.acting k) ≡ count g + bit (is_new k)
  count_after g k r = count_acts w.node (count g) (seen w g) (seen w (after g w.acting k)) (its_acts k) r
      ∙ ap (λ n. count g + n) (makes marked file.ghosts (variables_of false w.mine) k)

  -- no mark is set by what doesn't speak of marks
  clear_after : (g : GcState) (k : Primitive) (ks : List Primitive) → (marked ≡ false → speak_of_marks (k ∷ ks) ≡ false)
      → (marked ≡ false → AllUnmarked g) → marked ≡ false → AllUnmarked (after g w.acting k)
  clear_after g k ks silent clear none = unmarked_primitive g w.acting k
      (or_parts (speaks_of_marks k) (speak_of_marks ks) (silent none)).0 (clear none)

  pub ran : (ks : List Primitive) (g h : GcState) → execute g w.acting ks ≡ Some h → g.fields ≡ file.fields
      → IsInRange g → (marked ≡ false → speak_of_marks ks ≡ false) → (marked ≡ false → AllUnmarked g)
      → PrimitivesIn shape ks → AreWellSorted file ks
      → (0 < count_by is_new ks → w.node ≡ count g) → count_by is_new ks ≤ 1 → Ran g ks h
  ran [] g h e same ranges silent clear is sorted node one =
      let end : g ≡ h = cc in
      subst (Ran g []) end (record { runs = λ limit few. refl; count_is = omega arith; ranges = ranges; fields = same })
  ran (k ∷ ks) g h e same ranges silent clear is sorted node one = go (goes g w.acting k) refl e (λ went rest node.
      ran ks (after g w.acting k) h rest (after_fields g w.acting k ∙ same) (ranged_primitive g w.acting k went ranges)
      (λ none. (or_parts (speaks_of_marks k) (speak_of_marks ks) (silent none)).1) (clear_after g k ks silent clear)
      is.1 sorted.1 node (let c = sum_by-cons (λ x. cond (is_new x) 1 0) k ks in omega arith))
    where
      counted : count_by is_new (k ∷ ks) ≡ bit (is_new k) + count_by is_new ks
      counted = sum_by-cons (λ x. cond (is_new x) 1 0) k ks

      quiet : marked ≡ false → speaks_of_marks k ≡ false
      quiet none = (or_parts (speaks_of_marks k) (speak_of_marks ks) (silent none)).0

      first : is_new k ≡ true → w.node ≡ count g
      first new = node (let b : bit (is_new k) ≡ 1 = ap bit new in let c = counted in omega arith)

      at : goes g w.acting k ≡ true → (limit : ℕ) → count g ≤ limit → IsRow w g limit (its_acts k) (after g w.acting k)
      at went limit few = row_at g limit k same ranges clear few quiet is.0 sorted.0 went first

      next : goes g w.acting k ≡ true → 0 < count_by is_new ks → w.node ≡ count (after g w.acting k)
      next went some =
          let c = counted in
          let n = node (omega arith) in
          let d = count_after g k (at went (count g) (omega arith)) in
          omega arith

      go : (b : Bool) → goes g w.acting k ≡ b → turn b (execute (after g w.acting k) w.acting ks) ≡ Some h
          → (goes g w.acting k ≡ true → execute (after g w.acting k) w.acting ks ≡ Some h
          → (0 < count_by is_new ks → w.node ≡ count (after g w.acting k)) → Ran (after g w.acting k) ks h)
          → Ran g (k ∷ ks) h
      go false went e rest = cc
      go true went e rest =
          let later = rest went e (next went) in
          let c = counted in
          let d = count_after g k (at went (count g) (omega arith)) in
          let m = later.count_is in
          record {
            runs = λ limit few. runs_on w.node limit (seen w g) (seen w (after g w.acting k)) (seen w h) (its_acts k)
                (acts_of marked file.ghosts (variables_of false w.mine) ks) (at went limit (omega arith))
                (later.runs limit few);
            count_is = omega arith;
            ranges = later.ranges;
            fields = later.fields;
          }
