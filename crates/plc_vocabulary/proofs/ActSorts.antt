-- What is executed names constants and maps of the sorts that its rows ask.
use Rattle.std.proofs.Common.{◌≡◌, ◌<◌, ◌+◌, ℕ, zero, suc, Bool, true, false, not, cond, ◌&&◌, ◌||◌, List, [], ◌∷◌}
use Rattle.std.proofs.Common.{length, map, take, slice_get, count_by, Option, Some, None, option_map, unwrap_or, All}
use Rattle.std.proofs.Common.{refl, sym, ap, subst, ◌∙◌, arith}
use Rattle.std.specs.List.{list_any}
use Rattle.std.proofs.lemmas.List.Elements.{All-nil, All-cons, All-append}
use Rattle.std.proofs.lemmas.List.Sums.{sum_by-cons}
use Rattle.std.proofs.lemmas.Option.{slice_get-map, slice_get_within}
use Rattle.plc_base.specs.Functions.{is_retire}
use Rattle.plc_base.specs.declared.ids.FieldId.{FieldId}
use Rattle.plc_lang.specs.declared.syntax.Arg.{Arg}
use Rattle.plc_lang.specs.declared.syntax.Arg.TheVariants as args
use Rattle.plc_lang.specs.declared.syntax.GhostVal.{GhostVal}
use Rattle.plc_lang.specs.declared.syntax.GhostVal.TheVariants as values
use Rattle.plc_lang.specs.declared.syntax.Num.{Num}
use Rattle.plc_lang.specs.declared.syntax.Num.TheVariants as nums
use Rattle.plc_lang.specs.declared.syntax.Rel.{Rel}
use Rattle.plc_lang.specs.declared.syntax.Rel.TheVariants as rels
use Rattle.plc_lang.specs.declared.syntax.Var.{Var}
use Rattle.plc_lang.specs.declared.syntax.Var.TheVariants as vars
use Rattle.plc_lang.specs.declared.syntax.Local.{Local}
use Rattle.plc_lang.specs.declared.syntax.Op.{Op}
use Rattle.plc_lang.specs.declared.syntax.Primitive.{Primitive}
use Rattle.plc_lang.specs.declared.syntax.Primitive.TheVariants.{Null, Copy, New, Load, Store, StoreNull, DataSet}
use Rattle.plc_lang.specs.declared.syntax.Primitive.TheVariants.{DataLoad, DataStore, Eq, Ne, IsNull, NotNull, DataTest}
use Rattle.plc_lang.specs.declared.syntax.Primitive.TheVariants.{Refresh, RefreshLoad, RefreshStore, Mark, Unmark}
use Rattle.plc_lang.specs.declared.syntax.Primitive.TheVariants.{MarkTest, Call, Done, Active, Ghost}
use Rattle.plc_lang.specs.Locals.{is_pointer, is_data, is_parameter, is_other_data, locals_or_none as locals_of_op}
use Rattle.plc_lang.specs.Numbering.{places_from}
use Rattle.plc_lang.specs.Shape.{Shape, VarIn, NumIn, ArgIn, PrimitiveIn, PrimitivesIn, init_shape, shape_of}
use Rattle.plc_lang.specs.WellSorted.{FieldIs, WriteIsWellSorted, IsWellSorted, AreWellSorted}
use Rattle.plc_lang.proofs.Numbers.{place_there, values_are_numbered}
use Rattle.plc_flow.specs.declared.flow.Step.{Step}
use Rattle.plc_flow.specs.declared.flow.Flow.{Flow}
use Rattle.plc_logic.specs.declared.clause.Sort.{Sort}
use Rattle.plc_logic.specs.declared.clause.Sort.TheVariants as sorts
use Rattle.plc_logic.specs.declared.clause.Outline.{Outline}
use Rattle.plc_logic.specs.Fit.{pointer_sort, ghost_sort}
use Rattle.plc_ground.specs.declared.terms.Symbol.{Symbol}
use Rattle.plc_ground.specs.declared.terms.Symbol.TheVariants as symbols
use Rattle.plc_ground.specs.declared.terms.Map.TheVariants as maps
use Rattle.plc_vocabulary.specs.declared.acts.Act.{Act}
use Rattle.plc_vocabulary.specs.declared.acts.Act.TheVariants.{Assign, Make, FetchMarked, Update}
use Rattle.plc_vocabulary.specs.declared.obligations.Obligation.{Obligation}
use Rattle.plc_vocabulary.specs.declared.obligations.Obligation.TheVariants.{Start, Enter, Own, Other, Claim}
use Rattle.plc_vocabulary.specs.declared.setting.Variables.{Variables}
use Rattle.plc_vocabulary.specs.Acts.{symbol_at, pointer_symbol, number_symbol, ghost_symbol, data_test, call_act, act_of}
use Rattle.plc_vocabulary.specs.Acts.{mark_of, truth, assign_marked, store_marked, marked_acts, acts_of_primitive, acts_of}
use Rattle.plc_vocabulary.specs.Marks.{program_uses_marks}
use Rattle.plc_vocabulary.specs.Fit.{Fits}
use Rattle.plc_vocabulary.specs.Parts.{prims_of, executed, acting_locals, locals_of_step}
use Rattle.plc_vocabulary.specs.Setting.{local_symbol, variables_of}
use Rattle.plc_vocabulary.specs.Sorts.{field_sort, auxiliary_sort, local_sort, value_sort, map_sort, symbol_sort}
use Rattle.plc_vocabulary.specs.WellSorted.{ActFits, ActsFit}
use Rattle.plc_vocabulary.proofs.Fitting.{executed_sorted}

-- ---- the local that a variable's constant names

abbrev pub Stands : (Local → Bool) → List Local → ℕ → ℕ → Type 0
Stands k ls b p = (n : ℕ) × (l : Local) × (p ≡ b + n) × (slice_get ls n ≡ Some l) × (k l ≡ true)

further : (k : Local → Bool) (l : Local) (ls : List Local) (b p : ℕ) → Stands k ls (b + 1) p → Stands k (l ∷ ls) b p
further k l ls b p s = (suc (s.0), s.1, omega (arith, s.2), s.3, s.4)

pub kind_at_place : (k : Local → Bool) (ls : List Local) (b v p : ℕ) → slice_get (places_from k b ls) v ≡ Some p
    → Stands k ls b p
kind_at_place k [] b v p e = absurd cc
kind_at_place k (l ∷ ls) b v p e = go (λ w f. kind_at_place k ls (b + 1) w p f) (k l) refl v e
  where
    go : ((w : ℕ) → slice_get (places_from k (b + 1) ls) w ≡ Some p → Stands k ls (b + 1) p) → (y : Bool) → k l ≡ y
        → (v : ℕ) → slice_get (cond y (b ∷ places_from k (b + 1) ls) (places_from k (b + 1) ls)) v ≡ Some p
        → Stands k (l ∷ ls) b p
    go rest true h zero f = (let same : b ≡ p = cc in (zero, l, omega (arith, same), refl, h))
    go rest true h (suc w) f = further k l ls b p (rest w f)
    go rest false h w f = further k l ls b p (rest w f)

-- the constant of the v-th local of a kind
pub record Named (k : Local → Bool) (ls : List Local) (v : ℕ) : Type 0 where
  pub place : ℕ
  pub named : Local
  pub symbol : symbol_at (map (local_symbol false) (places_from k 0 ls)) v ≡ symbols.Mine place
  pub there : slice_get ls place ≡ Some named
  pub kind : k named ≡ true

named_local : (k : Local → Bool) (ls : List Local) (v : ℕ) → v < count_by k ls → Named k ls v
named_local k ls v h =
    let found = place_there k ls 0 v h in
    let s = kind_at_place k ls 0 v found.0 found.1 in
    let same : found.0 ≡ s.0 = omega (arith, s.2) in
    record {
      place = s.0;
      named = s.1;
      symbol =
          ap (λ (o : Option Symbol). unwrap_or o symbols.Null)
          (slice_get-map (local_symbol false) (places_from k 0 ls) v ∙ ap (option_map (local_symbol false)) found.1)
          ∙ ap symbols.Mine same;
      there = s.3;
      kind = s.4;
    }

-- parameters and other data locals are the data locals
one_local : (a p rest : Bool) → ((a && p) || rest) ≡ false
    → (cond a 1 0 + cond (not p && not a) 1 0 ≡ cond (not p) 1 0) × (rest ≡ false)
one_local true true rest e = absurd cc
one_local true false rest e = (refl, e)
one_local false true rest e = (refl, e)
one_local false false rest e = (refl, e)

data_count : (ls : List Local) → list_any (λ l. is_parameter l && is_pointer l) ls ≡ false
    → count_by is_parameter ls + count_by is_other_data ls ≡ count_by is_data ls
data_count [] e = refl
data_count (l ∷ ls) e =
    let one = one_local l.param l.pointer (list_any (λ l. is_parameter l && is_pointer l) ls) e in
    let more = data_count ls one.1 in
    let a = sum_by-cons (λ (x : Local). cond (is_parameter x) 1 0) l ls in
    let b = sum_by-cons (λ (x : Local). cond (is_other_data x) 1 0) l ls in
    let d = sum_by-cons (λ (x : Local). cond (is_data x) 1 0) l ls in
    omega (arith, one.0)

-- ---- what is executed names what is there

abbrev IsOf : Shape → List Local → Type 0
IsOf h ls = (h.pointers ≡ count_by is_pointer ls) × (h.values ≡ count_by is_data ls)

pub record Executes (ls : List Local) (ks : List Primitive) : Type 0 where
  pub shape : Shape
  pub locals : IsOf shape ls
  pub names : PrimitivesIn shape ks

pub front_in : (h : Shape) (j : ℕ) (ks : List Primitive) → PrimitivesIn h ks → PrimitivesIn h (take j ks)
front_in h zero ks i = tt
front_in h (suc j) [] i = tt
front_in h (suc j) (k ∷ ks) i = (i.0, front_in h j ks i.1)

abbrev some_shape : ℕ → ℕ → Shape
some_shape p v = record { shared = 0; pointers = p; values = v; fields = 0 }

nothing_executed : (ls : List Local) → Executes ls []
nothing_executed ls =
    record { shape = some_shape (count_by is_pointer ls) (count_by is_data ls); locals = (refl, refl); names = tt }

op_there : (ops : List Op) (i : ℕ) → i < length ops → (o : Op) × (slice_get ops i ≡ Some o)
op_there [] i less = absurd (omega arith)
op_there (o ∷ ops) zero less = (o, refl)
op_there (o ∷ ops) (suc i) less = op_there ops i (omega arith)

op_of_step : (flow : Flow) (outline : Outline) → Fits flow outline → (k : ℕ) (s : Step)
    → slice_get flow.steps k ≡ Some s → (o : Op) × (slice_get flow.file.ops s.op.0 ≡ Some o)
op_of_step flow outline fits k s is =
    let w = fits.flow_fits.well.steps k s is in
    let within = slice_get_within flow.gates s.op.0 w.0 w.1 in
    let same = fits.flow_fits.well.gates in
    op_there flow.file.ops s.op.0 (omega (arith, within, same))

step_executes : (flow : Flow) (outline : Outline) → Fits flow outline → (k : ℕ) (r : Option Step)
    → slice_get flow.steps k ≡ r → Executes (locals_of_step flow r) (prims_of r)
step_executes flow outline fits k None is = nothing_executed []
step_executes flow outline fits k (Some s) is =
    let op = op_of_step flow outline fits k s is in
    let parameters = (fits.sorted.file.each_op s.op.0 op.0 op.1).parameters in
    subst (λ (r : Option Op). Executes (locals_of_op r) s.prims) (sym op.1) (record {
      shape = shape_of flow.file op.0;
      locals = (refl, data_count op.0.locals parameters.data_alone);
      names = fits.flow_fits.steps k s op.0 is op.1;
    })

executes : (flow : Flow) (outline : Outline) (o : Obligation) → Fits flow outline
    → Executes (acting_locals flow o) (executed flow o)
executes flow outline (Start i) fits =
    record { shape = init_shape flow.file; locals = (refl, refl); names = fits.flow_fits.init }
executes flow outline (Enter op c) fits = nothing_executed (acting_locals flow (Enter op c))
executes flow outline (Own k c) fits = step_executes flow outline fits k.0 _ refl
executes flow outline (Other k p c) fits = step_executes flow outline fits k.0 _ refl
executes flow outline (Claim k j) fits =
    let e = step_executes flow outline fits k.0 _ refl in
    record { shape = e.shape; locals = e.locals; names = front_in e.shape j _ e.names }

-- ---- sorts

-- the mark of anything is a truth
pub mark_sort : (flow : Flow) (o : Obligation) (acts : List Act) (s : Symbol)
    → symbol_sort flow o acts (mark_of s) ≡ sorts.Truth
mark_sort flow o acts symbols.Null = refl
mark_sort flow o acts (symbols.Shared i) = refl
mark_sort flow o acts (symbols.Mine k) = refl
mark_sort flow o acts (symbols.Theirs k) = refl
mark_sort flow o acts symbols.New = refl
mark_sort flow o acts (symbols.Bound i) = refl
mark_sort flow o acts (symbols.Loaded r) = refl
mark_sort flow o acts symbols.Yes = refl
mark_sort flow o acts symbols.No = refl
mark_sort flow o acts symbols.Nobody = refl
mark_sort flow o acts symbols.Me = refl
mark_sort flow o acts symbols.You = refl
mark_sort flow o acts (symbols.Value v) = refl
mark_sort flow o acts (symbols.Number n) = refl
mark_sort flow o acts (symbols.MarkShared i) = refl
mark_sort flow o acts (symbols.MarkMine k) = refl
mark_sort flow o acts (symbols.MarkTheirs k) = refl
mark_sort flow o acts (symbols.MarkLoaded r) = refl

module _ (flow : Flow) (o : Obligation) (acts : List Act) (h : Shape) (of : IsOf h (acting_locals flow o)) where
  abbrev ls : List Local
  ls = acting_locals flow o

  abbrev mine : Variables
  mine = variables_of false ls

  abbrev sort : Symbol → Sort
  sort s = symbol_sort flow o acts s

  of_pointer : (v : ℕ) → v < h.pointers → sort (symbol_at mine.pointers v) ≡ sorts.Node
  of_pointer v less =
      let n = named_local is_pointer ls v (omega (arith, of.0)) in
      ap sort n.symbol ∙ ap local_sort n.there ∙ ap pointer_sort n.kind

  of_data : (x : ℕ) → x < h.values → sort (symbol_at mine.values x) ≡ sorts.Number
  of_data x less =
      let n = named_local is_data ls x (omega (arith, of.1)) in
      ap sort n.symbol ∙ ap local_sort n.there ∙ go n.named.pointer n.kind
    where
      go : (b : Bool) → not b ≡ true → pointer_sort b ≡ sorts.Number
      go true e = absurd cc
      go false e = refl

  of_variable : (p : Var) → VarIn h p → sort (pointer_symbol mine p) ≡ sorts.Node
  of_variable (vars.Shared i) there = refl
  of_variable (vars.Local v) there = of_pointer v there

  of_number : (e : Num) → NumIn h e → sort (number_symbol mine e) ≡ sorts.Number
  of_number (nums.Lit n) there = refl
  of_number (nums.Local x) there = of_data x there

  of_field : (wanted : Bool) (f : FieldId) → FieldIs flow.file wanted f
      → map_sort flow.file (maps.Field f) ≡ pointer_sort wanted
  of_field wanted f s = ap field_sort s.1 ∙ ap pointer_sort s.2

  of_values : (g : ℕ) (vs : List ℕ) (v : ℕ) → v < length vs → sorts.Value g ≡ ghost_sort g vs
  of_values g [] v less = absurd (omega arith)
  of_values g (x ∷ vs) v less = refl

  of_ghost : (g : ℕ) (v : GhostVal) → WriteIsWellSorted flow.file g v
      → sort (ghost_symbol flow.file.ghosts g v) ≡ map_sort flow.file (maps.Ghost g)
  of_ghost g (values.Value v) s =
      ap value_sort ((values_are_numbered flow.file.ghosts).there g v s.0 s.1 s.2) ∙ of_values g s.0.values v s.2
      ∙ ap (auxiliary_sort g) (sym s.1)
  of_ghost g values.Me s = ap (ghost_sort g) (sym s.2) ∙ ap (auxiliary_sort g) (sym s.1)
  of_ghost g values.None s = ap (ghost_sort g) (sym s.2) ∙ ap (auxiliary_sort g) (sym s.1)

  test_fits : (r : Rel) (a b : Symbol) → sort a ≡ sort b → ActFits flow.file sort (data_test r a b)
  test_fits rels.Eq a b e = e
  test_fits rels.Ne a b e = e
  test_fits rels.Lt a b e = tt
  test_fits rels.Ge a b e = tt

  call_fits : (b : Bool) (a : Arg) → ArgIn h a → ActFits flow.file sort (call_act mine b a)
  call_fits true (args.Var p) there = (of_variable p there, refl)
  call_fits true args.Null there = tt
  call_fits true args.None there = tt
  call_fits false a there = tt

  pub act_fits : (k : Primitive) → PrimitiveIn h k → IsWellSorted flow.file k
      → ActFits flow.file sort (act_of flow.file.ghosts mine k)
  act_fits (Null p) n s = of_variable p n
  act_fits (Copy p q) n s = of_variable p n.0 ∙ sym (of_variable q n.1)
  act_fits (New p) n s = of_variable p n
  act_fits (Load p q f) n s = (of_variable q n.1, of_variable p n.0, of_field true f s)
  act_fits (Store p f q) n s = (of_variable p n.0, of_variable q n.2 ∙ sym (of_field true f s))
  act_fits (StoreNull p f) n s = (of_variable p n.0, sym (of_field true f s))
  act_fits (DataSet x e) n s = of_data x n.0 ∙ sym (of_number e n.1)
  act_fits (DataLoad x q f) n s = (of_variable q n.1, of_data x n.0, of_field false f s)
  act_fits (DataStore p f e) n s = (of_variable p n.0, of_number e n.2 ∙ sym (of_field false f s))
  act_fits (Eq p q) n s = of_variable p n.0 ∙ sym (of_variable q n.1)
  act_fits (Ne p q) n s = of_variable p n.0 ∙ sym (of_variable q n.1)
  act_fits (IsNull p) n s = of_variable p n
  act_fits (NotNull p) n s = of_variable p n
  act_fits (DataTest r x e) n s = test_fits r _ _ (of_data x n.0 ∙ sym (of_number e n.1))
  act_fits (Refresh p q) n s = of_pointer p n.0 ∙ sym (of_variable q n.1)
  act_fits (RefreshLoad p q f) n s = (of_variable q n.1, of_pointer p n.0, of_field true f s)
  act_fits (RefreshStore p f q) n s = (of_variable p n.0, of_variable q n.2 ∙ sym (of_field true f s))
  act_fits (Mark p q) n s = of_variable p n.0 ∙ sym (of_variable q n.1)
  act_fits (Unmark p q) n s = of_variable p n.0 ∙ sym (of_variable q n.1)
  act_fits (MarkTest p m) n s = tt
  act_fits (Call f a) n s = call_fits (is_retire f) a n
  act_fits (Done f) n s = tt
  act_fits (Active p) n s = tt
  act_fits (Ghost p g v) n s = (of_variable p n, of_ghost g v s)

  -- ---- a program that uses marks

  abbrev Fit : List Act → Type 0
  Fit acts = All (ActFits flow.file sort) acts

  one : (a : Act) → ActFits flow.file sort a → Fit (a ∷ [])
  one a fits = All-cons (ActFits flow.file sort) a [] fits (All-nil (ActFits flow.file sort))

  two : (a b : Act) → ActFits flow.file sort a → ActFits flow.file sort b → Fit (a ∷ b ∷ [])
  two a b first second = All-cons (ActFits flow.file sort) a (b ∷ []) first (one b second)

  of_mark : (s : Symbol) → sort (mark_of s) ≡ sorts.Truth
  of_mark s = mark_sort flow o acts s

  same_marks : (s r : Symbol) → sort (mark_of s) ≡ sort (mark_of r)
  same_marks s r = of_mark s ∙ sym (of_mark r)

  of_truth : (m : Bool) → sort (truth m) ≡ sorts.Truth
  of_truth true = refl
  of_truth false = refl

  assigned_fits : (p e m : Symbol) → sort p ≡ sort e → sort m ≡ sorts.Truth → Fit (assign_marked p e m)
  assigned_fits p e m node mark = two (Assign (mark_of p) m) (Assign p e) (of_mark p ∙ sym mark) node

  copied_fits : (p q : Symbol) → sort p ≡ sorts.Node → sort q ≡ sorts.Node → Fit (assign_marked p q (mark_of q))
  copied_fits p q a b = assigned_fits p q (mark_of q) (a ∙ sym b) (of_mark q)

  read_fits : (p q : Symbol) (f : FieldId) → sort p ≡ sorts.Node → sort q ≡ sorts.Node → FieldIs flow.file true f
      → Fit (FetchMarked p q f ∷ [])
  read_fits p q f a b s = one (FetchMarked p q f) (b, a, of_mark p, of_field true f s)

  stored_fits : (f : FieldId) (p e m : Symbol) → sort p ≡ sorts.Node → sort e ≡ sorts.Node → sort m ≡ sorts.Truth
      → FieldIs flow.file true f → Fit (store_marked f p e m)
  stored_fits f p e m node value mark s =
      two (Update true (maps.Field f) p e) (Update false (maps.FieldMark f) p m) (node, value ∙ sym (of_field true f s))
      (node, mark)

  marked_fits : (k : Primitive) → PrimitiveIn h k → IsWellSorted flow.file k → Fit (marked_acts flow.file.ghosts mine k)
  marked_fits (Null p) n s = assigned_fits _ symbols.Null symbols.No (of_variable p n) refl
  marked_fits (Copy p q) n s = copied_fits _ _ (of_variable p n.0) (of_variable q n.1)
  marked_fits (New p) n s = two _ (Make (pointer_symbol mine p)) (of_mark (pointer_symbol mine p)) (of_variable p n)
  marked_fits (Load p q f) n s = read_fits _ _ f (of_variable p n.0) (of_variable q n.1) s
  marked_fits (Store p f q) n s =
      stored_fits f _ _ _ (of_variable p n.0) (of_variable q n.2) (of_mark (pointer_symbol mine q)) s
  marked_fits (StoreNull p f) n s = stored_fits f _ symbols.Null symbols.No (of_variable p n.0) refl refl s
  marked_fits (DataSet x e) n s = one _ (act_fits (DataSet x e) n s)
  marked_fits (DataLoad x q f) n s = one _ (act_fits (DataLoad x q f) n s)
  marked_fits (DataStore p f e) n s = one _ (act_fits (DataStore p f e) n s)
  marked_fits (Eq p q) n s =
      two _ _ (act_fits (Eq p q) n s) (same_marks (pointer_symbol mine p) (pointer_symbol mine q))
  marked_fits (Ne p q) n s = one _ (act_fits (Ne p q) n s, same_marks (pointer_symbol mine p) (pointer_symbol mine q))
  marked_fits (IsNull p) n s = one _ (act_fits (IsNull p) n s)
  marked_fits (NotNull p) n s = one _ (act_fits (NotNull p) n s)
  marked_fits (DataTest r x e) n s = one _ (act_fits (DataTest r x e) n s)
  marked_fits (Refresh p q) n s = copied_fits _ _ (of_pointer p n.0) (of_variable q n.1)
  marked_fits (RefreshLoad p q f) n s = read_fits _ _ f (of_pointer p n.0) (of_variable q n.1) s
  marked_fits (RefreshStore p f q) n s =
      stored_fits f _ _ _ (of_variable p n.0) (of_variable q n.2) (of_mark (pointer_symbol mine q)) s
  marked_fits (Mark p q) n s = assigned_fits _ _ symbols.Yes (of_variable p n.0 ∙ sym (of_variable q n.1)) refl
  marked_fits (Unmark p q) n s = assigned_fits _ _ symbols.No (of_variable p n.0 ∙ sym (of_variable q n.1)) refl
  marked_fits (MarkTest p m) n s = one _ (of_mark (pointer_symbol mine p) ∙ sym (of_truth m))
  marked_fits (Call f a) n s = one _ (act_fits (Call f a) n s)
  marked_fits (Done f) n s = one _ (act_fits (Done f) n s)
  marked_fits (Active p) n s = one _ (act_fits (Active p) n s)
  marked_fits (Ghost p g v) n s = one _ (act_fits (Ghost p g v) n s)

  primitive_fits : (marked : Bool) (k : Primitive) → PrimitiveIn h k → IsWellSorted flow.file k
      → Fit (acts_of_primitive marked flow.file.ghosts mine k)
  primitive_fits true k n s = marked_fits k n s
  primitive_fits false k n s = one _ (act_fits k n s)

  pub each_fits : (marked : Bool) (ks : List Primitive) → PrimitivesIn h ks → AreWellSorted flow.file ks
      → Fit (acts_of marked flow.file.ghosts mine ks)
  each_fits marked [] n s = All-nil (ActFits flow.file sort)
  each_fits marked (k ∷ ks) n s =
      All-append (ActFits flow.file sort) (acts_of_primitive marked flow.file.ghosts mine k)
      (acts_of marked flow.file.ghosts mine ks) (primitive_fits marked k n.0 s.0) (each_fits marked ks n.1 s.1)

pub acts_fit : (flow : Flow) (outline : Outline) (o : Obligation) → Fits flow outline → ActsFit flow outline o
acts_fit flow outline o fits =
    let e = executes flow outline o fits in
    let marked = program_uses_marks flow outline in
    let acts = acts_of marked flow.file.ghosts (variables_of false (acting_locals flow o)) (executed flow o) in
    each_fits flow o acts e.shape e.locals marked (executed flow o) e.names (executed_sorted flow outline o fits)
