-- What a step leaves as it was where it writes no part of the state that passes a test: the shared pointers that pass,
-- the locals of another thread, the marks of both, and the maps that pass. So clauses that read these alone are read
-- after it as before.
use Rattle.std.proofs.Common.{arith, ◌≡◌, ℕ, zero, suc, ◌+◌, Bool, true, false, List, [], ◌∷◌, map, refl, sym, ap, ◌∙◌, subst}
use Rattle.std.specs.Prelude.{if◌then◌else◌, ◌||◌, ◌==◌, ◌++◌, cond, Option, Some, None}
use Rattle.std.specs.List.{list_any, count_by, sum_by}
use Rattle.std.proofs.lemmas.List.Sums.{sum_by-append, sum_by-cons}
use Rattle.std.proofs.lemmas.Bool.{eq-eqb}
use Rattle.plc_base.specs.Functions.{is_retire}
use Rattle.plc_lang.specs.declared.syntax.Arg.{Arg}
use Rattle.plc_lang.specs.declared.syntax.Arg.TheVariants as args
use Rattle.plc_lang.specs.declared.syntax.Ghost.{Ghost as AuxiliaryField}
use Rattle.plc_lang.specs.declared.syntax.Rel.{Rel}
use Rattle.plc_lang.specs.declared.syntax.Rel.TheVariants as rels
use Rattle.plc_lang.specs.declared.syntax.Var.{Var}
use Rattle.plc_lang.specs.declared.syntax.Var.TheVariants as vars
use Rattle.plc_lang.specs.declared.syntax.Local.{Local}
use Rattle.plc_lang.specs.declared.syntax.Primitive.{Primitive}
use Rattle.plc_lang.specs.declared.syntax.Primitive.TheVariants.{Null, Copy, New, Load, Store, StoreNull, DataSet}
use Rattle.plc_lang.specs.declared.syntax.Primitive.TheVariants.{DataLoad, DataStore, Eq, DataTest, Refresh}
use Rattle.plc_lang.specs.declared.syntax.Primitive.TheVariants.{RefreshLoad, RefreshStore, Mark, Unmark, Call, Ghost}
use Rattle.plc_lang.specs.Allocation.{is_new}
use Rattle.plc_lang.specs.Numbering.{places_from}
use Rattle.plc_lang.specs.Locals.{is_data}
use Rattle.plc_lang.specs.Locals.{is_pointer as is_pointer_local}
use Rattle.plc_logic.specs.declared.clause.Base.{Base}
use Rattle.plc_logic.specs.declared.clause.Base.TheVariants as bases
use Rattle.plc_logic.specs.declared.clause.Term.{Term}
use Rattle.plc_logic.specs.declared.clause.Term.TheVariants as terms
use Rattle.plc_logic.specs.declared.clause.Literal.{Literal}
use Rattle.plc_logic.specs.declared.clause.Literal.TheVariants as literals
use Rattle.plc_ground.specs.declared.terms.Symbol.{Symbol}
use Rattle.plc_ground.specs.declared.terms.Symbol.TheVariants as symbols
use Rattle.plc_ground.specs.declared.terms.Map.{Map}
use Rattle.plc_ground.specs.declared.terms.Map.TheVariants as maps
use Rattle.plc_base.specs.declared.ids.FieldId.{FieldId}
use Rattle.plc_flow.proofs.Each.{Each, each_both}
use Rattle.plc_ground.proofs.Symbols.{same_symbol_true, same_map_true}
use Rattle.plc_vocabulary.specs.declared.acts.Act.{Act}
use Rattle.plc_vocabulary.specs.declared.acts.Act.TheVariants.{Assign, Make, Fetch, FetchMarked, Update, Test, Differ, Skip}
use Rattle.plc_vocabulary.specs.declared.setting.Variables.{Variables}
use Rattle.plc_vocabulary.specs.Acts.{symbol_at, pointer_symbol, mark_of, data_test, call_act}
use Rattle.plc_vocabulary.specs.Acts.{act_of, marked_acts, acts_of_primitive, acts_of}
use Rattle.plc_vocabulary.specs.Setting.{local_symbol, variables_of}
use Rattle.plc_encoding.specs.declared.execution.Execution.{Execution}
use Rattle.plc_encoding.specs.Execution.{start, current, version, map_now, after, after_all}
use Rattle.plc_encoding.specs.Items.{base_node, read_term, read_mark, read_literal}
use Rattle.plc_symbolic.specs.declared.symbolic.NodeTerm.{NodeTerm}
use Rattle.plc_symbolic.specs.declared.symbolic.NodeTerm.TheVariants.{At}
use Rattle.plc_symbolic.specs.declared.symbolic.SymbolicTerm.TheVariants.{Application, Constant}
use Rattle.plc_ground.specs.Symbols.{same_symbol, same_map}
use Rattle.plc_symbolic.specs.Terms.{term_of}
use Rattle.plc_oblig.specs.declared.touching.Part.{Part}
use Rattle.plc_oblig.specs.declared.touching.Part.TheVariants as parts
use Rattle.plc_oblig.specs.Untouched.{shared_part, written, is_field, is_ghost, is_flag, reaches, term_reads, literal_reads, passes}
use Rattle.plc_oblig.specs.Still.{is_shared, changes}
use Rattle.plc_oblig.proofs.Sides.{given, current_given, marked_fetch}

neither : (b d : Bool) → (b || d) ≡ false → (b ≡ false) × (d ≡ false)
neither true d e = cc
neither false true e = cc
neither false false e = (refl, refl)

nothing_more : (n : ℕ) → n + (0 + 0) ≡ n
nothing_more n = omega arith

abbrev one_if : Bool → ℕ
one_if b = cond b 1 0

-- a count that one more element doesn't change
counted_push : {A : Type 0} (p : A → Bool) (xs : List A) (x : A) → p x ≡ false → count_by p (xs ++ x ∷ []) ≡ count_by p xs
counted_push {A} p xs x e =
    let f : A → ℕ = λ y. one_if (p y) in
    let last : sum_by f (x ∷ []) ≡ 0 + 0 = sum_by-cons f x [] ∙ ap (λ b. one_if b + 0) e in
    sum_by-append f xs (x ∷ []) ∙ ap (λ n. sum_by f xs + n) last ∙ nothing_more (sum_by f xs)

-- ---- what other threads see

module _ (test : Part → Bool) where
  -- the constant is that of a shared pointer that passes or one of another thread, or that of the mark of such a pointer
  abbrev pub is_seen : Symbol → Bool
  is_seen (symbols.Shared i) = test (parts.Shared i)
  is_seen (symbols.Theirs k) = true
  is_seen (symbols.MarkShared i) = test (parts.Shared i)
  is_seen (symbols.MarkTheirs k) = true
  is_seen _ = false

  -- the map is of a part that passes
  abbrev pub is_seen_map : Map → Bool
  is_seen_map (maps.Field f) = test (parts.Field f)
  is_seen_map (maps.Ghost g) = test (parts.Ghost g)
  is_seen_map maps.Retired = test parts.Retired
  is_seen_map (maps.FieldMark f) = test (parts.Field f)

  -- the acting thread's own constants aren't, nor are their marks
  own_unseen : (ps : List ℕ) (k : ℕ) → is_seen (symbol_at (map (local_symbol false) ps) k) ≡ false
  own_unseen [] zero = refl
  own_unseen [] (suc k) = refl
  own_unseen (p ∷ ps) zero = refl
  own_unseen (p ∷ ps) (suc k) = own_unseen ps k

  own_mark_unseen : (ps : List ℕ) (k : ℕ) → is_seen (mark_of (symbol_at (map (local_symbol false) ps) k)) ≡ false
  own_mark_unseen [] zero = refl
  own_mark_unseen [] (suc k) = refl
  own_mark_unseen (p ∷ ps) zero = refl
  own_mark_unseen (p ∷ ps) (suc k) = own_mark_unseen ps k

  -- ---- executions

  -- what is seen has its own constant, and no map of it was written
  pub record Stays (x : Execution) : Type 0 where
    pub seen : (s : Symbol) → is_seen s ≡ true → current x s ≡ s
    pub versions : (m : Map) → is_seen_map m ≡ true → version x m ≡ 0

  pub start_stays : Stays start
  start_stays = record { seen = λ s h. refl; versions = λ m h. refl }

  unlike : (p s : Symbol) → is_seen p ≡ false → is_seen s ≡ true → same_symbol p s ≡ false
  unlike p s own h = go (same_symbol p s) refl
    where
      go : (b : Bool) → same_symbol p s ≡ b → b ≡ false
      go true e = (let same = ap is_seen (same_symbol_true p s e) in cc)
      go false e = refl

  unlike_map : (m n : Map) → is_seen_map m ≡ true → is_seen_map n ≡ false → same_map m n ≡ false
  unlike_map m n h own = go (same_map m n) refl
    where
      go : (b : Bool) → same_map m n ≡ b → b ≡ false
      go true e = (let same = ap is_seen_map (same_map_true m n e) in cc)
      go false e = refl

  stays_given : (x : Execution) (p c : Symbol) (loads : ℕ) → is_seen p ≡ false → Stays x → Stays (given x p c loads)
  stays_given x p c loads own h = record {
    seen = λ s seen. current_given x p c s loads
        ∙ ap (λ (b : Bool). if b then c else current x s) (unlike p s own seen) ∙ h.seen s seen;
    versions = h.versions;
  }

  -- ---- acts

  -- the act gives nothing that is seen a value, and writes no map of it
  abbrev ActStays : Act → Type 0
  ActStays (Assign p e) = is_seen p ≡ false
  ActStays (Make p) = is_seen p ≡ false
  ActStays (Fetch p q f pointer) = is_seen p ≡ false
  ActStays (FetchMarked p q f) = (is_seen p ≡ false) × (is_seen (mark_of p) ≡ false)
  ActStays (Update checked m p e) = is_seen_map m ≡ false
  ActStays (Test a b equal) = Unit {0}
  ActStays (Differ a b) = Unit {0}
  ActStays Skip = Unit {0}

  stays_after : (x : Execution) (a : Act) → ActStays a → Stays x → Stays (after x a)
  stays_after x (Assign p e) own h = stays_given x p (current x e) x.loads own h
  stays_after x (Make p) own h = stays_given x p symbols.New x.loads own h
  stays_after x (Fetch p q f pointer) own h = stays_given x p (symbols.Loaded x.loads) (x.loads + 1) own h
  stays_after x (FetchMarked p q f) own h = subst Stays (sym (marked_fetch x p q f))
      (stays_given (given x (mark_of p) (symbols.MarkLoaded x.loads) x.loads) p (symbols.Loaded x.loads) (x.loads + 1) own.0
      (stays_given x (mark_of p) (symbols.MarkLoaded x.loads) x.loads own.1 h))
  stays_after x (Update checked n p e) own h = record {
    seen = h.seen;
    versions = λ m seen. counted_push (same_map m) x.written n (unlike_map m n seen own) ∙ h.versions m seen;
  }
  stays_after x (Test a b equal) own h = h
  stays_after x (Differ a b) own h = h
  stays_after x Skip own h = h

  stays_after_acts : (x : Execution) (acts : List Act) → Each ActStays acts → Stays x → Stays (after_all x acts)
  stays_after_acts x [] own h = h
  stays_after_acts x (a ∷ more) own h = stays_after_acts (after x a) more own.1 (stays_after x a own.0 h)

  -- ---- primitives

  module _ (ghosts : List AuxiliaryField) (ls : List Local) where
    abbrev mine : Variables
    mine = variables_of false ls

    pointer_own : (p : Var) → passes test (shared_part p) ≡ false → is_seen (pointer_symbol mine p) ≡ false
    pointer_own (vars.Shared i) h = h
    pointer_own (vars.Local k) h = own_unseen (places_from is_pointer_local 0 ls) k

    mark_own : (p : Var) → passes test (shared_part p) ≡ false → is_seen (mark_of (pointer_symbol mine p)) ≡ false
    mark_own (vars.Shared i) h = h
    mark_own (vars.Local k) h = own_mark_unseen (places_from is_pointer_local 0 ls) k

    value_own : (k : ℕ) → is_seen (symbol_at mine.values k) ≡ false
    value_own k = own_unseen (places_from is_data 0 ls) k

    local_own : (k : ℕ) → is_seen (symbol_at mine.pointers k) ≡ false
    local_own k = own_unseen (places_from is_pointer_local 0 ls) k

    local_mark_own : (k : ℕ) → is_seen (mark_of (symbol_at mine.pointers k)) ≡ false
    local_mark_own k = own_mark_unseen (places_from is_pointer_local 0 ls) k

    call_stays : (b : Bool) (a : Arg) → passes test (if b then Some parts.Retired else None) ≡ false → ActStays (call_act mine b a)
    call_stays true (args.Var p) e = e
    call_stays true args.Null e = tt
    call_stays true args.None e = tt
    call_stays false (args.Var p) e = tt
    call_stays false args.Null e = tt
    call_stays false args.None e = tt

    test_stays : (r : Rel) (a b : Symbol) → ActStays (data_test r a b)
    test_stays rels.Eq a b = tt
    test_stays rels.Ne a b = tt
    test_stays rels.Lt a b = tt
    test_stays rels.Ge a b = tt

    plain_stays : (q : Primitive) → passes test (written q) ≡ false → Each ActStays (act_of ghosts mine q ∷ [])
    plain_stays (Null p) e = (pointer_own p e, tt)
    plain_stays (Copy p q) e = (pointer_own p e, tt)
    plain_stays (New p) e = (pointer_own p e, tt)
    plain_stays (Load p q f) e = (pointer_own p e, tt)
    plain_stays (Store p f q) e = (e, tt)
    plain_stays (StoreNull p f) e = (e, tt)
    plain_stays (DataSet k n) e = (value_own k, tt)
    plain_stays (DataLoad k q f) e = (value_own k, tt)
    plain_stays (DataStore p f n) e = (e, tt)
    plain_stays (DataTest r k n) e = (test_stays r _ _, tt)
    plain_stays (Refresh k q) e = (local_own k, tt)
    plain_stays (RefreshLoad k q f) e = (local_own k, tt)
    plain_stays (RefreshStore p f q) e = (e, tt)
    plain_stays (Mark p q) e = (pointer_own p e, tt)
    plain_stays (Unmark p q) e = (pointer_own p e, tt)
    plain_stays (Call f a) e = (call_stays (is_retire f) a e, tt)
    plain_stays (Ghost p g v) e = (e, tt)
    plain_stays _ e = (tt, tt)

    marked_stays : (q : Primitive) → passes test (written q) ≡ false → Each ActStays (marked_acts ghosts mine q)
    marked_stays (Null p) e = (mark_own p e, (pointer_own p e, tt))
    marked_stays (Copy p q) e = (mark_own p e, (pointer_own p e, tt))
    marked_stays (New p) e = (mark_own p e, (pointer_own p e, tt))
    marked_stays (Load p q f) e = ((pointer_own p e, mark_own p e), tt)
    marked_stays (Store p f q) e = (e, (e, tt))
    marked_stays (StoreNull p f) e = (e, (e, tt))
    marked_stays (DataSet k n) e = (value_own k, tt)
    marked_stays (DataLoad k q f) e = (value_own k, tt)
    marked_stays (DataStore p f n) e = (e, tt)
    marked_stays (Eq p q) e = (tt, (tt, tt))
    marked_stays (DataTest r k n) e = (test_stays r _ _, tt)
    marked_stays (Refresh k q) e = (local_mark_own k, (local_own k, tt))
    marked_stays (RefreshLoad k q f) e = ((local_own k, local_mark_own k), tt)
    marked_stays (RefreshStore p f q) e = (e, (e, tt))
    marked_stays (Mark p q) e = (mark_own p e, (pointer_own p e, tt))
    marked_stays (Unmark p q) e = (mark_own p e, (pointer_own p e, tt))
    marked_stays (Call f a) e = (call_stays (is_retire f) a e, tt)
    marked_stays (Ghost p g v) e = (e, tt)
    marked_stays _ e = (tt, tt)

    primitive_stays : (marked : Bool) (q : Primitive) → passes test (written q) ≡ false
        → Each ActStays (acts_of_primitive marked ghosts mine q)
    primitive_stays true q e = marked_stays q e
    primitive_stays false q e = plain_stays q e

    acts_stay : (marked : Bool) (qs : List Primitive) → list_any (λ q. passes test (written q)) qs ≡ false
        → Each ActStays (acts_of marked ghosts mine qs)
    acts_stay marked [] e = tt
    acts_stay marked (q ∷ qs) e =
        let n = neither (passes test (written q)) (list_any (λ r. passes test (written r)) qs) e in
        each_both ActStays (acts_of_primitive marked ghosts mine q) (acts_of marked ghosts mine qs)
        (primitive_stays marked q n.0) (acts_stay marked qs n.1)

    pub stays_after_all : (marked : Bool) (qs : List Primitive) → list_any (λ q. passes test (written q)) qs ≡ false
        → Stays (after_all start (acts_of marked ghosts mine qs))
    stays_after_all marked qs e =
        stays_after_acts start (acts_of marked ghosts mine qs) (acts_stay marked qs e) start_stays

-- ---- a step without changes

nothing_shared : (p : Var) → is_shared p ≡ false → shared_part p ≡ None
nothing_shared (vars.Shared i) e = cc
nothing_shared (vars.Local k) e = refl

nothing_called : (b : Bool) → b ≡ false → (if b then Some parts.Retired else None) ≡ None
nothing_called true e = cc
nothing_called false e = refl

-- what changes nothing writes no part, and makes no node
nothing_written : (q : Primitive) → changes q ≡ false → written q ≡ None
nothing_written (Null p) e = nothing_shared p e
nothing_written (Copy p q) e = nothing_shared p e
nothing_written (New p) e = cc
nothing_written (Load p q f) e = nothing_shared p e
nothing_written (Store p f q) e = cc
nothing_written (StoreNull p f) e = cc
nothing_written (DataStore p f n) e = cc
nothing_written (RefreshStore p f q) e = cc
nothing_written (Mark p q) e = nothing_shared p e
nothing_written (Unmark p q) e = nothing_shared p e
nothing_written (Call f a) e = nothing_called (is_retire f) e
nothing_written (Ghost p g v) e = cc
nothing_written _ e = refl

new_changes : (q : Primitive) → changes q ≡ false → is_new q ≡ false
new_changes (New p) e = cc
new_changes _ e = refl

pub none_written : (test : Part → Bool) (qs : List Primitive) → list_any changes qs ≡ false
    → list_any (λ q. passes test (written q)) qs ≡ false
none_written test [] e = refl
none_written test (q ∷ qs) e =
    let n = neither (changes q) (list_any changes qs) e in
    ap (λ (w : Option Part). passes test w || list_any (λ r. passes test (written r)) qs) (nothing_written q n.0)
    ∙ none_written test qs n.1

pub none_new : (qs : List Primitive) → list_any changes qs ≡ false → list_any is_new qs ≡ false
none_new [] e = refl
none_new (q ∷ qs) e =
    let n = neither (changes q) (list_any changes qs) e in
    ap (λ (b : Bool). b || list_any is_new qs) (new_changes q n.0) ∙ none_new qs n.1

-- ---- clauses are read as before

-- a clause of the acting thread may name no local
abbrev pub BaseStays : Bool → Base → Type 0
BaseStays owner (bases.Shared i) = Unit {0}
BaseStays owner (bases.Local k) = owner ≡ true
BaseStays owner (bases.Bound i) = Unit {0}

abbrev pub TermStays : Bool → Term → Type 0
TermStays owner (terms.Shared i) = Unit {0}
TermStays owner (terms.Local k) = owner ≡ true
TermStays owner (terms.Bound i) = Unit {0}
TermStays owner (terms.FieldOf b f) = BaseStays owner b
TermStays owner (terms.GhostOf b g) = BaseStays owner b
TermStays owner terms.Null = Unit {0}
TermStays owner (terms.Number n) = Unit {0}
TermStays owner (terms.Value g v) = Unit {0}
TermStays owner terms.Me = Unit {0}
TermStays owner terms.Nobody = Unit {0}

abbrev pub LiteralStays : Bool → Literal → Type 0
LiteralStays owner (literals.Same a b is_so) = TermStays owner a × TermStays owner b
LiteralStays owner (literals.Retired b is_so) = BaseStays owner b
LiteralStays owner (literals.Marked t is_so) = TermStays owner t

-- what the literal reads passes
abbrev pub Covers : (Part → Bool) → Literal → Type 0
Covers test l = (part : Part) → literal_reads part l ≡ true → test part ≡ true

left_so : (b d : Bool) → b ≡ true → (b || d) ≡ true
left_so true d e = refl
left_so false d e = cc

right_so : (b d : Bool) → d ≡ true → (b || d) ≡ true
right_so true d e = refl
right_so false d e = e

module _ (ghosts : List AuxiliaryField) (test : Part → Bool) (x : Execution) (stays : Stays test x) (owner : Bool) (names : List NodeTerm) where
  seen_by : (b : Bool) (k : ℕ) → b ≡ true → is_seen test (local_symbol b k) ≡ true
  seen_by true k h = refl
  seen_by false k h = cc

  mark_seen_by : (b : Bool) (k : ℕ) → b ≡ true → is_seen test (mark_of (local_symbol b k)) ≡ true
  mark_seen_by true k h = refl
  mark_seen_by false k h = cc

  -- what reaches a node, or is read in a term, passes
  abbrev BaseCovered : Base → Type 0
  BaseCovered b = (part : Part) → reaches part b ≡ true → test part ≡ true

  abbrev TermCovered : Term → Type 0
  TermCovered t = (part : Part) → term_reads part t ≡ true → test part ≡ true

  base_stays : (b : Base) → BaseStays owner b → BaseCovered b → base_node x owner names b ≡ base_node start owner names b
  base_stays (bases.Shared i) h c = ap At (stays.seen (symbols.Shared i) (c (parts.Shared i) (eq-eqb i i refl)))
  base_stays (bases.Local k) h c = ap At (stays.seen (local_symbol owner k) (seen_by owner k h))
  base_stays (bases.Bound i) h c = refl

  map_stays : (m : Map) (b : Base) → BaseStays owner b → BaseCovered b → is_seen_map test m ≡ true
      → map_now x m (base_node x owner names b) ≡ map_now start m (base_node start owner names b)
  map_stays m b h c seen = ap (λ v. Application m v (base_node x owner names b)) (stays.versions m seen) ∙ ap (λ n. Application m 0 n) (base_stays b h c)

  field_covered : (b : Base) (f : FieldId) → TermCovered (terms.FieldOf b f) → test (parts.Field f) ≡ true
  field_covered b f c = c (parts.Field f) (right_so (reaches (parts.Field f) b) (f.0 == f.0) (eq-eqb f.0 f.0 refl))

  field_base : (b : Base) (f : FieldId) → TermCovered (terms.FieldOf b f) → BaseCovered b
  field_base b f c part e = c part (left_so (reaches part b) (is_field f part) e)

  term_stays : (t : Term) → TermStays owner t → TermCovered t → read_term ghosts x owner names t ≡ read_term ghosts start owner names t
  term_stays (terms.Shared i) h c = ap term_of (base_stays (bases.Shared i) tt c)
  term_stays (terms.Local k) h c = ap term_of (base_stays (bases.Local k) h (λ part e. cc))
  term_stays (terms.Bound i) h c = refl
  term_stays (terms.FieldOf b f) h c = map_stays (maps.Field f) b h (field_base b f c) (field_covered b f c)
  term_stays (terms.GhostOf b g) h c = map_stays (maps.Ghost g) b h (λ part e. c part (left_so (reaches part b) (is_ghost g part) e))
      (c (parts.Ghost g) (right_so (reaches (parts.Ghost g) b) (g == g) (eq-eqb g g refl)))
  term_stays terms.Null h c = refl
  term_stays (terms.Number n) h c = refl
  term_stays (terms.Value g v) h c = refl
  term_stays terms.Me h c = refl
  term_stays terms.Nobody h c = refl

  mark_stays : (t : Term) → TermStays owner t → TermCovered t → read_mark x owner names t ≡ read_mark start owner names t
  mark_stays (terms.Shared i) h c = ap Constant (stays.seen (symbols.MarkShared i) (c (parts.Shared i) (eq-eqb i i refl)))
  mark_stays (terms.Local k) h c = ap Constant (stays.seen (mark_of (local_symbol owner k)) (mark_seen_by owner k h))
  mark_stays (terms.Bound i) h c = refl
  mark_stays (terms.FieldOf b f) h c = map_stays (maps.FieldMark f) b h (field_base b f c) (field_covered b f c)
  mark_stays (terms.GhostOf b g) h c = refl
  mark_stays terms.Null h c = refl
  mark_stays (terms.Number n) h c = refl
  mark_stays (terms.Value g v) h c = refl
  mark_stays terms.Me h c = refl
  mark_stays terms.Nobody h c = refl

  pub literal_stays : (l : Literal) → LiteralStays owner l → Covers test l → read_literal ghosts x owner names l ≡ read_literal ghosts start owner names l
  literal_stays (literals.Same a b is_so) h c =
      ap (λ t. record { left = t; right = read_term ghosts x owner names b; equal = is_so })
      (term_stays a h.0 (λ part e. c part (left_so (term_reads part a) (term_reads part b) e)))
      ∙ ap (λ t. record { left = read_term ghosts start owner names a; right = t; equal = is_so })
      (term_stays b h.1 (λ part e. c part (right_so (term_reads part a) (term_reads part b) e)))
  literal_stays (literals.Retired b is_so) h c =
      ap (λ t. record { left = t; right = Constant symbols.Yes; equal = is_so })
      (map_stays maps.Retired b h (λ part e. c part (left_so (reaches part b) (is_flag part) e))
      (c parts.Retired (right_so (reaches parts.Retired b) true refl)))
  literal_stays (literals.Marked t is_so) h c =
      ap (λ t. record { left = t; right = Constant symbols.Yes; equal = is_so }) (mark_stays t h c)
