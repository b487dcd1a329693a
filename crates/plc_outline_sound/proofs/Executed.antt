-- The executed part is true: its clauses are what acts do.
use Rattle.std.proofs.Common.{◌≡◌, ℕ, suc, ◌+◌, Bool, true, false, not, ◌&&◌, ◌==◌, List, [], ◌∷◌}
use Rattle.std.proofs.Common.{refl, sym, ap, ◌∙◌, subst, arith, inl, inr, ◌⊎◌}
use Rattle.std.specs.Prelude.{◌≢◌, if◌then◌else◌, flat_map}
use Rattle.std.proofs.lemmas.Bool.{eq-eqb, ne_eqb, eqb-true, cases_eq, not-true, both_ways}
use Rattle.plc_logic.specs.declared.clause.Sort.TheVariants as sorts
use Rattle.plc_ground.specs.declared.terms.Symbol.{Symbol}
use Rattle.plc_ground.specs.declared.terms.Symbol.TheVariants as symbols
use Rattle.plc_ground.specs.declared.terms.Map.{Map}
use Rattle.plc_ground.specs.declared.terms.Map.TheVariants as maps
use Rattle.plc_vocabulary.specs.declared.acts.Act.{Act}
use Rattle.plc_vocabulary.specs.declared.acts.Act.TheVariants.{Assign, Make, Fetch, FetchMarked, Update, Test}
use Rattle.plc_vocabulary.specs.declared.acts.Act.TheVariants.{Differ, Skip}
use Rattle.plc_vocabulary.specs.Acts.{mark_of}
use Rattle.plc_encoding.specs.declared.execution.Execution.{Execution}
use Rattle.plc_encoding.specs.Execution.{current, version, held, map_now, after, after_all, not_null, update_at}
use Rattle.plc_encoding.specs.Execution.{if_checked, test_lit, act_clauses, executed_clauses}
use Rattle.plc_symbolic.specs.declared.symbolic.NodeTerm.{NodeTerm}
use Rattle.plc_symbolic.specs.declared.symbolic.NodeTerm.TheVariants.{At}
use Rattle.plc_symbolic.specs.declared.symbolic.SymbolicTerm.{SymbolicTerm}
use Rattle.plc_symbolic.specs.declared.symbolic.SymbolicTerm.TheVariants.{Constant, Application}
use Rattle.plc_symbolic.specs.declared.symbolic.SymbolicLit.{SymbolicLit}
use Rattle.plc_ground.specs.Symbols.{same_symbol}
use Rattle.plc_symbolic.specs.Terms.{term_of, is, is_not, null}
use Rattle.plc_flow.proofs.Each.{Each, each_both, each_so}
use Rattle.plc_ground.proofs.Symbols.{same_symbol_true, same_map_refl}
use Rattle.plc_oblig.proofs.Lists.{each_flat}
use Rattle.plc_outline_sound.proofs.Acts.{View, tests, goes_checked, with_symbol, with_map, changed, act_after, fetched}
use Rattle.plc_outline_sound.proofs.Acts.{mark_fetched, IsNamed, Acted, ActsRun}
use Rattle.plc_oblig.proofs.Sides.{given, current_given, marked_fetch}
use Rattle.plc_outline_sound.proofs.Current.{version_next}
use Rattle.plc_outline_sound.proofs.Fetches.{is_fetch}
use Rattle.plc_outline_sound.proofs.Meaning.{Meaning, node_in, IsTrueIn, node_value, node_sort, equal_is_true, unequal_is_true}
use Rattle.plc_outline_sound.proofs.Meaning.{later_is_true}
use Rattle.plc_outline_sound.proofs.Future.{Foresees, map_now as map_is, first_load, later}

-- each constant that is current for one that primitives name has its value, and its sort
pub record IsCurrent (e : Meaning) (x : Execution) (v : View) : Type 0 where
  pub value : (s : Symbol) → IsNamed s → e.symbol (current x s) ≡ v.symbol s
  pub sort : (s : Symbol) → e.symbol_sort (current x s) ≡ e.symbol_sort s

-- what an act puts somewhere is of the sort that stands there; k fields were read before
abbrev pub ActIsSorted : Meaning → ℕ → Act → Type 0
ActIsSorted e k (Assign p s) = e.symbol_sort s ≡ e.symbol_sort p
ActIsSorted e k (Make p) = e.symbol_sort symbols.New ≡ e.symbol_sort p
ActIsSorted e k (Fetch p q f pointer) =
    (e.map_sort (maps.Field f) ≡ e.symbol_sort (symbols.Loaded k))
    × (e.symbol_sort (symbols.Loaded k) ≡ e.symbol_sort p)
ActIsSorted e k (FetchMarked p q f) =
    ((e.map_sort (maps.Field f) ≡ e.symbol_sort (symbols.Loaded k))
    × (e.symbol_sort (symbols.Loaded k) ≡ e.symbol_sort p))
    × ((e.map_sort (maps.FieldMark f) ≡ e.symbol_sort (symbols.MarkLoaded k))
    × (e.symbol_sort (symbols.MarkLoaded k) ≡ e.symbol_sort (mark_of p)))
ActIsSorted e k (Update checked m p s) = (e.symbol_sort p ≡ sorts.Node) × (e.map_sort m ≡ e.symbol_sort s)
ActIsSorted e k (Test a b equal) = e.symbol_sort a ≡ e.symbol_sort b
ActIsSorted e k (Differ a b) = Unit {0}
ActIsSorted e k Skip = Unit {0}

abbrev pub AreSorted : Meaning → Execution → List Act → Type 0
AreSorted e x [] = Unit {0}
AreSorted e x (a ∷ more) = ActIsSorted e x.loads a × AreSorted e (after x a) more

not_zero : (n : ℕ) → not (n == 0) ≡ true → n ≢ 0
not_zero n h same = both_ways (n == 0) (not-true (n == 0) h) (eq-eqb n 0 same)

-- ---- current constants

is_given : (e : Meaning) (x : Execution) (v : View) → IsCurrent e x v → (p c : Symbol) (n count loads : ℕ)
    → e.symbol c ≡ n → e.symbol_sort c ≡ e.symbol_sort p → IsCurrent e (given x p c loads) (with_symbol v p n count)
unfolding with_symbol
is_given e x v now p c n count loads same sort = record {
  value = λ s named. ap e.symbol (current_given x p c s loads) ∙ values s (same_symbol p s) (now.value s named);
  sort = λ s. ap e.symbol_sort (current_given x p c s loads) ∙ sorts_of s (same_symbol p s) refl;
}
  where
    values : (s : Symbol) (b : Bool) → e.symbol (current x s) ≡ v.symbol s
        → e.symbol (if b then c else current x s) ≡ (if b then n else v.symbol s)
    values s true h = same
    values s false h = h

    sorts_of : (s : Symbol) (b : Bool) → same_symbol p s ≡ b
        → e.symbol_sort (if b then c else current x s) ≡ e.symbol_sort s
    sorts_of s true h = sort ∙ ap e.symbol_sort (same_symbol_true p s h)
    sorts_of s false h = now.sort s

module _ (e : Meaning) (node limit : ℕ) (is_null : e.symbol symbols.Null ≡ 0)
    (is_new : e.symbol symbols.New ≡ node) where
  loaded : (x : Execution) (v : View) (a : Act) (more : List Act) → Foresees e x v (a ∷ more) → is_fetch a ≡ true
      → e.symbol (symbols.Loaded x.loads) ≡ fetched v a
  loaded x v a more h reads = h.loads x.loads (omega arith) ∙ first_load fetched x v a more reads

  mark_loaded : (x : Execution) (v : View) (a : Act) (more : List Act) → Foresees e x v (a ∷ more) → is_fetch a ≡ true
      → e.symbol (symbols.MarkLoaded x.loads) ≡ mark_fetched v a
  mark_loaded x v a more h reads = h.marks x.loads (omega arith) ∙ first_load mark_fetched x v a more reads

  current_after : (x : Execution) (v : View) (a : Act) (more : List Act) → Foresees e x v (a ∷ more)
      → IsCurrent e x v → ActIsSorted e x.loads a → Acted node limit v a → IsCurrent e (after x a) (act_after v a)
  unfolding with_map
  current_after x v (Assign p s) more f now sorted acted =
      is_given e x v now p (current x s) (v.symbol s) v.count x.loads (now.value s acted.names) (now.sort s ∙ sorted)
  current_after x v (Make p) more f now sorted acted =
      is_given e x v now p symbols.New v.count (suc v.count) x.loads (is_new ∙ acted.makes) sorted
  current_after x v (Fetch p q g pointer) more f now sorted acted =
      is_given e x v now p (symbols.Loaded x.loads) (v.map (maps.Field g) (v.symbol q)) v.count (x.loads + 1)
      (loaded x v (Fetch p q g pointer) more f refl) sorted.1
  current_after x v (FetchMarked p q g) more f now sorted acted =
      let m = v.map (maps.FieldMark g) (v.symbol q) in
      let n = v.map (maps.Field g) (v.symbol q) in
      let marked = is_given e x v now (mark_of p) (symbols.MarkLoaded x.loads) m v.count x.loads
      (mark_loaded x v (FetchMarked p q g) more f refl) sorted.1.1 in
      let both = is_given e _ _ marked p (symbols.Loaded x.loads) n v.count (x.loads + 1)
      (loaded x v (FetchMarked p q g) more f refl) sorted.0.1 in
      subst (λ y. IsCurrent e y (act_after v (FetchMarked p q g))) (sym (marked_fetch x p q g)) both
  current_after x v (Update checked m p s) more f now sorted acted = record { value = now.value; sort = now.sort }
  current_after x v (Test a b equal) more f now sorted acted = now
  current_after x v (Differ a b) more f now sorted acted = now
  current_after x v Skip more f now sorted acted = now

  -- ---- clauses

  not_null_true : (x : Execution) (v : View) → IsCurrent e x v → (p : Symbol) → IsNamed p
      → not (v.symbol p == 0) ≡ true → IsTrueIn e (not_null x p)
  not_null_true x v now p named h = unequal_is_true e (held x p) null []
      (λ same. not_zero (v.symbol p) h (sym (now.value p named) ∙ same ∙ is_null))

  updated : (x : Execution) (v : View) (checked : Bool) (m : Map) (p s : Symbol) (more : List Act)
      → Foresees e x v (Update checked m p s ∷ more) → (n : ℕ)
      → e.version m (version x m + 1) n ≡ changed (v.map m) (v.symbol p) (v.symbol s) n
  unfolding with_map
  updated x v checked m p s more f n =
      let a = Update checked m p s in
      let now = map_is e (after x a) (act_after v a) more (later e x v a more f) m n in
      ap (λ k. e.version m k n) (sym (version_next x checked m p s)) ∙ now ∙ rw (same_map_refl m) refl

  update_true : (x : Execution) (v : View) (checked : Bool) (m : Map) (p s : Symbol) (more : List Act)
      → Foresees e x v (Update checked m p s ∷ more) → IsCurrent e x v
      → ActIsSorted e x.loads (Update checked m p s) → Acted node limit v (Update checked m p s) → (t : NodeTerm)
      → node_sort e t ≡ sorts.Node
      → Each (IsTrueIn e) (update_at m (version x m) (held x p) (held x s) t)
  update_true x v checked m p s more f now sorted acted t is_node = go (cases_eq (node_in e t) (v.symbol p))
    where
      next : SymbolicTerm
      next = Application m (version x m + 1) t

      there : e.symbol (current x p) ≡ v.symbol p
      there = now.value p acted.names.0

      put : e.symbol (current x s) ≡ v.symbol s
      put = now.value s acted.names.1

      is_now : e.version m (version x m + 1) (node_in e t) ≡ changed (v.map m) (v.symbol p) (v.symbol s) (node_in e t)
      is_now = updated x v checked m p s more f (node_in e t)

      go : (node_in e t ≡ v.symbol p) ⊎ (node_in e t ≡ v.symbol p → ⊥)
          → Each (IsTrueIn e) (update_at m (version x m) (held x p) (held x s) t)
      go (inl same) = (
        later_is_true e (is_not (term_of t) (held x p)) (is (Application m (version x m + 1) t) (held x s) ∷ [])
            (equal_is_true e (Application m (version x m + 1) t) (held x s) [] (record {
              sort = sorted.1 ∙ sym (now.sort s);
              value = is_now ∙ rw (eq-eqb (node_in e t) (v.symbol p) same) (sym put);
            })),
        (
          equal_is_true e (term_of t) (held x p)
              (is (Application m (version x m + 1) t) (Application m (version x m) t) ∷ []) (record {
                sort = is_node ∙ sym sorted.0 ∙ sym (now.sort p);
                value = node_value e t ∙ same ∙ sym there;
              }),
          tt,
        ),
      )
      go (inr other) = (
        unequal_is_true e (term_of t) (held x p) (is (Application m (version x m + 1) t) (held x s) ∷ [])
            (λ same. other (sym (node_value e t) ∙ same ∙ there)),
        (
          later_is_true e (is (term_of t) (held x p))
              (is (Application m (version x m + 1) t) (Application m (version x m) t) ∷ [])
              (equal_is_true e (Application m (version x m + 1) t) (Application m (version x m) t) [] (record {
                sort = refl;
                value = is_now ∙ rw (ne_eqb (node_in e t) (v.symbol p) other)
                    (sym (map_is e x v (Update checked m p s ∷ more) f m (node_in e t)));
              })),
          tt,
        ),
      )

  checked_true : (x : Execution) (v : View) → IsCurrent e x v → (checked : Bool) (p : Symbol) → IsNamed p
      → goes_checked v checked p ≡ true → Each (IsTrueIn e) (if_checked checked (not_null x p))
  checked_true x v now true p named h = (not_null_true x v now p named h, tt)
  checked_true x v now false p named h = tt

  differ_true : (x : Execution) (v : View) → IsCurrent e x v → (a b : Symbol) (more : List SymbolicLit) → IsNamed a
      → IsNamed b → (v.symbol a == v.symbol b) ≡ false → IsTrueIn e (is_not (held x a) (held x b) ∷ more)
  differ_true x v now a b more an bn h = unequal_is_true e (held x a) (held x b) more (λ same.
      both_ways (v.symbol a == v.symbol b) h
      (eq-eqb (v.symbol a) (v.symbol b) (sym (now.value a an) ∙ same ∙ now.value b bn)))

  test_true : (x : Execution) (v : View) → IsCurrent e x v → (a b : Symbol) (equal : Bool) → IsNamed a × IsNamed b
      → e.symbol_sort a ≡ e.symbol_sort b → tests equal (v.symbol a) (v.symbol b) ≡ true
      → IsTrueIn e (test_lit equal (held x a) (held x b) ∷ [])
  test_true x v now a b true named sorted h = equal_is_true e (held x a) (held x b) [] (record {
    sort = now.sort a ∙ sorted ∙ sym (now.sort b);
    value = now.value a named.0 ∙ eqb-true (v.symbol a) (v.symbol b) h ∙ sym (now.value b named.1);
  })
  test_true x v now a b false named sorted h =
      differ_true x v now a b [] named.0 named.1 (not-true (v.symbol a == v.symbol b) h)

  -- the constant that was read is what the map has at the node
  read_true : (x : Execution) (v : View) (a : Act) (more : List Act) → Foresees e x v (a ∷ more) → IsCurrent e x v
      → (m : Map) (c q : Symbol) → IsNamed q → e.map_sort m ≡ e.symbol_sort c → e.symbol c ≡ v.map m (v.symbol q)
      → IsTrueIn e (is (Constant c) (map_now x m (At (current x q))) ∷ [])
  read_true x v a more f now m c q named sorted read = equal_is_true e (Constant c) (map_now x m (At (current x q))) []
      (record {
        sort = sym sorted;
        value = read ∙ sym (map_is e x v (a ∷ more) f m (e.symbol (current x q)) ∙ ap (v.map m) (now.value q named));
      })

  -- one of the two pairs differs
  either_differs : (x : Execution) (v : View) → IsCurrent e x v → (a b c d : Symbol)
      → (IsNamed a × IsNamed b) × (IsNamed c × IsNamed d)
      → not ((v.symbol a == v.symbol b) && (v.symbol c == v.symbol d)) ≡ true
      → IsTrueIn e (is_not (held x a) (held x b) ∷ is_not (held x c) (held x d) ∷ [])
  either_differs x v now a b c d named h = go (v.symbol a == v.symbol b) refl h
    where
      go : (t : Bool) → (v.symbol a == v.symbol b) ≡ t → not (t && (v.symbol c == v.symbol d)) ≡ true
          → IsTrueIn e (is_not (held x a) (held x b) ∷ is_not (held x c) (held x d) ∷ [])
      go true is h = later_is_true e (is_not (held x a) (held x b)) (is_not (held x c) (held x d) ∷ [])
          (differ_true x v now c d [] named.1.0 named.1.1 (not-true (v.symbol c == v.symbol d) h))
      go false is h = differ_true x v now a b (is_not (held x c) (held x d) ∷ []) named.0.0 named.0.1 is

  act_true : (nodes : List NodeTerm) → Each (λ t. node_sort e t ≡ sorts.Node) nodes → (x : Execution) (v : View)
      (a : Act) (more : List Act) → Foresees e x v (a ∷ more) → IsCurrent e x v → ActIsSorted e x.loads a
      → Acted node limit v a → Each (IsTrueIn e) (act_clauses nodes x a)
  act_true nodes are x v (Assign p s) more f now sorted acted = tt
  act_true nodes are x v (Make p) more f now sorted acted = tt
  act_true nodes are x v (Fetch p q g pointer) more f now sorted acted = (
    not_null_true x v now q acted.names acted.went,
    (
      read_true x v (Fetch p q g pointer) more f now (maps.Field g) (symbols.Loaded x.loads) q acted.names sorted.0
          (loaded x v (Fetch p q g pointer) more f refl),
      tt,
    ),
  )
  act_true nodes are x v (FetchMarked p q g) more f now sorted acted = (
    not_null_true x v now q acted.names acted.went,
    (
      read_true x v (FetchMarked p q g) more f now (maps.Field g) (symbols.Loaded x.loads) q acted.names sorted.0.0
          (loaded x v (FetchMarked p q g) more f refl),
      (
        read_true x v (FetchMarked p q g) more f now (maps.FieldMark g) (symbols.MarkLoaded x.loads) q acted.names
            sorted.1.0 (mark_loaded x v (FetchMarked p q g) more f refl),
        tt,
      ),
    ),
  )
  act_true nodes are x v (Update checked m p s) more f now sorted acted =
      each_both (IsTrueIn e) (if_checked checked (not_null x p))
      (flat_map (update_at m (version x m) (held x p) (held x s)) nodes)
      (checked_true x v now checked p acted.names.0 acted.went)
      (each_flat (IsTrueIn e) (update_at m (version x m) (held x p) (held x s)) nodes
      (each_so (λ t. node_sort e t ≡ sorts.Node)
      (λ t. Each (IsTrueIn e) (update_at m (version x m) (held x p) (held x s) t))
      (update_true x v checked m p s more f now sorted acted) nodes are))
  act_true nodes are x v (Test a b equal) more f now sorted acted =
      (test_true x v now a b equal acted.names sorted acted.went, tt)
  act_true nodes are x v (Differ a b) more f now sorted acted =
      (either_differs x v now a b (mark_of a) (mark_of b) acted.names acted.went, tt)
  act_true nodes are x v Skip more f now sorted acted = tt

  -- the whole executed part, and what is current after it
  pub record IsExecuted (nodes : List NodeTerm) (x : Execution) (acts : List Act) (w : View) : Type 0 where
    pub clauses : Each (IsTrueIn e) (executed_clauses nodes x acts)
    pub now : IsCurrent e (after_all x acts) w
    pub entries : (m : Map) (n : ℕ) → e.version m (version (after_all x acts) m) n ≡ w.map m n

  pub is_executed : (nodes : List NodeTerm) → Each (λ t. node_sort e t ≡ sorts.Node) nodes
      → (x : Execution) (v : View) (acts : List Act) (w : View) → Foresees e x v acts → IsCurrent e x v
      → AreSorted e x acts → ActsRun node limit v acts w → IsExecuted nodes x acts w
  is_executed nodes are x v [] w f now sorted run = record {
    clauses = tt;
    now = subst (IsCurrent e x) run now;
    entries = λ m n. map_is e x v [] f m n ∙ ap (λ (w : View). w.map m n) run;
  }
  is_executed nodes are x v (a ∷ more) w f now sorted run =
      let next = current_after x v a more f now sorted.0 run.0 in
      let rest = is_executed nodes are (after x a) (act_after v a) more w (later e x v a more f) next sorted.1 run.1 in
      record {
        clauses = each_both (IsTrueIn e) (act_clauses nodes x a) (executed_clauses nodes (after x a) more)
            (act_true nodes are x v a more f now sorted.0 run.0) rest.clauses;
        now = rest.now;
        entries = rest.entries;
      }
