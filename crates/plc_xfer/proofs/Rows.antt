-- What is written in place is the environment that the rule tabulates.
use Rattle.std.proofs.Common.{◌≡◌, ℕ, zero, suc, ◌+◌, ◌<◌, Bool, true, false, ◌||◌, List, [], ◌∷◌, length, get_or, set, map, refl, sym, ap, ◌∙◌, arith, inl, inr, get_or-set_same, get_or-set_other, length-set, zero-add}
use Rattle.std.specs.Prelude.{◌==◌, if◌then◌else◌}
use Rattle.std.proofs.lemmas.Bool.{eq-eqb, ne_eqb, cases_eq}
use Rattle.plc_base.specs.declared.ids.FieldId.{FieldId}
use Rattle.plc_base.specs.declared.ids.FuncId.{FuncId}
use Rattle.plc_lang.specs.declared.syntax.Var.{Var}
use Rattle.plc_lang.specs.declared.syntax.Var.TheVariants.{Shared, Local}
use Rattle.plc_lang.specs.declared.syntax.Num.{Num}
use Rattle.plc_lang.specs.declared.syntax.Rel.{Rel}
use Rattle.plc_lang.specs.declared.syntax.GhostVal.{GhostVal}
use Rattle.plc_lang.specs.declared.syntax.Arg.TheVariants as args
use Rattle.plc_lang.specs.declared.syntax.Primitive.TheVariants.{Null, Copy, New, Load, Store, StoreNull, DataSet, DataLoad, DataStore, Eq, Ne, IsNull, NotNull, DataTest, Refresh, RefreshLoad, RefreshStore, Call, Done, Active, Ghost}
use Rattle.plc_lang.specs.declared.syntax.Primitive.TheVariants.{Mark, Unmark, MarkTest}
use Rattle.plc_auto.specs.declared.event.EvKind.TheVariants as events
use Rattle.plc_auto.specs.declared.observer.Observer.{Observer}
use Rattle.plc_type.specs.declared.env.PtrType.{PtrType}
use Rattle.plc_type.specs.declared.env.Env.{Env}
use Rattle.plc_type.specs.Types.{bare, null_type}
use Rattle.plc_xfer.specs.Calls.{on_other, on_either, other_type, argument_type, beside_type}
use Rattle.plc_xfer.specs.Rules.{type_of, is_variable, table, remade, env_after, shared_type, new_type, equal_type, refreshed_type, placed_type, active_type}
use Rattle.plc_xfer.specs.Writes.{with_type, with_each}

-- ---- lists

table_from : (x : List PtrType) (d : PtrType) (i : ℕ) (f : ℕ → PtrType) → ((k : ℕ) → k < length x → f (i + k) ≡ get_or x k d) → table i (length x) f ≡ x
table_from [] d i f h = refl
table_from (t ∷ x) d i f h =
    let here : f i ≡ t = ap f (omega arith) ∙ h 0 (omega arith) in
    let more : table (i + 1) (length x) f ≡ x = table_from x d (i + 1) f (λ k s. ap f (omega arith) ∙ h (suc k) (omega arith)) in
    cc

-- a list is the table of its types
table_is : (x : List PtrType) (d : PtrType) (f : ℕ → PtrType) → ((k : ℕ) → k < length x → f k ≡ get_or x k d) → table 0 (length x) f ≡ x
table_is x d f h = table_from x d 0 f (λ k s. ap f (zero-add k) ∙ h k s)

-- a type of a list in which one was written
written_at : (x : List PtrType) (k : ℕ) (t d : PtrType) (i : ℕ) → i < length x → (if i == k then t else get_or x i d) ≡ get_or (set x k t) i d
written_at x k t d i s = elim (cases_eq i k) [
  | inl e ↦ (
      let small : k < length x = omega arith in
      ap (λ (c : Bool). if c then t else get_or x i d) (eq-eqb i k e) ∙ sym (ap (λ (j : ℕ). get_or (set x k t) j d) e ∙ get_or-set_same x k t d small))
  | inr n ↦ ap (λ (c : Bool). if c then t else get_or x i d) (ne_eqb i k n) ∙ sym (get_or-set_other x k i t d n)
]

-- the same where two were written
written_if : (a b : Bool) (t u y z : PtrType) → (if a then t else u) ≡ y → (if b then t else y) ≡ z → (if (a || b) then t else u) ≡ z
written_if true true t u y z h k = k
written_if true false t u y z h k = h ∙ k
written_if false true t u y z h k = k
written_if false false t u y z h k = h ∙ k

-- the table of a list in which one type was written, by its tests
table_set : (x : List PtrType) (k : ℕ) (t d : PtrType) (f : ℕ → PtrType) → ((i : ℕ) → i < length x → f i ≡ get_or (set x k t) i d) → table 0 (length x) f ≡ set x k t
table_set x k t d f h =
    let same = length-set x k t in
    ap (λ (n : ℕ). table 0 n f) (sym same) ∙ table_is (set x k t) d f (λ i s. h i (omega arith))

table_set_both : (x : List PtrType) (j k : ℕ) (t d : PtrType) → table 0 (length x) (λ i. if (i == j || i == k) then t else get_or x i d) ≡ set (set x j t) k t
table_set_both x j k t d =
    let same = length-set x j t in
    ap (λ (n : ℕ). table 0 n (λ i. if (i == j || i == k) then t else get_or x i d)) (sym same)
    ∙ table_set (set x j t) k t d (λ i. if (i == j || i == k) then t else get_or x i d) (λ i s.
    written_if (i == j) (i == k) t (get_or x i d) (get_or (set x j t) i d) (get_or (set (set x j t) k t) i d) (written_at x j t d i (omega arith)) (written_at (set x j t) k t d i s))

pub map_length : (f : PtrType → PtrType) (x : List PtrType) → length (map f x) ≡ length x
map_length f [] = refl
map_length f (t ∷ x) = ap suc (map_length f x)

get_map : (f : PtrType → PtrType) (x : List PtrType) (k : ℕ) (d : PtrType) → k < length x → get_or (map f x) k d ≡ f (get_or x k d)
get_map f [] k d s = absurd (omega arith)
get_map f (t ∷ x) zero d s = refl
get_map f (t ∷ x) (suc k) d s = get_map f x k d (omega arith)

-- ---- environments

same_env : (s s' l l' : List PtrType) (w : ℕ) → s ≡ s' → l ≡ l' → (let a : Env = record { shared = s; locals = l; w = w } in a) ≡ record { shared = s'; locals = l'; w = w }
same_env s s' l l' w h k = cc

unchanged : (e : Env) → e ≡ remade e (type_of e) e.w
unfolding remade type_of
unchanged e = sym (same_env (table 0 (length e.shared) (λ i. get_or e.shared i (bare e.w))) e.shared (table 0 (length e.locals) (λ i. get_or e.locals i (bare e.w))) e.locals e.w
    (table_is e.shared (bare e.w) (λ i. get_or e.shared i (bare e.w)) (λ k s. refl))
    (table_is e.locals (bare e.w) (λ i. get_or e.locals i (bare e.w)) (λ k s. refl)))

written : (e : Env) (v : Var) (t : PtrType) → with_type e v t ≡ remade e (λ u. if is_variable u v then t else type_of e u) e.w
unfolding remade type_of with_type
written e (Shared k) t = sym (same_env (table 0 (length e.shared) (λ i. if i == k then t else get_or e.shared i (bare e.w))) (set e.shared k t) (table 0 (length e.locals) (λ i. get_or e.locals i (bare e.w))) e.locals e.w
    (table_set e.shared k t (bare e.w) (λ i. if i == k then t else get_or e.shared i (bare e.w)) (λ i s. written_at e.shared k t (bare e.w) i s))
    (table_is e.locals (bare e.w) (λ i. get_or e.locals i (bare e.w)) (λ k s. refl)))
written e (Local k) t = sym (same_env (table 0 (length e.shared) (λ i. get_or e.shared i (bare e.w))) e.shared (table 0 (length e.locals) (λ i. if i == k then t else get_or e.locals i (bare e.w))) (set e.locals k t) e.w
    (table_is e.shared (bare e.w) (λ i. get_or e.shared i (bare e.w)) (λ k s. refl))
    (table_set e.locals k t (bare e.w) (λ i. if i == k then t else get_or e.locals i (bare e.w)) (λ i s. written_at e.locals k t (bare e.w) i s)))

written_first : (x : List PtrType) (k : ℕ) (t d : PtrType) → table 0 (length x) (λ i. if (i == k || false) then t else get_or x i d) ≡ set x k t
written_first x k t d = table_set x k t d (λ i. if (i == k || false) then t else get_or x i d) (λ i s.
    written_if (i == k) false t (get_or x i d) (get_or (set x k t) i d) (get_or (set x k t) i d) (written_at x k t d i s) refl)

written_both : (e : Env) (p q : Var) (t : PtrType) → with_type (with_type e p t) q t ≡ remade e (λ u. if (is_variable u p || is_variable u q) then t else type_of e u) e.w
unfolding remade type_of with_type
written_both e (Shared j) (Shared k) t = sym (same_env (table 0 (length e.shared) (λ i. if (i == j || i == k) then t else get_or e.shared i (bare e.w))) (set (set e.shared j t) k t) (table 0 (length e.locals) (λ i. get_or e.locals i (bare e.w))) e.locals e.w
    (table_set_both e.shared j k t (bare e.w))
    (table_is e.locals (bare e.w) (λ i. get_or e.locals i (bare e.w)) (λ k s. refl)))
written_both e (Local j) (Local k) t = sym (same_env (table 0 (length e.shared) (λ i. get_or e.shared i (bare e.w))) e.shared (table 0 (length e.locals) (λ i. if (i == j || i == k) then t else get_or e.locals i (bare e.w))) (set (set e.locals j t) k t) e.w
    (table_is e.shared (bare e.w) (λ i. get_or e.shared i (bare e.w)) (λ k s. refl))
    (table_set_both e.locals j k t (bare e.w)))
written_both e (Shared j) (Local k) t = sym (same_env (table 0 (length e.shared) (λ i. if (i == j || false) then t else get_or e.shared i (bare e.w))) (set e.shared j t) (table 0 (length e.locals) (λ i. if i == k then t else get_or e.locals i (bare e.w))) (set e.locals k t) e.w
    (written_first e.shared j t (bare e.w))
    (table_set e.locals k t (bare e.w) (λ i. if i == k then t else get_or e.locals i (bare e.w)) (λ i s. written_at e.locals k t (bare e.w) i s)))
written_both e (Local j) (Shared k) t = sym (same_env (table 0 (length e.shared) (λ i. if i == k then t else get_or e.shared i (bare e.w))) (set e.shared k t) (table 0 (length e.locals) (λ i. if (i == j || false) then t else get_or e.locals i (bare e.w))) (set e.locals j t) e.w
    (table_set e.shared k t (bare e.w) (λ i. if i == k then t else get_or e.shared i (bare e.w)) (λ i s. written_at e.shared k t (bare e.w) i s))
    (written_first e.locals j t (bare e.w)))

-- each type changed alike
table_map : (f : PtrType → PtrType) (x : List PtrType) (d : PtrType) → table 0 (length x) (λ i. f (get_or x i d)) ≡ map f x
table_map f x d =
    let same = map_length f x in
    ap (λ (n : ℕ). table 0 n (λ i. f (get_or x i d))) (sym same)
    ∙ table_is (map f x) d (λ i. f (get_or x i d)) (λ k s. sym (get_map f x k d (omega arith)))

-- and then one written
table_map_set : (f : PtrType → PtrType) (x : List PtrType) (k : ℕ) (t d : PtrType) → table 0 (length x) (λ i. if i == k then t else f (get_or x i d)) ≡ set (map f x) k t
table_map_set f x k t d =
    let same = map_length f x in
    ap (λ (n : ℕ). table 0 n (λ i. if i == k then t else f (get_or x i d))) (sym same)
    ∙ table_set (map f x) k t d (λ i. if i == k then t else f (get_or x i d)) (λ i s.
    ap (λ (u : PtrType). if i == k then t else u) (sym (get_map f x i d (omega arith))) ∙ written_at (map f x) k t d i s)

changed : (f : PtrType → PtrType) (w : ℕ) (e : Env) → with_each f w e ≡ remade e (λ u. f (type_of e u)) w
unfolding remade type_of with_each
changed f w e = sym (same_env (table 0 (length e.shared) (λ i. f (get_or e.shared i (bare e.w)))) (map f e.shared) (table 0 (length e.locals) (λ i. f (get_or e.locals i (bare e.w)))) (map f e.locals) w
    (table_map f e.shared (bare e.w))
    (table_map f e.locals (bare e.w)))

changed_written : (f : PtrType → PtrType) (w : ℕ) (e : Env) (v : Var) (t : PtrType) → with_type (with_each f w e) v t ≡ remade e (λ u. if is_variable u v then t else f (type_of e u)) w
unfolding remade type_of with_type with_each
changed_written f w e (Shared k) t = sym (same_env (table 0 (length e.shared) (λ i. if i == k then t else f (get_or e.shared i (bare e.w)))) (set (map f e.shared) k t) (table 0 (length e.locals) (λ i. f (get_or e.locals i (bare e.w)))) (map f e.locals) w
    (table_map_set f e.shared k t (bare e.w))
    (table_map f e.locals (bare e.w)))
changed_written f w e (Local k) t = sym (same_env (table 0 (length e.shared) (λ i. f (get_or e.shared i (bare e.w)))) (map f e.shared) (table 0 (length e.locals) (λ i. if i == k then t else f (get_or e.locals i (bare e.w)))) (set (map f e.locals) k t) w
    (table_map f e.shared (bare e.w))
    (table_map_set f e.locals k t (bare e.w)))

-- ---- the rows

pub after_null : (o : Observer) (e : Env) (p : Var) → with_type e p null_type ≡ env_after o e (Null p)
unfolding env_after
after_null o e p = written e p null_type

pub after_copy : (o : Observer) (e : Env) (p q : Var) → with_type (with_type e p (shared_type (type_of e q))) q (shared_type (type_of e q)) ≡ env_after o e (Copy p q)
unfolding env_after
after_copy o e p q = written_both e p q (shared_type (type_of e q))

pub after_new : (o : Observer) (e : Env) (p : Var) → with_type e p (new_type o e) ≡ env_after o e (New p)
unfolding env_after
after_new o e p = written e p (new_type o e)

pub after_load : (o : Observer) (e : Env) (p q : Var) (f : FieldId) → with_type e p (bare e.w) ≡ env_after o e (Load p q f)
unfolding env_after
after_load o e p q f = written e p (bare e.w)

pub after_store : (o : Observer) (e : Env) (p : Var) (f : FieldId) (q : Var) → with_type e q (shared_type (type_of e q)) ≡ env_after o e (Store p f q)
unfolding env_after
after_store o e p f q = written e q (shared_type (type_of e q))

pub after_store_null : (o : Observer) (e : Env) (p : Var) (f : FieldId) → e ≡ env_after o e (StoreNull p f)
unfolding env_after
after_store_null o e p f = unchanged e

pub after_data_set : (o : Observer) (e : Env) (x : ℕ) (n : Num) → e ≡ env_after o e (DataSet x n)
unfolding env_after
after_data_set o e x n = unchanged e

pub after_data_load : (o : Observer) (e : Env) (x : ℕ) (q : Var) (f : FieldId) → e ≡ env_after o e (DataLoad x q f)
unfolding env_after
after_data_load o e x q f = unchanged e

pub after_data_store : (o : Observer) (e : Env) (p : Var) (f : FieldId) (n : Num) → e ≡ env_after o e (DataStore p f n)
unfolding env_after
after_data_store o e p f n = unchanged e

pub after_eq : (o : Observer) (e : Env) (p q : Var) → with_type (with_type e p (equal_type (type_of e p) (type_of e q))) q (equal_type (type_of e p) (type_of e q)) ≡ env_after o e (Eq p q)
unfolding env_after
after_eq o e p q = written_both e p q (equal_type (type_of e p) (type_of e q))

pub after_ne : (o : Observer) (e : Env) (p q : Var) → e ≡ env_after o e (Ne p q)
unfolding env_after
after_ne o e p q = unchanged e

pub after_is_null : (o : Observer) (e : Env) (p : Var) → with_type e p null_type ≡ env_after o e (IsNull p)
unfolding env_after
after_is_null o e p = written e p null_type

pub after_not_null : (o : Observer) (e : Env) (p : Var) → e ≡ env_after o e (NotNull p)
unfolding env_after
after_not_null o e p = unchanged e

pub after_data_test : (o : Observer) (e : Env) (r : Rel) (x : ℕ) (n : Num) → e ≡ env_after o e (DataTest r x n)
unfolding env_after
after_data_test o e r x n = unchanged e

pub after_refresh : (o : Observer) (e : Env) (p : ℕ) (q : Var) → with_type (with_type e (Local p) (refreshed_type (type_of e (Local p)) (type_of e q))) q (refreshed_type (type_of e (Local p)) (type_of e q)) ≡ env_after o e (Refresh p q)
unfolding env_after
after_refresh o e p q = written_both e (Local p) q (refreshed_type (type_of e (Local p)) (type_of e q))

pub after_refresh_load : (o : Observer) (e : Env) (p : ℕ) (q : Var) (f : FieldId) → with_type e (Local p) (placed_type (type_of e (Local p))) ≡ env_after o e (RefreshLoad p q f)
unfolding env_after
after_refresh_load o e p q f = written e (Local p) (placed_type (type_of e (Local p)))

pub after_refresh_store : (o : Observer) (e : Env) (p : Var) (f : FieldId) (q : Var) → with_type e q (shared_type (type_of e q)) ≡ env_after o e (RefreshStore p f q)
unfolding env_after
after_refresh_store o e p f q = written e q (shared_type (type_of e q))

pub after_mark : (o : Observer) (e : Env) (p q : Var)
    → with_type (with_type e p (shared_type (type_of e q))) q (shared_type (type_of e q)) ≡ env_after o e (Mark p q)
unfolding env_after
after_mark o e p q = written_both e p q (shared_type (type_of e q))

pub after_unmark : (o : Observer) (e : Env) (p q : Var)
    → with_type (with_type e p (shared_type (type_of e q))) q (shared_type (type_of e q)) ≡ env_after o e (Unmark p q)
unfolding env_after
after_unmark o e p q = written_both e p q (shared_type (type_of e q))

pub after_mark_test : (o : Observer) (e : Env) (p : Var) (m : Bool) → e ≡ env_after o e (MarkTest p m)
unfolding env_after
after_mark_test o e p m = unchanged e

pub after_call_of_none : (o : Observer) (e : Env) (f : FuncId) → with_each (other_type o (events.Call f)) (on_other o (events.Call f) e.w) e ≡ env_after o e (Call f args.None)
unfolding env_after
after_call_of_none o e f = changed (other_type o (events.Call f)) (on_other o (events.Call f) e.w) e

pub after_call_of_null : (o : Observer) (e : Env) (f : FuncId) → with_each (other_type o (events.Call f)) (on_other o (events.Call f) e.w) e ≡ env_after o e (Call f args.Null)
unfolding env_after
after_call_of_null o e f = changed (other_type o (events.Call f)) (on_other o (events.Call f) e.w) e

pub after_call_of : (o : Observer) (e : Env) (f : FuncId) (p : Var) → with_type (with_each (beside_type o f) (on_either o (events.Call f) e.w) e) p (argument_type o f (type_of e p)) ≡ env_after o e (Call f (args.Var p))
unfolding env_after
after_call_of o e f p = changed_written (beside_type o f) (on_either o (events.Call f) e.w) e p (argument_type o f (type_of e p))

pub after_done : (o : Observer) (e : Env) (f : FuncId) → with_each (other_type o (events.Done f)) (on_other o (events.Done f) e.w) e ≡ env_after o e (Done f)
unfolding env_after
after_done o e f = changed (other_type o (events.Done f)) (on_other o (events.Done f) e.w) e

pub after_active : (o : Observer) (e : Env) (p : Var) → with_type e p (active_type o (type_of e p)) ≡ env_after o e (Active p)
unfolding env_after
after_active o e p = written e p (active_type o (type_of e p))

pub after_ghost : (o : Observer) (e : Env) (p : Var) (g : ℕ) (n : GhostVal) → e ≡ env_after o e (Ghost p g n)
unfolding env_after
after_ghost o e p g n = unchanged e

pub ruleset calls = (after_call_of_none, after_call_of_null, after_call_of)

pub ruleset rows = (
  after_null,
  after_copy,
  after_new,
  after_load,
  after_store,
  after_store_null,
  after_data_set,
  after_data_load,
  after_data_store,
  after_eq,
  after_ne,
  after_is_null,
  after_not_null,
  after_data_test,
  after_refresh,
  after_refresh_load,
  after_refresh_store,
  after_mark,
  after_unmark,
  after_mark_test,
  after_done,
  after_active,
  after_ghost,
)
