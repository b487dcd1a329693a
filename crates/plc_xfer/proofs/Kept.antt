-- What each part of a rule keeps, each row keeps: said once of two environments, for the facts on one environment and for the order of two.
use Rattle.std.proofs.Common.{ℕ, Bool, true, false, ◌||◌}
use Rattle.std.specs.Prelude.{if◌then◌else◌}
use Rattle.plc_base.specs.declared.ids.FuncId.{FuncId}
use Rattle.plc_lang.specs.declared.syntax.Var.{Var}
use Rattle.plc_lang.specs.declared.syntax.Var.TheVariants.{Local}
use Rattle.plc_lang.specs.declared.syntax.Arg.{Arg}
use Rattle.plc_lang.specs.declared.syntax.Arg.TheVariants as args
use Rattle.plc_lang.specs.declared.syntax.Primitive.{Primitive}
use Rattle.plc_lang.specs.declared.syntax.Primitive.TheVariants.{Null, Copy, New, Load, Store, StoreNull, DataSet, DataLoad, DataStore, Eq, Ne, IsNull, NotNull, DataTest, Refresh, RefreshLoad, RefreshStore, Call, Done, Active, Ghost}
use Rattle.plc_lang.specs.declared.syntax.Primitive.TheVariants.{Mark, Unmark, MarkTest}
use Rattle.plc_auto.specs.declared.event.EvKind.{EvKind}
use Rattle.plc_auto.specs.declared.event.EvKind.TheVariants as events
use Rattle.plc_auto.specs.declared.observer.Observer.{Observer}
use Rattle.plc_type.specs.declared.env.PtrType.{PtrType}
use Rattle.plc_type.specs.declared.env.Env.{Env}
use Rattle.plc_type.specs.Types.{bare, null_type}
use Rattle.plc_xfer.specs.Calls.{on_other, on_either, other_type, argument_type, beside_type}
use Rattle.plc_xfer.specs.Rules.{type_of, is_variable, effect, effect_anywhere, call_effect, call_anywhere, shared_type, new_type, equal_type, refreshed_type, placed_type, active_type}

-- where any address may stand
pub record KeepsAnywhere (o : Observer) (Q : ℕ → ℕ → Type 0) : Type 0 where
  pub other : (kind : EvKind) (v w : ℕ) → Q v w → Q (on_other o kind v) (on_other o kind w)
  pub named : (kind : EvKind) (v w : ℕ) → Q v w → Q (on_either o kind v) (on_either o kind w)

-- a relation of two types, each beside where any address may stand
pub record KeepsTypes (o : Observer) (Q : ℕ → ℕ → Type 0) (R : ℕ → PtrType → ℕ → PtrType → Type 0) : Type 0 where
  pub null : (v w : ℕ) → R v null_type w null_type
  pub bare_one : (v w : ℕ) → Q v w → R v (bare v) w (bare w)
  pub new_one : (a b : Env) → Q a.w b.w → R a.w (new_type o a) b.w (new_type o b)
  pub shared : (v w : ℕ) (t u : PtrType) → R v t w u → R v (shared_type t) w (shared_type u)
  pub equal : (v w : ℕ) (t u x y : PtrType) → R v t w u → R v x w y → R v (equal_type t x) w (equal_type u y)
  pub refreshed : (v w : ℕ) (t u x y : PtrType) → R v t w u → R v x w y → R v (refreshed_type t x) w (refreshed_type u y)
  pub placed : (v w : ℕ) (t u : PtrType) → R v t w u → R v (placed_type t) w (placed_type u)
  pub active : (v w : ℕ) (t u : PtrType) → R v t w u → R v (active_type o t) w (active_type o u)
  pub other : (kind : EvKind) (v w : ℕ) (t u : PtrType) → R v t w u → R (on_other o kind v) (other_type o kind t) (on_other o kind w) (other_type o kind u)
  pub argument : (f : FuncId) (v w : ℕ) (t u : PtrType) → R v t w u → R (on_either o (events.Call f) v) (argument_type o f t) (on_either o (events.Call f) w) (argument_type o f u)
  pub beside : (f : FuncId) (v w : ℕ) (t u : PtrType) → R v t w u → R (on_either o (events.Call f) v) (beside_type o f t) (on_either o (events.Call f) w) (beside_type o f u)

if_kept : (R : PtrType → PtrType → Type 0) (c : Bool) (t u x y : PtrType) → R t u → R x y → R (if c then t else x) (if c then u else y)
if_kept R true t u x y h k = h
if_kept R false t u x y h k = k

call_anywhere_kept : (o : Observer) (Q : ℕ → ℕ → Type 0) → KeepsAnywhere o Q → (a b : Env) (f : FuncId) (arg : Arg) → Q a.w b.w → Q (call_anywhere o a f arg) (call_anywhere o b f arg)
call_anywhere_kept o Q keeps a b f args.None w = keeps.other (events.Call f) a.w b.w w
call_anywhere_kept o Q keeps a b f args.Null w = keeps.other (events.Call f) a.w b.w w
call_anywhere_kept o Q keeps a b f (args.Var p) w = keeps.named (events.Call f) a.w b.w w

pub anywhere_kept : (o : Observer) (Q : ℕ → ℕ → Type 0) → KeepsAnywhere o Q → (a b : Env) (k : Primitive) → Q a.w b.w → Q (effect_anywhere o a k) (effect_anywhere o b k)
anywhere_kept o Q keeps a b (Call f arg) w = call_anywhere_kept o Q keeps a b f arg w
anywhere_kept o Q keeps a b (Done f) w = keeps.other (events.Done f) a.w b.w w
anywhere_kept o Q keeps a b k w = w

call_kept : (o : Observer) (Q : ℕ → ℕ → Type 0) (R : ℕ → PtrType → ℕ → PtrType → Type 0) → KeepsTypes o Q R → (a b : Env) (f : FuncId) (arg : Arg) → ((v : Var) → R a.w (type_of a v) b.w (type_of b v)) → (v : Var) → R (call_anywhere o a f arg) (call_effect o a f arg v) (call_anywhere o b f arg) (call_effect o b f arg v)
call_kept o Q R keeps a b f args.None held v = keeps.other (events.Call f) a.w b.w _ _ (held v)
call_kept o Q R keeps a b f args.Null held v = keeps.other (events.Call f) a.w b.w _ _ (held v)
call_kept o Q R keeps a b f (args.Var p) held v =
    if_kept (λ t u. R (on_either o (events.Call f) a.w) t (on_either o (events.Call f) b.w) u) (is_variable v p) _ _ _ _
    (keeps.argument f a.w b.w (type_of a p) (type_of b p) (held p))
    (keeps.beside f a.w b.w (type_of a v) (type_of b v) (held v))

pub effect_kept : (o : Observer) (Q : ℕ → ℕ → Type 0) (R : ℕ → PtrType → ℕ → PtrType → Type 0) → KeepsTypes o Q R → (a b : Env) (k : Primitive) → Q a.w b.w → ((v : Var) → R a.w (type_of a v) b.w (type_of b v)) → (v : Var) → R (effect_anywhere o a k) (effect o a k v) (effect_anywhere o b k) (effect o b k v)
effect_kept o Q R keeps a b (Null p) w held v = if_kept (λ t u. R a.w t b.w u) (is_variable v p) _ _ _ _ (keeps.null a.w b.w) (held v)
effect_kept o Q R keeps a b (Copy p q) w held v = if_kept (λ t u. R a.w t b.w u) (is_variable v p || is_variable v q) _ _ _ _ (keeps.shared a.w b.w _ _ (held q)) (held v)
effect_kept o Q R keeps a b (New p) w held v = if_kept (λ t u. R a.w t b.w u) (is_variable v p) _ _ _ _ (keeps.new_one a b w) (held v)
effect_kept o Q R keeps a b (Load p q f) w held v = if_kept (λ t u. R a.w t b.w u) (is_variable v p) _ _ _ _ (keeps.bare_one a.w b.w w) (held v)
effect_kept o Q R keeps a b (Store p f q) w held v = if_kept (λ t u. R a.w t b.w u) (is_variable v q) _ _ _ _ (keeps.shared a.w b.w _ _ (held q)) (held v)
effect_kept o Q R keeps a b (StoreNull p f) w held v = held v
effect_kept o Q R keeps a b (DataSet x n) w held v = held v
effect_kept o Q R keeps a b (DataLoad x q f) w held v = held v
effect_kept o Q R keeps a b (DataStore p f n) w held v = held v
effect_kept o Q R keeps a b (Eq p q) w held v = if_kept (λ t u. R a.w t b.w u) (is_variable v p || is_variable v q) _ _ _ _ (keeps.equal a.w b.w _ _ _ _ (held p) (held q)) (held v)
effect_kept o Q R keeps a b (Ne p q) w held v = held v
effect_kept o Q R keeps a b (IsNull p) w held v = if_kept (λ t u. R a.w t b.w u) (is_variable v p) _ _ _ _ (keeps.null a.w b.w) (held v)
effect_kept o Q R keeps a b (NotNull p) w held v = held v
effect_kept o Q R keeps a b (DataTest r x n) w held v = held v
effect_kept o Q R keeps a b (Refresh p q) w held v = if_kept (λ t u. R a.w t b.w u) (is_variable v (Local p) || is_variable v q) _ _ _ _ (keeps.refreshed a.w b.w _ _ _ _ (held (Local p)) (held q)) (held v)
effect_kept o Q R keeps a b (RefreshLoad p q f) w held v = if_kept (λ t u. R a.w t b.w u) (is_variable v (Local p)) _ _ _ _ (keeps.placed a.w b.w _ _ (held (Local p))) (held v)
effect_kept o Q R keeps a b (RefreshStore p f q) w held v = if_kept (λ t u. R a.w t b.w u) (is_variable v q) _ _ _ _ (keeps.shared a.w b.w _ _ (held q)) (held v)
effect_kept o Q R keeps a b (Mark p q) w held v =
    if_kept (λ t u. R a.w t b.w u) (is_variable v p || is_variable v q) _ _ _ _
    (keeps.shared a.w b.w _ _ (held q)) (held v)
effect_kept o Q R keeps a b (Unmark p q) w held v =
    if_kept (λ t u. R a.w t b.w u) (is_variable v p || is_variable v q) _ _ _ _
    (keeps.shared a.w b.w _ _ (held q)) (held v)
effect_kept o Q R keeps a b (MarkTest p m) w held v = held v
effect_kept o Q R keeps a b (Call f arg) w held v = call_kept o Q R keeps a b f arg held v
effect_kept o Q R keeps a b (Done f) w held v = keeps.other (events.Done f) a.w b.w _ _ (held v)
effect_kept o Q R keeps a b (Active p) w held v = if_kept (λ t u. R a.w t b.w u) (is_variable v p) _ _ _ _ (keeps.active a.w b.w _ _ (held p)) (held v)
effect_kept o Q R keeps a b (Ghost p g n) w held v = held v
