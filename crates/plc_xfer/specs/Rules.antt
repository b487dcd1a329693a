-- The typing rules. All parts of a row are read in the environment before the primitive.
use Rattle.std.specs.Prelude.{◌≡◌, ◌==◌, ◌&&◌, ◌||◌, ◌+◌, ℕ, zero, suc, Bool, true, false}
use Rattle.std.specs.Prelude.{if◌then◌else◌, List, [], ◌∷◌, length, get_or, map, Option, Some, None}
use Rattle.plc_base.specs.declared.ids.FuncId.{FuncId}
use Rattle.plc_base.specs.Mask.{meet, within}
use Rattle.plc_lang.specs.declared.syntax.Var.{Var}
use Rattle.plc_lang.specs.declared.syntax.Var.TheVariants.{Shared, Local}
use Rattle.plc_lang.specs.declared.syntax.Arg.{Arg}
use Rattle.plc_lang.specs.declared.syntax.Arg.TheVariants as args
use Rattle.plc_lang.specs.declared.syntax.Primitive.{Primitive}
use Rattle.plc_lang.specs.declared.syntax.Primitive.TheVariants.{Null, Copy, New, Load, Store, StoreNull, DataSet}
use Rattle.plc_lang.specs.declared.syntax.Primitive.TheVariants.{DataLoad, DataStore, Eq, Ne, IsNull, NotNull}
use Rattle.plc_lang.specs.declared.syntax.Primitive.TheVariants.{DataTest, Refresh, RefreshLoad, RefreshStore}
use Rattle.plc_lang.specs.declared.syntax.Primitive.TheVariants.{Mark, Unmark, MarkTest}
use Rattle.plc_lang.specs.declared.syntax.Primitive.TheVariants.{Call, Done, Active, Ghost}
use Rattle.plc_auto.specs.declared.event.EvKind.TheVariants as events
use Rattle.plc_auto.specs.declared.observer.Observer.{Observer}
use Rattle.plc_base.specs.Functions.{is_retire}
use Rattle.plc_auto.specs.Sets.{all_locations, unretired, safe, closure}
use Rattle.plc_type.specs.declared.env.PtrType.{PtrType}
use Rattle.plc_type.specs.declared.env.Env.{Env}
use Rattle.plc_type.specs.Guarantees.{nothing, safe_only, active_safe, active_local_safe, is_safe}
use Rattle.plc_type.specs.Guarantees.{is_active, is_local, without_local, either}
use Rattle.plc_type.specs.Types.{bare, null_type}
use Rattle.plc_xfer.specs.declared.fault.TypeFault.{TypeFault}
use Rattle.plc_xfer.specs.declared.fault.TypeFault.TheVariants.{DerefNotSafe, CompareNotSafe, RetireNotActive}
use Rattle.plc_xfer.specs.Calls.{on_other, on_either, other_type, argument_type, beside_type}

-- the type of a variable; a variable that the environment lacks may stand where any address may
unfoldable pub type_of : Env → Var → PtrType
type_of e (Shared i) = get_or e.shared i (bare e.w)
type_of e (Local v) = get_or e.locals v (bare e.w)

-- whether two variables are one
abbrev pub is_variable : Var → Var → Bool
is_variable (Shared i) (Shared j) = i == j
is_variable (Local i) (Local j) = i == j
is_variable (Shared i) (Local j) = false
is_variable (Local i) (Shared j) = false

-- an access asks that the pointer is safe
abbrev pub access_fault : Env → Var → Option TypeFault
access_fault e p = if is_safe (type_of e p).g then None else Some (DerefNotSafe p)

-- a comparison asks that both pointers are safe, the first before the second
abbrev pub compare_fault : Env → Var → Var → Option TypeFault
compare_fault e p q =
    if is_safe (type_of e p).g then (if is_safe (type_of e q).g then None else Some (CompareNotSafe q))
    else Some (CompareNotSafe p)

-- a retirement asks that the pointer is active
abbrev pub retire_fault : Env → Var → Option TypeFault
retire_fault e p = if is_active (type_of e p).g then None else Some (RetireNotActive p)

-- of calls only a retirement of a pointer asks anything
abbrev pub call_fault : Env → FuncId → Arg → Option TypeFault
call_fault e f args.None = None
call_fault e f args.Null = None
call_fault e f (args.Var p) = if is_retire f then retire_fault e p else None

-- the condition of a primitive: the fault where it fails
abbrev pub fault_of : Env → Primitive → Option TypeFault
fault_of e (Null p) = None
fault_of e (Copy p q) = None
fault_of e (New p) = None
fault_of e (Load p q f) = access_fault e q
fault_of e (Store p f q) = access_fault e p
fault_of e (StoreNull p f) = access_fault e p
fault_of e (DataSet x n) = None
fault_of e (DataLoad x q f) = access_fault e q
fault_of e (DataStore p f n) = access_fault e p
fault_of e (Eq p q) = compare_fault e p q
fault_of e (Ne p q) = compare_fault e p q
fault_of e (IsNull p) = None
fault_of e (NotNull p) = None
fault_of e (DataTest r x n) = None
fault_of e (Refresh p q) = None
fault_of e (RefreshLoad p q f) = access_fault e q
fault_of e (RefreshStore p f q) = access_fault e p
fault_of e (Mark p q) = None
fault_of e (Unmark p q) = None
fault_of e (MarkTest p m) = None
fault_of e (Call f a) = call_fault e f a
fault_of e (Done f) = None
fault_of e (Active p) = None
fault_of e (Ghost p g n) = None

-- the same type without L
abbrev pub shared_type : PtrType → PtrType
shared_type t = record { g = without_local t.g; m = t.m }

-- a pointer to a node that was just allocated
abbrev pub new_type : Observer → Env → PtrType
new_type o e = record { g = active_local_safe; m = meet e.w (unretired o) }

-- two pointers that are equal and valid
abbrev pub equal_type : PtrType → PtrType → PtrType
equal_type t u = record { g = either t.g u.g; m = meet t.m u.m }

-- a pointer that was assigned another one with the same address
abbrev pub refreshed_type : PtrType → PtrType → PtrType
refreshed_type t u = record { g = without_local u.g; m = meet t.m u.m }

-- a pointer of which no more is known than its locations
abbrev pub placed_type : PtrType → PtrType
placed_type t = record { g = nothing; m = t.m }

-- a pointer that is claimed to be active
abbrev pub active_type : Observer → PtrType → PtrType
active_type o t = record { g = either t.g active_safe; m = meet t.m (unretired o) }

-- the effect of a call on the variable v
abbrev pub call_effect : Observer → Env → FuncId → Arg → Var → PtrType
call_effect o e f args.None v = other_type o (events.Call f) (type_of e v)
call_effect o e f args.Null v = other_type o (events.Call f) (type_of e v)
call_effect o e f (args.Var p) v =
    if is_variable v p then argument_type o f (type_of e p) else beside_type o f (type_of e v)

-- the effect of a primitive on the variable v
abbrev pub effect : Observer → Env → Primitive → Var → PtrType
effect o e (Null p) v = if is_variable v p then null_type else type_of e v
effect o e (Copy p q) v = if is_variable v p || is_variable v q then shared_type (type_of e q) else type_of e v
effect o e (New p) v = if is_variable v p then new_type o e else type_of e v
effect o e (Load p q f) v = if is_variable v p then bare e.w else type_of e v
effect o e (Store p f q) v = if is_variable v q then shared_type (type_of e q) else type_of e v
effect o e (StoreNull p f) v = type_of e v
effect o e (DataSet x n) v = type_of e v
effect o e (DataLoad x q f) v = type_of e v
effect o e (DataStore p f n) v = type_of e v
effect o e (Eq p q) v =
    if is_variable v p || is_variable v q then equal_type (type_of e p) (type_of e q) else type_of e v
effect o e (Ne p q) v = type_of e v
effect o e (IsNull p) v = if is_variable v p then null_type else type_of e v
effect o e (NotNull p) v = type_of e v
effect o e (DataTest r x n) v = type_of e v
effect o e (Refresh p q) v =
    if is_variable v (Local p) || is_variable v q then refreshed_type (type_of e (Local p)) (type_of e q)
    else type_of e v
effect o e (RefreshLoad p q f) v = if is_variable v (Local p) then placed_type (type_of e (Local p)) else type_of e v
effect o e (RefreshStore p f q) v = if is_variable v q then shared_type (type_of e q) else type_of e v
effect o e (Mark p q) v = if is_variable v p || is_variable v q then shared_type (type_of e q) else type_of e v
effect o e (Unmark p q) v =
    if is_variable v p || is_variable v q then shared_type (type_of e q) else type_of e v
effect o e (MarkTest p m) v = type_of e v
effect o e (Call f a) v = call_effect o e f a v
effect o e (Done f) v = other_type o (events.Done f) (type_of e v)
effect o e (Active p) v = if is_variable v p then active_type o (type_of e p) else type_of e v
effect o e (Ghost p g n) v = type_of e v

-- the effect of a call on where any address may stand
abbrev pub call_anywhere : Observer → Env → FuncId → Arg → ℕ
call_anywhere o e f args.None = on_other o (events.Call f) e.w
call_anywhere o e f args.Null = on_other o (events.Call f) e.w
call_anywhere o e f (args.Var p) = on_either o (events.Call f) e.w

-- the effect on where any address may stand
abbrev pub effect_anywhere : Observer → Env → Primitive → ℕ
effect_anywhere o e (Null p) = e.w
effect_anywhere o e (Copy p q) = e.w
effect_anywhere o e (New p) = e.w
effect_anywhere o e (Load p q f) = e.w
effect_anywhere o e (Store p f q) = e.w
effect_anywhere o e (StoreNull p f) = e.w
effect_anywhere o e (DataSet x n) = e.w
effect_anywhere o e (DataLoad x q f) = e.w
effect_anywhere o e (DataStore p f n) = e.w
effect_anywhere o e (Eq p q) = e.w
effect_anywhere o e (Ne p q) = e.w
effect_anywhere o e (IsNull p) = e.w
effect_anywhere o e (NotNull p) = e.w
effect_anywhere o e (DataTest r x n) = e.w
effect_anywhere o e (Refresh p q) = e.w
effect_anywhere o e (RefreshLoad p q f) = e.w
effect_anywhere o e (RefreshStore p f q) = e.w
effect_anywhere o e (Mark p q) = e.w
effect_anywhere o e (Unmark p q) = e.w
effect_anywhere o e (MarkTest p m) = e.w
effect_anywhere o e (Call f a) = call_anywhere o e f a
effect_anywhere o e (Done f) = on_other o (events.Done f) e.w
effect_anywhere o e (Active p) = e.w
effect_anywhere o e (Ghost p g n) = e.w

-- f i, f (i + 1), .. of n numbers
abbrev pub table : {A : Type 0} → ℕ → ℕ → (ℕ → A) → List A
table i zero f = []
table i (suc n) f = f i ∷ table (i + 1) n f

-- an environment for the same pointers, by its types
unfoldable pub remade : Env → (Var → PtrType) → ℕ → Env
remade e f w =
    record {
      shared = table 0 (length e.shared) (λ i. f (Shared i));
      locals = table 0 (length e.locals) (λ i. f (Local i));
      w = w;
    }

-- the environment after a primitive, and after primitives in order
unfoldable pub env_after : Observer → Env → Primitive → Env
env_after o e k = remade e (effect o e k) (effect_anywhere o e k)

-- an environment after primitives, one after another
abbrev pub env_after_all : Observer → Env → List Primitive → Env
env_after_all o e [] = e
env_after_all o e (k ∷ ks) = env_after_all o (env_after o e k) ks

-- ---- interference: what other threads and the reclaimer do between two steps

-- a local keeps its guarantees with L, keeps S where nothing may free it, and keeps none else
abbrev pub interfered_local : Observer → PtrType → PtrType
interfered_local o t =
    if is_local t.g then record { g = t.g; m = meet (closure o false t.m) (unretired o) }
    else if is_safe t.g && within (closure o false t.m) (safe o) then record { g = safe_only; m = closure o false t.m }
    else record { g = nothing; m = closure o true t.m }

-- interference: shared pointers are forgotten, locals keep what no other thread can take
unfoldable pub interfered : Observer → Env → Env
interfered o e = record {
  shared = map (λ t. bare (closure o true e.w)) e.shared;
  locals = map (interfered_local o) e.locals;
  w = closure o true e.w;
}

-- each set of locations is within one set
abbrev pub all_within : ℕ → List PtrType → Bool
all_within m [] = true
all_within m (t ∷ ts) = within t.m m && all_within m ts

-- the locations of an environment are those of the observer
pub record FitsObserver (o : Observer) (e : Env) : Type 0 where
  pub anywhere : within e.w (all_locations o) ≡ true
  pub shared : all_within (all_locations o) e.shared ≡ true
  pub locals : all_within (all_locations o) e.locals ≡ true
