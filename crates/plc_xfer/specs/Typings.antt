-- Typings of a control flow that is given as plain lists.
use Rattle.std.specs.Prelude.{◌≡◌, ◌&&◌, ◌<◌, ℕ, Bool, true, List, [], ◌∷◌, length, get_or}
use Rattle.std.specs.Prelude.{replicate, slice_get, if◌then◌else◌, zero, suc, Option, Some, None, ◌⊎◌}
use Rattle.plc_base.specs.Mask.{within}
use Rattle.plc_lang.specs.declared.syntax.Primitive.{Primitive}
use Rattle.plc_lang.specs.Skeleton.{Skeleton, Passage, locals_at}
use Rattle.plc_auto.specs.declared.observer.Observer.{Observer}
use Rattle.plc_auto.specs.Sets.{unretired, all_locations}
use Rattle.plc_type.specs.declared.env.PtrType.{PtrType}
use Rattle.plc_type.specs.declared.env.Env.{Env}
use Rattle.plc_type.specs.Guarantees.{is_guarantee_set, is_active}
use Rattle.plc_type.specs.Types.{bare}
use Rattle.plc_type.specs.Environments.{env_below, bottom, entry}
use Rattle.plc_xfer.specs.declared.fault.TypeFault.{TypeFault}
use Rattle.plc_xfer.specs.Rules.{fault_of, env_after_all, env_after, interfered}

-- one of the four sets of guarantees, locations of the observer within where any address may stand, and
-- unretired ones beside A
abbrev pub is_type : Observer → ℕ → PtrType → Bool
is_type o w t = is_guarantee_set t.g && within t.m w && (if is_active t.g then within t.m (unretired o) else true)

-- each of a list is such a type
abbrev pub all_types : Observer → ℕ → List PtrType → Bool
all_types o w [] = true
all_types o w (t ∷ ts) = is_type o w t && all_types o w ts

-- an environment whose sets are all as they have to be, as it is too between the primitives of a step
pub record IsWellFormed (o : Observer) (e : Env) : Type 0 where
  pub anywhere : within e.w (all_locations o) ≡ true
  pub shared_types : all_types o e.w e.shared ≡ true
  pub local_types : all_types o e.w e.locals ≡ true

-- an environment of a pre-typing: one bare type for each shared pointer, one type for each pointer local
pub record IsEnvironment (o : Observer) (shared locals : ℕ) (e : Env) : Type 0 where
  pub anywhere : within e.w (all_locations o) ≡ true
  pub shared_types : e.shared ≡ replicate shared (bare e.w)
  pub count : length e.locals ≡ locals
  pub types : all_types o e.w e.locals ≡ true

-- the environment of a point
abbrev pub env_at : List Env → ℕ → Env
env_at envs p = get_or envs p (bottom 0 0)

-- what the primitives of a step, in order, and then interference make of an environment
abbrev pub led : Observer → Env → List Primitive → Env
led o e prims = interfered o (env_after_all o e prims)

-- an environment for each point, above the entry environment where an operation begins, and above what each
-- step leads to
pub record IsPretyping (o : Observer) (s : Skeleton) (envs : List Env) : Type 0 where
  pub count : length envs ≡ length s.locals
  pub environments : (p : ℕ) → p < length s.locals → IsEnvironment o s.shared (locals_at s p) (env_at envs p)
  pub entries : (i p : ℕ) → slice_get s.entries i ≡ Some p
      → env_below (entry s.shared (locals_at s p) (all_locations o)) (env_at envs p) ≡ true
  pub flows : (k : ℕ) (x : Passage) → slice_get s.passages k ≡ Some x
      → env_below (led o (env_at envs x.from) x.prims) (env_at envs x.to) ≡ true

-- the fault of the i-th primitive as a step runs from an environment
abbrev pub fault_at : Observer → Env → List Primitive → ℕ → Option TypeFault
fault_at o e [] i = None
fault_at o e (k ∷ ks) zero = fault_of e k
fault_at o e (k ∷ ks) (suc i) = fault_at o (env_after o e k) ks i

-- the fault of primitive i of a step, run from the environment of its first point
abbrev pub fault_in : Observer → List Env → ℕ → Option Passage → Option TypeFault
fault_in o envs i None = None
fault_in o envs i (Some x) = fault_at o (env_at envs x.from) x.prims i

-- under an assignment of environments, the condition of primitive i of step k
abbrev pub fault_under : Observer → Skeleton → List Env → ℕ → ℕ → Option TypeFault
fault_under o s envs k i = fault_in o envs i (slice_get s.passages k)

-- a pre-typing under which every condition holds
pub record IsTyping (o : Observer) (s : Skeleton) (envs : List Env) : Type 0 where
  pub pretyping : IsPretyping o s envs
  pub holding : (k i : ℕ) → fault_under o s envs k i ≡ None

-- a typing exists
abbrev pub HasTyping : Observer → Skeleton → Type 0
HasTyping o s = (envs : List Env) × IsTyping o s envs

-- a pre-typing below all others
pub record IsStrongest (o : Observer) (s : Skeleton) (envs : List Env) : Type 0 where
  pub pretyping : IsPretyping o s envs
  pub least : (others : List Env) → IsPretyping o s others
      → (p : ℕ) → p < length s.locals → env_below (env_at envs p) (env_at others p) ≡ true

-- step l, primitive j comes before step k, primitive i
abbrev pub IsBefore : ℕ → ℕ → ℕ → ℕ → Type 0
IsBefore l j k i = (l < k) ⊎ ((l ≡ k) × (j < i))

-- the least step, and in it the least primitive, whose condition fails under every pre-typing; the fault is
-- that under the strongest
pub record IsStuckAt (o : Observer) (s : Skeleton) (k i : ℕ) (fault : TypeFault) : Type 0 where
  pub strongest : (envs : List Env) × IsStrongest o s envs × (fault_under o s envs k i ≡ Some fault)
  pub fails : (envs : List Env) → IsPretyping o s envs → fault_under o s envs k i ≡ None → ⊥
  pub least : (l j : ℕ) → IsBefore l j k i
      → (envs : List Env) × IsPretyping o s envs × (fault_under o s envs l j ≡ None)
