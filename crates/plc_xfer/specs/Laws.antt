-- The rules keep the order and the facts on environments, and a condition that holds in an environment holds in
-- every one below it. What a condition asks goes by what the primitive does to the pointers that it names.
use Rattle.std.specs.Prelude.{◌≡◌, ℕ, true, List, Option, Some, None}
use Rattle.plc_base.specs.declared.ids.FuncId.{FuncId}
use Rattle.plc_lang.specs.declared.syntax.Var.{Var}
use Rattle.plc_lang.specs.declared.syntax.Arg.{Arg}
use Rattle.plc_lang.specs.declared.syntax.Primitive.{Primitive}
use Rattle.plc_lang.specs.Facts.{accessed, compared, called}
use Rattle.plc_auto.specs.declared.observer.Observer.{Observer}
use Rattle.plc_auto.specs.Sets.{all_locations}
use Rattle.plc_type.specs.declared.env.Env.{Env}
use Rattle.plc_type.specs.Environments.{env_below, env_join, bottom, entry}
use Rattle.plc_type.specs.Laws.{InRange}
use Rattle.plc_xfer.specs.declared.fault.TypeFault.{TypeFault}
use Rattle.plc_xfer.specs.Rules.{fault_of, access_fault, compare_fault, call_fault}
use Rattle.plc_xfer.specs.Typings.{IsEnvironment, led, fault_at}

-- what inference needs of the rules
pub record RulesKeepOrder : Type 0 where
  pub bottom_is : (o : Observer) (n m : ℕ) → IsEnvironment o n m (bottom n m)
  pub bottom_least : (o : Observer) (n m : ℕ) (e : Env) → IsEnvironment o n m e → env_below (bottom n m) e ≡ true
  pub entry_is : (o : Observer) (n m : ℕ) → IsEnvironment o n m (entry n m (all_locations o))
  pub join_is : (o : Observer) (n m : ℕ) (a b : Env) → IsEnvironment o n m a → IsEnvironment o n m b
      → IsEnvironment o n m (env_join a b)
  pub range : (o : Observer) (n m : ℕ) (e : Env) → IsEnvironment o n m e → InRange e
  pub led_is : (o : Observer) (n m : ℕ) (e : Env) (prims : List Primitive)
      → IsEnvironment o n m e → IsEnvironment o n m (led o e prims)
  pub led_keeps : (o : Observer) (n m : ℕ) (a b : Env) (prims : List Primitive)
      → IsEnvironment o n m a → IsEnvironment o n m b → env_below a b ≡ true
      → env_below (led o a prims) (led o b prims) ≡ true
  pub sooner : (o : Observer) (n m : ℕ) (a b : Env) (prims : List Primitive) (i : ℕ)
      → IsEnvironment o n m a → IsEnvironment o n m b → env_below a b ≡ true
      → fault_at o b prims i ≡ None → fault_at o a prims i ≡ None

-- what is asked where a primitive goes through a pointer, else where it compares two, else where it calls a function
abbrev pub asked : Env → Option Var → Option (Var × Var) → Option (FuncId × Arg) → Option TypeFault
asked e (Some p) pair call = access_fault e p
asked e None (Some pair) call = compare_fault e pair.0 pair.1
asked e None None (Some call) = call_fault e call.0 call.1
asked e None None None = None

-- the condition of a primitive is what that asks: where it does none of the three, nothing
abbrev pub ConditionsGoByFacts : Type 0
ConditionsGoByFacts = (e : Env) (k : Primitive) → fault_of e k ≡ asked e (accessed k) (compared k) (called k)
