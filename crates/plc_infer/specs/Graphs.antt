-- A program as a graph of environments.
use Rattle.std.specs.Prelude.{◌==◌, ◌&&◌, ◌+◌, ◌*◌, ◌<◌, ℕ, Bool, true, List, [], ◌∷◌, length, is_none}
use Rattle.plc_base.specs.Mask.{within}
use Rattle.plc_auto.specs.declared.observer.Observer.{Observer}
use Rattle.plc_auto.specs.Sets.{all_locations}
use Rattle.plc_type.specs.declared.env.PtrType.{PtrType}
use Rattle.plc_type.specs.declared.env.Env.{Env}
use Rattle.plc_type.specs.Environments.{env_below, env_join, bottom}
use Rattle.plc_type.specs.Laws.{env_size}
use Rattle.plc_xfer.specs.Typings.{led, fault_at, all_types}
use Rattle.plc_lang.specs.Skeleton.{Skeleton, locals_at}
use Rattle.plc_infer.specs.declared.program.Program.{Program}
use Rattle.plc_infer.specs.Iteration.{Graph, Shaped}
use Rattle.plc_infer.specs.Programs.{IsProgram, passage_at, program_of}

-- whether an environment is one of a pre-typing, as a test
abbrev pub all_bare : ℕ → List PtrType → Bool
all_bare w [] = true
all_bare w (t ∷ ts) = (t.g.0 == 0) && ((t.m == w) && all_bare w ts)

-- an environment of the observer, with so many types
unfoldable pub fits : Observer → ℕ → ℕ → Env → Bool
fits o shared locals e =
    within e.w (all_locations o) && ((length e.shared == shared) && (all_bare e.w e.shared
    && ((length e.locals == locals) && all_types o e.w e.locals)))

-- the sum of numbers
abbrev pub total : List ℕ → ℕ
total [] = 0
total (x ∷ xs) = x + total xs

-- the graph whose values are environments
abbrev pub graph_of : Observer → Skeleton → Graph Env
graph_of o s = record {
  points = length s.locals;
  steps = length s.passages;
  from = λ k. (passage_at s k).from;
  to = λ k. (passage_at s k).to;
  fits = λ p e. fits o s.shared (locals_at s p) e;
  bottom = bottom 0 0;
  below = env_below;
  joined = env_join;
  size = env_size;
  most = 262 * (1 + s.shared + total s.locals);
  after = λ k e. led o e (passage_at s k).prims;
  conditions = λ k. length (passage_at s k).prims;
  holds = λ k i e. is_none (fault_at o e (passage_at s k).prims i);
}

-- step k of a program may be run from the environment of its first point
pub record CanRun (o : Observer) (p : Program) (k : ℕ) (envs : List Env) : Type 0 where
  pub program : IsProgram (program_of p)
  pub known : k < length p.steps.now
  pub shaped : Shaped (graph_of o (program_of p)) envs
