-- The words by which limits are told, and what bounds replays and samples.
use Rattle.std.specs.Prelude.{ℕ, List, codes}
use Rattle.plc_base.specs.declared.limits.What1.{What1}
use Rattle.plc_base.specs.declared.limits.What1.TheVariants.{Fields, Shared, Calls, Ghosts, Lines, Values, Ops, Locals}
use Rattle.plc_base.specs.declared.limits.What1.TheVariants.{Labels, Prims, News, Nesting, Invariants, Items, Literals}
use Rattle.plc_base.specs.declared.limits.What1.TheVariants.{Obligations, Clauses, Points}

-- the word by which a limit is told
abbrev pub limit_name : What1 → List ℕ
limit_name Fields = codes "fields"
limit_name Shared = codes "shared"
limit_name Calls = codes "calls"
limit_name Ghosts = codes "ghosts"
limit_name Lines = codes "lines"
limit_name Values = codes "values"
limit_name Ops = codes "ops"
limit_name Locals = codes "locals"
limit_name Labels = codes "labels"
limit_name Prims = codes "prims"
limit_name News = codes "news"
limit_name Nesting = codes "nesting"
limit_name Invariants = codes "invariants"
limit_name Items = codes "items"
limit_name Literals = codes "literals"
limit_name Obligations = codes "obligations"
limit_name Clauses = codes "clauses"
limit_name Points = codes "points"

-- the threads of a replay
abbrev pub most_threads : ℕ
most_threads = 64

-- the greatest address of a replay
abbrev pub most_addresses : ℕ
most_addresses = 4096

-- the greatest number by which a schedule picks one of the steps that a thread may take
abbrev pub greatest_place : ℕ
greatest_place = 65535

-- the copies of the operations in a sample
abbrev pub most_copies : ℕ
most_copies = 16
