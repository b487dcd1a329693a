-- A limit and one more is a number of 32 bits.
use Rattle.std.proofs.Common.{◌+◌, ◌<◌, ◌^◌, arith}
use Rattle.plc_base.specs.declared.limits.What1.{What1}
use Rattle.plc_base.specs.declared.limits.What1.TheVariants.{Fields, Shared, Calls, Ghosts, Lines, Values, Ops, Locals, Labels, Prims, News, Nesting, Invariants, Items, Literals, Obligations, Clauses, Points}
use Rattle.plc_base.specs.Limits.{most}

pub most_few : (what : What1) → most what + 1 < 2 ^ 32
most_few Fields = omega arith
most_few Shared = omega arith
most_few Calls = omega arith
most_few Ghosts = omega arith
most_few Lines = omega arith
most_few Values = omega arith
most_few Ops = omega arith
most_few Locals = omega arith
most_few Labels = omega arith
most_few Prims = omega arith
most_few News = omega arith
most_few Nesting = omega arith
most_few Invariants = omega arith
most_few Items = omega arith
most_few Literals = omega arith
most_few Obligations = omega arith
most_few Clauses = omega arith
most_few Points = omega arith
