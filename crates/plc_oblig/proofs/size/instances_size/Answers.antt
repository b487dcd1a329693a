use Rattle.std.proofs.Common.{arith}
use Rattle.plc_oblig.proofs.Lengths.{power_0, power_1, power_2}
use Rattle.plc_oblig.proofs.size.instances_size.Goals as goal

pub returns-then-names-eq0-clause-size : goal.returns-then-names-eq0-clause-size
returns-then-names-eq0-clause-size c = power_0 c.args.places _ (omega (arith, c.len-names.ensures.count, c.if-names-eq0.true))

pub returns-then-names-eq1-clause-size : goal.returns-then-names-eq1-clause-size
returns-then-names-eq1-clause-size c = power_1 c.args.places _ (omega (arith, c.len-names.ensures.count, c.if-names-eq1.true))

pub returns-clause-size : goal.returns-clause-size
returns-clause-size c = power_2 c.args.places _ (omega (arith, c.len-names.ensures.count, c.requires.bound, c.if-names-eq0.false, c.if-names-eq1.false))
