use Rattle.plc_infer.proofs.Leaving.{firsts_few, firsts_within}
use Rattle.plc_infer.proofs.program.steps_by_point.Goals as goal

pub new-requires-clause-few : goal.new-requires-clause-few
new-requires-clause-few c = rw (c.as_slice.ensures.value, c.in_ok-firsts.ensures) (firsts_few c.args.program.now c.requires)

pub new-requires-clause-within : goal.new-requires-clause-within
new-requires-clause-within c = rw (c.as_slice.ensures.value, c.in_ok-firsts.ensures) (firsts_within c.args.program.now c.requires)
