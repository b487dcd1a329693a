use Rattle.plc_flow.proofs.Indexed.{firsts_within}
use Rattle.plc_flow.proofs.steps_by_point.StepsByPoint.of_flow.Goals as goal

pub new-requires-clause-within : goal.new-requires-clause-within
new-requires-clause-within c = rw (c.as_slice.ensures.value, c.in_ok-firsts.ensures) (firsts_within c.args.flow.now c.requires)
