use Rattle.std.proofs.Common.{◌≡◌, take}
use Rattle.plc_suggest.specs.Marking.{steps_of}
use Rattle.plc_suggest.proofs.trial.steps_of.Given as goal

abbrev pub invariant-loop-spot : goal.invariant-loop-spot
invariant-loop-spot l = l.steps.items ≡ steps_of (take l.spot-index l.spots)
