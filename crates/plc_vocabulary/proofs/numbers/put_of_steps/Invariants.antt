use Rattle.std.proofs.Common.{◌≡◌, drop}
use Rattle.std.specs.List.{flat_map}
use Rattle.plc_vocabulary.specs.Setting.{step_numbers, with_numbers}
use Rattle.plc_vocabulary.proofs.numbers.put_of_steps.Given as goal

abbrev pub invariant-loop-step : goal.invariant-loop-step
invariant-loop-step l =
    with_numbers l.numbers.keys (flat_map step_numbers (drop l.step-index l.steps))
    ≡ with_numbers l.initial.numbers.keys (flat_map step_numbers l.steps)
