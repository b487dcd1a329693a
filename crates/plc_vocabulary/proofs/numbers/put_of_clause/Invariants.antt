use Rattle.std.proofs.Common.{◌≡◌, drop}
use Rattle.std.specs.List.{flat_map}
use Rattle.plc_vocabulary.specs.Setting.{literal_numbers, with_numbers}
use Rattle.plc_vocabulary.proofs.numbers.put_of_clause.Given as goal

abbrev pub invariant-loop-literal : goal.invariant-loop-literal
invariant-loop-literal l =
    with_numbers l.numbers.keys (flat_map literal_numbers (drop l.literal-index l.literal-items))
    ≡ with_numbers l.initial.numbers.keys (flat_map literal_numbers l.literal-items)
