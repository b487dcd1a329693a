use Rattle.std.proofs.Common.{◌≡◌, drop}
use Rattle.std.specs.List.{flat_map}
use Rattle.plc_vocabulary.specs.Setting.{item_numbers, with_numbers}
use Rattle.plc_vocabulary.proofs.numbers.put_of_items.Given as goal

abbrev pub invariant-loop-item : goal.invariant-loop-item
invariant-loop-item l =
    with_numbers l.numbers.keys (flat_map item_numbers (drop l.item-index l.items))
    ≡ with_numbers l.initial.numbers.keys (flat_map item_numbers l.items)
