use Rattle.std.proofs.Common.{◌≡◌, ◌++◌, drop}
use Rattle.plc_hunting.specs.Texts.{numbers_text}
use Rattle.plc_hunting.proofs.writing.push_numbers.Given as goal

abbrev pub invariant-loop-n : goal.invariant-loop-n
invariant-loop-n l =
    l.out.items ++ numbers_text (drop l.n-index l.numbers) ≡ l.initial.out.items ++ numbers_text l.numbers
