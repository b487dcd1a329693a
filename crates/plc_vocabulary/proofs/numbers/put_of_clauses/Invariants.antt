use Rattle.std.proofs.Common.{◌≡◌, drop}
use Rattle.std.specs.List.{flat_map}
use Rattle.plc_vocabulary.specs.Setting.{clause_numbers, with_numbers}
use Rattle.plc_vocabulary.proofs.numbers.put_of_clauses.Given as goal

abbrev pub invariant-loop-clause : goal.invariant-loop-clause
invariant-loop-clause l =
    with_numbers l.numbers.keys (flat_map clause_numbers (drop l.clause-index l.clauses))
    ≡ with_numbers l.initial.numbers.keys (flat_map clause_numbers l.clauses)
