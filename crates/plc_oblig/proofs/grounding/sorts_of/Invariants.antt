use Rattle.std.proofs.Common.{◌≡◌, map, take}
use Rattle.plc_vocabulary.specs.Sorts.{sort_of}
use Rattle.plc_oblig.proofs.grounding.sorts_of.Given as goal

abbrev pub invariant-loop-k : goal.invariant-loop-k
invariant-loop-k l = l.sorts.items ≡ take l.k (map (sort_of l.flow l.o l.acts) l.draft.terms)
