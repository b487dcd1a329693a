use Rattle.std.proofs.Common.{◌≡◌, ◌-◌, ◌++◌, ◌∷◌, take, length}
use Rattle.plc_ground.specs.declared.terms.Node.TheVariants.{Split}
use Rattle.plc_oblig.specs.Direct.{splits, leaves}
use Rattle.plc_oblig.proofs.refuted.tree_of.Given as goal

abbrev pub invariant-loop-unit : goal.invariant-loop-unit
invariant-loop-unit l =
    let first = length l.set.clauses - length l.literals in
    l.nodes ≡ splits first (l.unit - first)

abbrev pub invariant-loop-l : goal.invariant-loop-l
invariant-loop-l l =
    let n = length l.literals in
    l.nodes ≡ splits (length l.set.clauses - n) n ++ Split l.c ∷ leaves (take l.l-index l.literals)
