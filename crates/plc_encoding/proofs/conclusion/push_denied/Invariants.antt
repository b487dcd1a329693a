use Rattle.std.proofs.Common.{◌≡◌, ◌∷◌, [], map, drop}
use Rattle.plc_logic.specs.Negation.{negation}
use Rattle.plc_symbolic.specs.Numbering.{written_all}
use Rattle.plc_encoding.specs.Items.{read_literal}
use Rattle.plc_encoding.proofs.conclusion.push_denied.Given as goal

abbrev pub invariant-loop-literal : goal.invariant-loop-literal
invariant-loop-literal l =
    written_all l.initial.out (map (λ k. read_literal l.r.ghosts.now l.r.execution.now l.r.owner l.r.names.now (negation k) ∷ []) l.literals)
    ≡ written_all l.out (map (λ k. read_literal l.r.ghosts.now l.r.execution.now l.r.owner l.r.names.now (negation k) ∷ []) (drop l.literal-index l.literals))
