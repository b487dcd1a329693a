use Rattle.std.proofs.Common.{◌∙◌, ◌∷◌, [], ap}
use Rattle.plc_ground.specs.declared.terms.Symbol.TheVariants as symbols
use Rattle.plc_symbolic.specs.declared.symbolic.SymbolicTerm.TheVariants.{Constant}
use Rattle.plc_symbolic.specs.Numbering.{written}
use Rattle.plc_symbolic.specs.Terms.{is_not, null}
use Rattle.plc_encoding.proofs.Written.{one-more-below}
use Rattle.plc_encoding.proofs.conclusion.push_nodes.Goals as goal

pub loop-i-preserved : goal.loop-i-preserved
loop-i-preserved c =
    one-more-below (λ i. is_not (Constant (symbols.Bound i)) null ∷ []) _ _ _ c.loop-i.i
    (c.in_ok-push.ensures ∙ ap (λ l. written c.loop-i.out (l ∷ [])) c.is_not.ensures) c.loop-i.invariant
