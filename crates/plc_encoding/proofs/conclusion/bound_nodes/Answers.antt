use Rattle.std.proofs.Common.{◌∙◌, ◌++◌, ◌∷◌, [], ℕ, sym, ap, zero-add}
use Rattle.std.proofs.lemmas.List.FromFn.{map-range_with_len_more}
use Rattle.plc_ground.specs.declared.terms.Symbol.TheVariants as symbols
use Rattle.plc_symbolic.specs.declared.symbolic.NodeTerm.{NodeTerm}
use Rattle.plc_symbolic.specs.declared.symbolic.NodeTerm.TheVariants.{At}
use Rattle.plc_encoding.proofs.conclusion.bound_nodes.Goals as goal

pub loop-i-preserved : goal.loop-i-preserved
loop-i-preserved c =
    let f : ℕ → NodeTerm = λ i. At (symbols.Bound i) in
    c.in_ok-push.ensures.ok ∙ ap (λ ns. ns ++ f c.loop-i.i ∷ []) c.loop-i.invariant
    ∙ sym (map-range_with_len_more f 0 c.loop-i.i c.loop-i.i (zero-add c.loop-i.i))
