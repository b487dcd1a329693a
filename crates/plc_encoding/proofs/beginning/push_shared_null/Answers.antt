use Rattle.plc_ground.specs.declared.terms.Symbol.TheVariants as symbols
use Rattle.plc_encoding.specs.Items.{equals}
use Rattle.plc_encoding.proofs.Written.{one-more-below}
use Rattle.plc_encoding.proofs.beginning.push_shared_null.Goals as goal

pub loop-i-preserved : goal.loop-i-preserved
loop-i-preserved c =
    one-more-below (λ i. equals (symbols.Shared i) symbols.Null) _ _ _ c.loop-i.i
    c.in_ok-push_equal.ensures c.loop-i.invariant
