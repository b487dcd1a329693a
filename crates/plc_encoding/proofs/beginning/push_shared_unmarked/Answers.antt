use Rattle.plc_ground.specs.declared.terms.Symbol.TheVariants as symbols
use Rattle.plc_encoding.specs.Items.{unmarked}
use Rattle.plc_encoding.proofs.Written.{one-more-below}
use Rattle.plc_encoding.proofs.beginning.push_shared_unmarked.Goals as goal

pub loop-i-preserved : goal.loop-i-preserved
loop-i-preserved c =
    one-more-below (λ i. unmarked (symbols.Shared i)) _ _ _ c.loop-i.i c.in_ok-push_unmarked.ensures c.loop-i.invariant
