use Rattle.plc_ground.specs.declared.terms.Symbol.TheVariants as symbols
use Rattle.plc_encoding.specs.Items.{only_new}
use Rattle.plc_encoding.proofs.Written.{one-more-below}
use Rattle.plc_encoding.proofs.beginning.push_bound_new.Goals as goal

pub loop-i-preserved : goal.loop-i-preserved
loop-i-preserved c =
    one-more-below (λ i. only_new c.args.makes (symbols.Bound i)) _ _ _ c.loop-i.i
    c.in_ok-push_only_new.ensures c.loop-i.invariant
