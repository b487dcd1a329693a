use Rattle.std.proofs.Common.{◌∙◌}
use Rattle.plc_ground.specs.declared.terms.Symbol.TheVariants as symbols
use Rattle.plc_vocabulary.proofs.Runs.{pushed_run}
use Rattle.plc_vocabulary.proofs.symbols.push_bound.Goals as goal

pub loop-i-preserved : goal.loop-i-preserved
loop-i-preserved c = c.in_ok-push.ensures.ok ∙ pushed_run symbols.Bound _ _ _ c.loop-i.invariant
