use Rattle.std.proofs.Common.{◌∙◌}
use Rattle.plc_ground.specs.declared.terms.Symbol.TheVariants as symbols
use Rattle.plc_vocabulary.proofs.Runs.{pushed_run}
use Rattle.plc_vocabulary.proofs.symbols.push_values.Goals as goal

pub loop-v-preserved : goal.loop-v-preserved
loop-v-preserved c = c.in_ok-push.ensures.ok ∙ pushed_run symbols.Value _ _ _ c.loop-v.invariant
