use Rattle.std.proofs.Common.{◌++◌, ◌∷◌, [], ap, ◌∙◌}
use Rattle.plc_oblig.proofs.Assembled.{one_more_taken}
use Rattle.plc_oblig.proofs.grounding.sorts_of.Goals as goal

pub loop-k-preserved : goal.loop-k-preserved
loop-k-preserved c = c.in_ok-push.ensures.items ∙ ap (λ s. s ++ c.sort_at.result ∷ []) c.loop-k.invariant ∙ one_more_taken _ c.loop-k.k c.sort_at.result c.sort_at.ensures
