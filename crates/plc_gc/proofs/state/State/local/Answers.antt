use Rattle.std.proofs.Common.{ap, ◌∙◌}
use Rattle.plc_gc.specs.declared.slot.Pointer.{Pointer}
use Rattle.plc_gc.proofs.Kept.{named_read}
use Rattle.plc_gc.proofs.state.State.local.Goals as goal

pub returns : goal.returns
returns c = ap (λ (p : Pointer). p.node) c.named.ensures ∙ (named_read c.args.self.now c.args.thread c.args.i).number
