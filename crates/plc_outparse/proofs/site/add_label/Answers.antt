use Rattle.std.proofs.Common.{rules}
use Rattle.plc_outparse.specs.Meaning.{label_step}
use Rattle.plc_outparse.proofs.site.add_label.Goals as goal

pub returns : goal.returns
unfolding label_step
returns c = rw (c.in_ok-label.ensures, c.if-found-op.false, c.in_ok-push.ensures.ok) (search rules)
