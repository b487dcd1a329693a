use Rattle.std.proofs.Common.{sym}
use Rattle.plc_flow.specs.Skeleton.{skeleton_of}
use Rattle.plc_page.proofs.Known.{known_fits}
use Rattle.plc_page.proofs.untyped.push_before.Goals as goal

pub before-requires : goal.before-requires
before-requires c =
    known_fits c.args.shown.now.judged.now.observer (skeleton_of c.args.shown.now.judged.now.flow) c.args.shown.now.typing.now.env
    c.in-Some.step.now.from.0 c.in-Some-get.env.now c.requires (sym c.in-Some-get.ensures)
