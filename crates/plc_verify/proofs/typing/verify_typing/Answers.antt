use Rattle.std.proofs.Common.{refl, sym}
use Rattle.plc_flow.specs.Skeleton.{skeleton_of}
use Rattle.plc_verify.specs.Environments.{completed}
use Rattle.plc_verify.proofs.Fitting.{completed_length, points_hold, entries_hold, narrow_whole}
use Rattle.plc_verify.proofs.Passages.{typed}
use Rattle.plc_verify.proofs.typing.verify_typing.Goals as goal
use Rattle.plc_flow.proofs.Gates.{point_count}

pub returns-then-envs-flow : goal.returns-then-envs-flow
returns-then-envs-flow c = record {
  have_is = sym (completed_length c.args.flow.now c.args.envs.now);
  want_is = sym (point_count c.args.flow.now c.requires.flow);
  differ = c.if-envs-flow.true;
}

pub returns-in-Some-first_narrow_entry : goal.returns-in-Some-first_narrow_entry
returns-in-Some-first_narrow_entry c = (
  record {
    points = points_hold c.args.flow.now c.requires.flow c.args.observer.now c.args.envs.now c.if-envs-flow.false c.in_default.ensures;
    narrow = narrow_whole c.args.observer.now (skeleton_of c.args.flow.now) c.args.flow.now c.args.envs.now c.in-Some-first_narrow_entry.op.0 c.in-Some-first_narrow_entry.ensures;
  },
  refl,
)

pub verify_steps-requires : goal.verify_steps-requires
verify_steps-requires c = record {
  flow = c.requires.flow;
  file = c.requires.file;
  entries = entries_hold c.args.flow.now c.requires.flow c.args.observer.now c.args.envs.now c.if-envs-flow.false c.in_default.ensures c.in_default-first_narrow_entry.ensures;
}

pub returns : goal.returns
returns c =
    typed c.args.observer.now c.args.flow.now (completed c.args.flow.now c.args.envs.now) c.requires.flow
    (entries_hold c.args.flow.now c.requires.flow c.args.observer.now c.args.envs.now c.if-envs-flow.false c.in_default.ensures c.in_default-first_narrow_entry.ensures)
    c.verify_steps.result c.verify_steps.ensures
