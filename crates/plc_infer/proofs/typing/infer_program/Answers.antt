use Rattle.std.proofs.Common.{◌≡◌, length, subst, sym}
use Rattle.plc_type.proofs.Ordered.{ordered}
use Rattle.plc_xfer.proofs.Order.{kept}
use Rattle.plc_infer.specs.Programs.{program_of}
use Rattle.plc_infer.specs.Starts.{starts_of}
use Rattle.plc_infer.specs.Graphs.{graph_of}
use Rattle.plc_infer.specs.Iteration.{HoldBelow}
use Rattle.plc_infer.proofs.Skeletal.{stuck_is, typing_is, starts_are}
use Rattle.plc_infer.proofs.Programs.{steps_length, program_strongest}
use Rattle.plc_infer.proofs.typing.infer_program.Goals as goal

pub returns-in-Some-clause-stuck : goal.returns-in-Some-clause-stuck
returns-in-Some-clause-stuck c = λ k i fault e.
    let o = c.args.observer.now in
    let s = program_of c.args.program.now in
    let step : c.in-Some.step ≡ k = cc in
    let prim : c.in-Some.prim ≡ i = cc in
    let why : c.in-Some.fault ≡ fault = cc in
    let at = rw (c.in-Some.is, c.deref.ensures.value) at c.in_ok-step.ensures in
    rw (← step, ← prim, ← why)
    (stuck_is ordered kept o s (starts_of o s) (starts_are ordered kept o s c.requires) c.requires c.in_ok-envs.envs.items c.in-Some.step.0 c.in-Some.prim c.in-Some.fault c.in_ok-envs.ensures at.0 at.1)

pub returns-in-None-clause-typing : goal.returns-in-None-clause-typing
returns-in-None-clause-typing c =
    let o = c.args.observer.now in
    let s = program_of c.args.program.now in
    let at = rw (c.in-None.is, c.deref.ensures.value) at c.in_ok-step.ensures in
    let all : HoldBelow (graph_of o s) c.in_ok-envs.envs.items (length s.passages) = subst (HoldBelow (graph_of o s) c.in_ok-envs.envs.items) (sym (steps_length c.args.program.now)) at in
    rw c.from_vec.ensures (typing_is ordered kept o s (starts_of o s) (starts_are ordered kept o s c.requires) c.requires c.in_ok-envs.envs.items c.in_ok-envs.ensures all)

pub returns-in-None-clause-strongest : goal.returns-in-None-clause-strongest
returns-in-None-clause-strongest c =
    let o = c.args.observer.now in
    let s = program_of c.args.program.now in
    rw c.from_vec.ensures (program_strongest o s c.requires c.in_ok-envs.envs.items c.in_ok-envs.ensures)
