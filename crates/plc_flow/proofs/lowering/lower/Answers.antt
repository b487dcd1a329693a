use Rattle.std.proofs.Common.{◌≡◌, [], List, Result, Ok, Err, refl, arith}
use Rattle.plc_lang.specs.declared.syntax.File.{File}
use Rattle.plc_lang.specs.declared.syntax.Op.{Op}
use Rattle.plc_flow.specs.declared.builder.Builder.{Builder}
use Rattle.plc_flow.specs.declared.flow.Flow.{Flow}
use Rattle.plc_flow.specs.declared.flow.Gate.{Gate}
use Rattle.plc_flow.specs.declared.flow.FlowFault.{FlowFault}
use Rattle.plc_flow.specs.declared.flow.FlowFault.TheVariants as faults
use Rattle.plc_flow.specs.Lowering.{made_of, ops_made, IsLowered}
use Rattle.plc_flow.specs.Builder.{MakesGates, finished}
use Rattle.plc_flow.proofs.Fitting.{lowered_is_well_formed, lowered_fits, lowered_is_sorted}
use Rattle.plc_flow.proofs.lowering.lower.Goals as goal

-- where nothing was made before, what the operations make is the file's flow
finished_is_lowered : (file : File) (gates : Result (List Gate) FlowFault) (start out : Builder) → start.points ≡ 0 → start.steps ≡ [] → start.labels ≡ [] → MakesGates start out gates (made_of file) → IsLowered file (finished file gates out)
finished_is_lowered file (Ok gates) start out no_points no_steps no_labels made =
    let points : out.points ≡ (made_of file).points = omega (arith, made.0.points, no_points) in
    let steps_made : out.steps ≡ (made_of file).steps = rw no_steps at made.0.steps in
    let labels_made : out.labels ≡ (made_of file).labels = rw no_labels at made.0.labels in
    let gates_made : gates ≡ (made_of file).gates = made.1 in
    (cc, omega (arith, made.0.few, points))
finished_is_lowered file (Err (faults.TooManyPoints count)) start out no_points no_steps no_labels made = (made.0, omega (arith, made.1, no_points))
finished_is_lowered file (Err faults.Memory) start out no_points no_steps no_labels made = tt

the_answer : (file : File) (ops : List Op) (gates : Result (List Gate) FlowFault) (start out : Builder) (r : Result Flow FlowFault) → ops ≡ file.ops → start.points ≡ 0 → start.steps ≡ [] → start.labels ≡ [] → MakesGates start out gates (ops_made 0 ops 0) → r ≡ finished file gates out → IsLowered file r
the_answer file ops gates start out r all no_points no_steps no_labels made is =
    rw is (finished_is_lowered file gates start out no_points no_steps no_labels (rw all at made))

lowered : (c : goal.After-finish) → IsLowered c.args.file c.finish.result
lowered c = the_answer c.args.file c.as_slice.result.now c.lower_ops-gates.result _ c.lower_ops-gates.new.out c.finish.result c.as_slice.ensures refl c.new.ensures c.new-2.ensures c.lower_ops-gates.ensures c.finish.ensures

pub returns-clause-lowered : goal.returns-clause-lowered
returns-clause-lowered c = lowered c

pub returns-clause-fits : goal.returns-clause-fits
returns-clause-fits c fits = lowered_is_well_formed c.args.file c.finish.result fits (lowered c)

pub returns-clause-named : goal.returns-clause-named
returns-clause-named c fits named = lowered_fits c.args.file c.finish.result fits named (lowered c)

pub returns-clause-sorted : goal.returns-clause-sorted
returns-clause-sorted c sorted = lowered_is_sorted c.args.file c.finish.result sorted (lowered c)
