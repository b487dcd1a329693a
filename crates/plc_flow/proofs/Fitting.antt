-- What the lowering promises of an answer makes it a flow that can be run.
use Rattle.std.proofs.Common.{◌≤◌, Result, Ok, Err, IfOk, sym, subst, arith}
use Rattle.plc_lang.specs.declared.syntax.File.{File}
use Rattle.plc_lang.specs.Fit.{FileFits, NamesWhatIsThere}
use Rattle.plc_lang.specs.WellSorted.{FileIsWellSorted}
use Rattle.plc_flow.specs.declared.flow.Flow.{Flow}
use Rattle.plc_flow.specs.declared.flow.FlowFault.{FlowFault}
use Rattle.plc_flow.specs.Lowering.{made_of, flow_of, most_points, IsLowered}
use Rattle.plc_flow.specs.WellFormed.{GatesFrom, IsWellFormed, FlowFits}
use Rattle.plc_flow.specs.Laws.{FlowsFit}
use Rattle.plc_flow.specs.WellSorted.{FlowIsWellSorted}
use Rattle.plc_flow.proofs.Within.{ops_few, ops_gates, ops_counted, flow_steps_within, flow_labels_within}
use Rattle.plc_flow.proofs.Short.{flow_steps_short}
use Rattle.plc_flow.proofs.Naming.{flow_steps_named}
use Rattle.plc_flow.proofs.Sorted.{flow_steps_sorted}
use Rattle.plc_flow.proofs.Labelled.{flow_labels_counted, flow_labels_stand}

-- a file within the limits has a well-formed flow
flow_is_well_formed : (file : File) → FileFits file → (made_of file).points ≤ most_points → IsWellFormed (flow_of file)
flow_is_well_formed file fits few = record {
  few = few;
  gates = ops_counted 0 file.ops 0;
  ranges = subst (λ m. GatesFrom 0 (made_of file).gates m) (omega arith) (ops_gates 0 file.ops 0);
  steps = flow_steps_within file;
  few_steps = omega (arith, ops_few 0 file.ops 0);
  short = flow_steps_short file fits;
  labels = flow_labels_within file;
}

-- and where it names what is there, so does its flow
flow_fits : (file : File) → FileFits file → NamesWhatIsThere file → (made_of file).points ≤ most_points → FlowFits (flow_of file)
flow_fits file fits named few = record {
  well = flow_is_well_formed file fits few;
  init = named.init;
  short_init = fits.init;
  steps = flow_steps_named file named;
}

-- where each thing stands in the file where its kind may stand, so it does in the flow
flow_is_sorted : (file : File) → FileIsWellSorted file → FlowIsWellSorted (flow_of file)
flow_is_sorted file sorted = record {
  file = sorted;
  steps = flow_steps_sorted file sorted;
  labels = flow_labels_counted file sorted.labels;
  each_label = flow_labels_stand file sorted.labels;
}

pub all_flows_fit : FlowsFit
all_flows_fit file fits named sorted few = record { fits = flow_fits file fits named few; sorted = flow_is_sorted file sorted }

-- so it is with each answer of the lowering
pub lowered_is_well_formed : (file : File) (r : Result Flow FlowFault) → FileFits file → IsLowered file r → IfOk r IsWellFormed
lowered_is_well_formed file (Ok flow) fits l = subst IsWellFormed (sym l.0) (flow_is_well_formed file fits l.1)
lowered_is_well_formed file (Err fault) fits l = tt

pub lowered_fits : (file : File) (r : Result Flow FlowFault) → FileFits file → NamesWhatIsThere file → IsLowered file r → IfOk r FlowFits
lowered_fits file (Ok flow) fits named l = subst FlowFits (sym l.0) (flow_fits file fits named l.1)
lowered_fits file (Err fault) fits named l = tt

pub lowered_is_sorted : (file : File) (r : Result Flow FlowFault) → FileIsWellSorted file → IsLowered file r → IfOk r FlowIsWellSorted
lowered_is_sorted file (Ok flow) sorted l = subst FlowIsWellSorted (sym l.0) (flow_is_sorted file sorted)
lowered_is_sorted file (Err fault) sorted l = tt
