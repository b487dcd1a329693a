-- What is read of a flow, as plain lists.
use Rattle.plc_lang.specs.Skeleton.{Skeleton}
use Rattle.plc_infer.specs.declared.flow_lists.FlowLists.{FlowLists}
use Rattle.plc_infer.specs.Programs.{skeleton_with}

-- the lists of the program that borrows them
abbrev pub listed : FlowLists → Skeleton
listed l = skeleton_with l.shared l.locals.items l.entries.items l.steps.items
