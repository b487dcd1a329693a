use Rattle.std.proofs.Common.{[], drop, map}
use Rattle.plc_syntax.specs.Trees.{each_then, comma_name_then}
use Rattle.plc_lang.specs.Names.{label_name}
use Rattle.plc_print.proofs.Left.{Left}
use Rattle.plc_print.proofs.outlines.comma_labels.Given as goal
use Rattle.plc_print.specs.Outlines.{bare}

abbrev pub invariant-loop-label : goal.invariant-loop-label
invariant-loop-label l = Left l.initial.out l.out (each_then comma_name_then (map bare (map (label_name l.file) l.labels)) []) (each_then comma_name_then (map bare (map (label_name l.file) (drop l.label-index l.labels))) [])
