use Rattle.std.proofs.Common.{[], drop, map}
use Rattle.plc_syntax.specs.Trees.{each_then, comma_name_then}
use Rattle.plc_lang.specs.Names.{name_at}
use Rattle.plc_print.proofs.Left.{Left}
use Rattle.plc_print.proofs.declarations.comma_names.Given as goal
use Rattle.plc_print.specs.Outlines.{bare}

abbrev pub invariant-loop-number : goal.invariant-loop-number
invariant-loop-number l = Left l.initial.out l.out (each_then comma_name_then (map (λ n. bare (name_at l.file n)) l.numbers) []) (each_then comma_name_then (map (λ n. bare (name_at l.file n)) (drop l.number-index l.numbers)) [])
