-- The operation of an item: its labels stand in one operation.
use Rattle.std.specs.Prelude.{ℕ, List, [], ◌∷◌, Option, Some, None}
use Rattle.plc_lang.specs.Labels.{op_of_label}
use Rattle.plc_logic.specs.declared.clause.Site.{Site}
use Rattle.plc_logic.specs.declared.clause.Site.TheVariants.{Over, At}

-- the operation of an item: the one that it names, or that of its labels
abbrev pub op_of_site : List (List ℕ) → Site → Option ℕ
op_of_site by_op (Over o) = Some o.0
op_of_site by_op (At []) = None
op_of_site by_op (At (l ∷ ls)) = op_of_label by_op l
