use Rattle.std.proofs.Common.{◌≤◌, List, length, sym, subst}
use Rattle.plc_lang.specs.declared.syntax.Local.{Local}
use Rattle.plc_at.proofs.ReadingNames.{few_locals}
use Rattle.plc_at.proofs.names.pointer_named.Goals as goal

pub local_named-requires : goal.local_named-requires
local_named-requires c =
    subst (λ (ls : List Local). length ls ≤ 32) (sym c.locals_of_label-locals.ensures)
    (few_locals c.args.flow.now c.loop-label.label c.requires.file)
