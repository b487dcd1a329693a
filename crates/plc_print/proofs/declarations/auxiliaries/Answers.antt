use Rattle.plc_lang.specs.declared.syntax.Ghost.{Ghost}
use Rattle.plc_lang.specs.Names.{name_at}
use Rattle.plc_syntax.specs.Trees.{Auxiliary, ghost_then}
use Rattle.plc_print.specs.Canonical.{ghost_kind}
use Rattle.plc_print.proofs.Parts.{each_printed, ghost_leads}
use Rattle.plc_print.proofs.declarations.auxiliaries.Goals as goal
use Rattle.plc_print.specs.Outlines.{bare}

pub loop-field-preserved : goal.loop-field-preserved
loop-field-preserved c =
    let tree = λ (g : Ghost). Auxiliary (bare (name_at c.args.file.now g.name)) (ghost_kind c.args.file.now g.values) in
    each_printed ghost_then ghost_leads tree c.args.fields.now c.loop-field.field-index c.field-item.result c.loop-field-test.true c.field-item.is
    c.loop-field.out.text.items c.loop-field.invariant c.in_ok-auxiliary.ensures
