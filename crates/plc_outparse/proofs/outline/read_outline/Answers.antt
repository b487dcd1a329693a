use Rattle.std.proofs.Common.{ap, ◌∙◌}
use Rattle.plc_scope.specs.declared.fault.ParseFault.TheVariants as faults
use Rattle.plc_syntax.specs.Syntax.{kinds}
use Rattle.plc_tree.specs.FormViews.{outline_tree}
use Rattle.plc_outparse.specs.Outlines.{no_outline}
use Rattle.plc_outparse.proofs.AtFront.{meaning_refused}
use Rattle.plc_outparse.proofs.outline.read_outline.Goals as goal

pub returns-in-Ok-clause-fault : goal.returns-in-Ok-clause-fault
returns-in-Ok-clause-fault c = meaning_refused c.args.scope.now c.args.ops.now c.args.start.at
    (kinds c.args.start.tokens.now) (kinds c.in-Ok.after.tokens.now) (outline_tree c.in-Ok.form) c.in-Err.fault
    c.in-Ok.ensures.tree c.in-Err.ensures

pub returns-in-Err-Syntax-clause-fault : goal.returns-in-Err-Syntax-clause-fault
returns-in-Err-Syntax-clause-fault c =
    let stops = rw c.in-Err-Syntax.field-0-is at c.in-Err-Syntax.ensures.fault in
    no_outline stops.0 stops.1 (ap faults.Syntax (c.in-Err-Syntax.at-is ∙ stops.2))
