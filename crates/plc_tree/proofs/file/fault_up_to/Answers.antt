use Rattle.std.proofs.Common.{◌≤◌, refl, sym, arith}
use Rattle.plc_tree.specs.FileViews.{file_tree}
use Rattle.plc_tree.proofs.Nested.{cut_is_file, cut_fault, cut_begins}
use Rattle.plc_tree.proofs.file.fault_up_to.Goals as goal

pub returns-then-is_up_to : goal.returns-then-is_up_to
returns-then-is_up_to c =
    let up_to : c.in-Err-Syntax.at ≤ c.args.place = omega (arith, c.if-is_up_to.true) in (
      up_to,
      cut_fault c.args.tokens.now _ c.args.place c.in-Err-Syntax.at refl c.requires.within up_to
          (rw c.in-Err-Syntax.field-0-is at c.in-Err-Syntax.ensures.fault),
    )

pub returns-in-Ok : goal.returns-in-Ok
returns-in-Ok c =
    (refl, cut_is_file c.args.tokens.now _ c.args.place refl (file_tree c.in-Ok.file, sym c.in-Ok.ensures.tree.tokens))

pub returns-else-is_up_to : goal.returns-else-is_up_to
returns-else-is_up_to c = (
  refl,
  cut_begins c.args.tokens.now _ c.args.place c.in-Err-Syntax.at refl (omega (arith, c.if-is_up_to.false))
      (rw c.in-Err-Syntax.field-0-is at c.in-Err-Syntax.ensures.fault),
)
