use Rattle.std.proofs.Common.{◌∙◌, sym, arith}
use Rattle.plc_syntax.specs.Syntax.{kinds}
use Rattle.plc_tree.specs.FileViews.{file_tree}
use Rattle.plc_tree.proofs.Exact.{file_whole, file_left, stuck_there, none_left, some_left}
use Rattle.plc_tree.proofs.Nested.{kinds_length}
use Rattle.plc_tree.proofs.file.whole_file.Goals as goal

pub returns-then-is_empty-clause-tree : goal.returns-then-is_empty-clause-tree
returns-then-is_empty-clause-tree c =
    let r = c.in-Ok.rest in
    let n = kinds_length c.args.tokens.now in
    file_whole (kinds c.args.tokens.now) _ (file_tree c.in-Ok.file) r.at (kinds r.tokens.now) (omega arith)
    c.in-Ok.ensures (none_left r.tokens.now (sym c.is_empty.ensures ∙ c.if-is_empty.true))

pub returns-else-is_empty-clause-fault : goal.returns-else-is_empty-clause-fault
returns-else-is_empty-clause-fault c =
    let r = c.in-Ok.rest in
    let n = kinds_length c.args.tokens.now in
    rw c.syntax_fault.ensures
    (file_left (kinds c.args.tokens.now) _ (file_tree c.in-Ok.file) r.at (kinds r.tokens.now) (omega arith)
    c.in-Ok.ensures (some_left r.tokens.now (sym c.is_empty.ensures ∙ c.if-is_empty.false)))

pub returns-in-Err-clause-fault : goal.returns-in-Err-clause-fault
returns-in-Err-clause-fault c =
    let n = kinds_length c.args.tokens.now in
    stuck_there (kinds c.args.tokens.now) _ c.in-Err.fault (omega arith) c.in-Err.ensures
