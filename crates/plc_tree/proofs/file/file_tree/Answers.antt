use Rattle.std.proofs.Common.{sym}
use Rattle.plc_syntax.specs.Syntax.{kinds}
use Rattle.plc_tree.specs.declared.file.File.{File}
use Rattle.plc_tree.specs.FileViews.{file_tree}
use Rattle.plc_tree.proofs.Right.{read_is_right, deep_is_right, shallow_is_right}
use Rattle.plc_tree.proofs.file.file_tree.Goals as goal

pub returns-in-Some-clause-syntax : goal.returns-in-Some-clause-syntax
returns-in-Some-clause-syntax c = (deep_is_right {A = File} (kinds c.args.tokens.now) c.in-Some.place
    c.fault_up_to.result c.in-Some.ensures c.fault_up_to.ensures).syntax_fault

pub returns-in-Some-clause-nesting : goal.returns-in-Some-clause-nesting
returns-in-Some-clause-nesting c = (deep_is_right {A = File} (kinds c.args.tokens.now) c.in-Some.place
    c.fault_up_to.result c.in-Some.ensures c.fault_up_to.ensures).nesting_fault

pub returns-in-Ok-clause-file : goal.returns-in-Ok-clause-file
returns-in-Ok-clause-file c = (read_is_right (kinds c.args.tokens.now) c.in-Ok.file
    (file_tree c.in-Ok.file, sym c.in-Ok.ensures.tree.tokens) c.in_default.ensures).file

pub returns-in-Ok-clause-syntax : goal.returns-in-Ok-clause-syntax
returns-in-Ok-clause-syntax c = (read_is_right (kinds c.args.tokens.now) c.in-Ok.file
    (file_tree c.in-Ok.file, sym c.in-Ok.ensures.tree.tokens) c.in_default.ensures).syntax_fault

pub returns-in-Err-Syntax-clause-file : goal.returns-in-Err-Syntax-clause-file
returns-in-Err-Syntax-clause-file c = (shallow_is_right {A = File} (kinds c.args.tokens.now) c.in-Err-Syntax.at
    c.in_default.ensures (rw c.in-Err-Syntax.field-0-is at c.in-Err-Syntax.ensures.fault)).file

pub returns-in-Err-Syntax-clause-syntax : goal.returns-in-Err-Syntax-clause-syntax
returns-in-Err-Syntax-clause-syntax c = (shallow_is_right {A = File} (kinds c.args.tokens.now) c.in-Err-Syntax.at
    c.in_default.ensures (rw c.in-Err-Syntax.field-0-is at c.in-Err-Syntax.ensures.fault)).syntax_fault
