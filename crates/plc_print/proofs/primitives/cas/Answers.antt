use Rattle.std.proofs.Common.{◌++◌, true, false, ap, ◌∙◌}
use Rattle.std.proofs.lemmas.Result.{on_ok_weaker}
use Rattle.plc_print.specs.Canonical.{name_or_null}
use Rattle.plc_lang.specs.Names.{variable_name}
use Rattle.plc_print.specs.Pieces.{kind_of}
use Rattle.plc_print.proofs.Parts.{cas_text}
use Rattle.plc_print.proofs.primitives.cas.Goals as goal

pub returns-then-active : goal.returns-then-active
returns-then-active c =
    let operand = name_or_null c.args.reach.file.now c.args.reach.locals.now in
    let name = variable_name c.args.reach.file.now c.args.reach.locals.now c.args.p in
    let same = cas_text true c.args.active (kind_of c.name-name.result) name (operand c.args.old) (operand c.args.new) (kind_of c.name_or_null-old.result) (kind_of c.name_or_null-new.result) c.name_or_null-old.ensures c.name_or_null-new.ensures c.name-name.ensures c.if-active.true in
    on_ok_weaker c.tokens.result (λ e. e ∙ ap (λ x. c.args.out.now.text.items ++ x) same) c.tokens.ensures

pub returns-else-active : goal.returns-else-active
returns-else-active c =
    let operand = name_or_null c.args.reach.file.now c.args.reach.locals.now in
    let name = variable_name c.args.reach.file.now c.args.reach.locals.now c.args.p in
    let same = cas_text false c.args.active (kind_of c.name-name.result) name (operand c.args.old) (operand c.args.new) (kind_of c.name_or_null-old.result) (kind_of c.name_or_null-new.result) c.name_or_null-old.ensures c.name_or_null-new.ensures c.name-name.ensures c.if-active.false in
    on_ok_weaker c.tokens-else-active.result (λ e. e ∙ ap (λ x. c.args.out.now.text.items ++ x) same) c.tokens-else-active.ensures
