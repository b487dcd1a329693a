use Rattle.std.proofs.Common.{◌∙◌, Result, sym, ap, subst}
use Rattle.plc_scope.specs.declared.binding.Binding.TheVariants.{Taken}
use Rattle.plc_scope.specs.declared.fault.ParseFault.{ParseFault}
use Rattle.plc_scope.specs.declared.scope.Scope.{Scope}
use Rattle.plc_scope.specs.Answers.{Gives}
use Rattle.plc_scope.specs.Scope.{declared}
use Rattle.plc_syntax.specs.Views.{name_tree}
use Rattle.plc_tree.specs.FileViews.{file_tree}
use Rattle.plc_parse.specs.declared.unit.Unit.{Unit as FileUnit}
use Rattle.plc_parse.specs.Units.{lines_of}
use Rattle.plc_parse.specs.Views.{front_of}
use Rattle.plc_parse.proofs.Grouped.{unit_made, none_made}
use Rattle.plc_parse.proofs.file.file_unit.Goals as goal

pub returns-in-Ok : goal.returns-in-Ok
returns-in-Ok c =
    let name = ap (λ (s : Scope). declared s (name_tree c.args.form.now.heading.node.name) Taken) (sym c.in_ok-scope.ensures.ok)
    ∙ c.in_ok-declare.ensures.read in
    let made = unit_made (lines_of c.args.tokens.now) (file_tree c.args.form.now) c.declare.new.scope
    (front_of c.in-Ok.front, c.in-Ok.ops, c.in-Ok.outline, c.parts.new.scope) name c.in-Ok.ensures in
    subst (λ (m : Result FileUnit ParseFault). Gives (λ u. u) c.unit.result m) (sym made) c.unit.ensures

pub returns-in-Err : goal.returns-in-Err
returns-in-Err c =
    let name = ap (λ (s : Scope). declared s (name_tree c.args.form.now.heading.node.name) Taken) (sym c.in_ok-scope.ensures.ok)
    ∙ c.in_ok-declare.ensures.read in
    none_made (lines_of c.args.tokens.now) (file_tree c.args.form.now) c.declare.new.scope c.in-Err.fault name
    c.in-Err.ensures
