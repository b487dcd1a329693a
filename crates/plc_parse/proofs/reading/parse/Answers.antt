use Rattle.std.proofs.Common.{◌≡◌, ◌∙◌, Err, ap, refl}
use Rattle.plc_tree.specs.declared.fault.SyntaxFault.TheVariants as syntax
use Rattle.plc_tree.specs.FileViews.{file_tree}
use Rattle.plc_scope.specs.declared.fault.ParseFault.TheVariants as faults
use Rattle.plc_parse.specs.Faults.{no_file, too_deep}
use Rattle.plc_parse.proofs.Answering.{unit_is, fault_is, no_other_fault, fits_of, named_of, sorted_of, observer_of}
use Rattle.plc_parse.proofs.Answering.{outline_of}
use Rattle.plc_parse.proofs.reading.parse.Goals as goal

pub returns-in-Ok : goal.returns-in-Ok
returns-in-Ok c =
    let tokens = c.args.tokens.now in
    let tree = file_tree c.in-Ok.form in
    let spelled = c.in-Ok.ensures.tree in
    let shallow = (c.in-Ok.ensures.file.only c.in-Ok.form refl).1 in
    let unit = c.file_unit.result in
    let gives = c.file_unit.ensures in
    let is = unit_is tokens tree spelled shallow unit gives in
    record {
      ok = is;
      spelled = λ u other. no_other_fault tokens tree spelled shallow unit u gives other;
      fault = fault_is tokens tree spelled shallow unit gives;
      fits = fits_of tokens unit is;
      named = named_of tokens unit is;
      sorted = sorted_of tokens unit is;
      observer = observer_of tokens unit is;
      outline = outline_of tokens unit is;
    }

pub returns-in-Err-Syntax-clause-fault : goal.returns-in-Err-Syntax-clause-fault
returns-in-Err-Syntax-clause-fault c =
    let was : c.file_tree.result ≡ Err (syntax.Syntax c.in-Err-Syntax.at) =
    c.in-Err-Syntax.is ∙ ap Err c.in-Err-Syntax.field-0-is in
    no_file c.in-Err-Syntax.at (ap faults.Syntax c.in-Err-Syntax.at-is) ((c.file_tree.ensures.syntax c.in-Err-Syntax.at).only was)

pub returns-in-Err-Nesting-clause-fault : goal.returns-in-Err-Nesting-clause-fault
returns-in-Err-Nesting-clause-fault c =
    let was : c.file_tree.result ≡ Err (syntax.Nesting c.in-Err-Nesting.field-0-0) =
    c.in-Err-Nesting.is ∙ ap Err c.in-Err-Nesting.field-0-is in
    too_deep c.in-Err-Nesting.field-0-0 c.past.ensures ((c.file_tree.ensures.nesting c.in-Err-Nesting.field-0-0).only was)
