use Rattle.std.proofs.Common.{◌≡◌, ◌++◌, [], List, OnOk, filter, map, ap, subst, ◌∙◌}
use Rattle.std.proofs.lemmas.Simd.{map-map}
use Rattle.plc_lang.specs.declared.syntax.Local.{Local}
use Rattle.plc_lang.specs.Locals.{is_parameter}
use Rattle.plc_syntax.specs.Trees.{kinds_of, Placed, Text, parameters_then}
use Rattle.plc_lang.specs.Names.{name_at}
use Rattle.plc_print.specs.Text.{text_of}
use Rattle.plc_print.proofs.declarations.parameters.Goals as goal
use Rattle.plc_print.specs.Outlines.{bare}

pub returns : goal.returns
returns c =
    let names = ap (map (λ n. bare (name_at c.args.file.now n))) (c.deref.ensures.value ∙ c.in_ok-numbers.ensures) ∙ map-map (λ n. bare (name_at c.args.file.now n)) (λ (l : Local). l.name) (filter is_parameter c.args.locals.now) in
    subst (λ (ns : List (Placed Text)). OnOk c.parted_names.result (c.parted_names.new.out.text.items ≡ c.args.out.now.text.items ++ text_of (kinds_of (parameters_then ns [])))) names c.parted_names.ensures
