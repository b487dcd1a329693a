use Rattle.std.proofs.Common.{option_map, sym, ap, ◌∙◌}
use Rattle.plc_lang.specs.declared.syntax.Local.{Local}
use Rattle.plc_lang.specs.Locals.{is_pointer}
use Rattle.plc_lang.specs.Names.{name_of}
use Rattle.plc_lang.specs.Lookup.{local_at}
use Rattle.plc_lang.proofs.Numbers.{local_of_place}
use Rattle.plc_lang.proofs.names.pointer_name.Goals as goal

pub returns : goal.returns
returns c =
    let place = ap (local_at c.args.locals.now) c.pointer_place.ensures ∙ sym (local_of_place is_pointer c.args.locals.now c.args.v) in
    c.name_of.ensures ∙ ap (name_of c.args.file.now) (c.number_at.ensures ∙ ap (option_map (λ (l : Local). l.name)) place)
