use Rattle.std.proofs.Common.{Some, ap, sym, ◌∙◌}
use Rattle.std.proofs.lemmas.Option.{slice_get-map}
use Rattle.std.specs.Option.{option_map}
use Rattle.plc_vocabulary.specs.Sorts.{sort_of}
use Rattle.plc_oblig.proofs.grounding.sort_at.Goals as goal

pub returns : goal.returns
returns c =
    let sort = sort_of c.args.flow.now c.args.o.now c.args.acts.now in
    slice_get-map sort c.args.draft.now.terms c.args.k ∙ ap (option_map sort) (sym c.term.ensures ∙ c.in-Some.is) ∙ ap Some (sym c.sort_of.ensures)
