use Rattle.std.proofs.Common.{◌+◌, ap, ◌∙◌, refl}
use Rattle.std.specs.List.{list_any}
use Rattle.plc_lang.specs.Allocation.{is_new}
use Rattle.plc_oblig.proofs.Wholes.{setting_sizes}
use Rattle.plc_oblig.proofs.size.sizes_of.Goals as goal

pub returns-clause-sizes : goal.returns-clause-sizes
returns-clause-sizes c =
    let mine = c.count_mine-mine.result in
    let theirs = c.count_theirs.result in
    let loads = c.count_loads-loads.result in
    let plain = c.len.result + mine + theirs + c.count_bound-bound.result + loads in
    let constants = plain + 1 + c.one_if.result in
    setting_sizes c.args.program.now.flow.now c.args.program.now.outline.now c.args.o.now _ theirs loads plain constants
    c.count_mine-mine.ensures.count c.count_theirs.ensures.count (ap (λ n. n + mine + theirs) c.len.ensures)
    c.count_fields-fields.ensures.count c.count_bound-bound.ensures.count
    (c.has_new-made.ensures ∙ ap (list_any is_new) c.executed.ensures) c.count_loads-loads.ensures.count refl
    (ap (λ n. plain + 1 + n) c.one_if.ensures) (ap (λ n. constants + n) c.deep_nodes-deep.ensures.size)
    (ap (λ n. plain + n) c.deep_nodes-deep.ensures.size) c.args.program.now.asked c.if_marked.ensures
