use Rattle.std.proofs.Common.{sym, ap, ◌∙◌, sum_by, length}
use Rattle.plc_vocabulary.specs.Parts.{executed as executed_of}
use Rattle.plc_vocabulary.specs.Setting.{setting_of}
use Rattle.plc_encoding.specs.Execution.{start, after_all}
use Rattle.plc_encoding.specs.Items.{values_from}
use Rattle.plc_oblig.specs.Size.{clause_size, prim_size}
use Rattle.plc_oblig.proofs.Executed.{executed_length}
use Rattle.plc_oblig.proofs.Wholes.{whole_length, set_length}
use Rattle.plc_oblig.proofs.size.clauses_where.Goals as goal

pub returns : goal.returns
returns c =
    let z = c.sizes_of-z.ensures.sizes in
    let flow = c.args.program.now.flow.now in
    let outline = c.args.program.now.outline.now in
    let o = c.args.o.now in
    let s = setting_of flow outline o in
    whole_length flow outline o s c.acting_point.result c.owner_point.result c.sizes_of-z.result.instances _ _ _ _ _ _ _ _ _
    z.instances (c.acting_point.ensures.premises outline) (c.owner_point.ensures.premises flow outline)
    (c.values_size.ensures.size s.nodes z.nodes ∙ ap (λ gs. length (values_from 0 0 gs s.nodes)) c.as_slice.ensures)
    (c.mark_values_size.ensures.size s z) (c.beginning_size.ensures.size s z) (c.freshness_size.ensures.size s z)
    (c.premises_size.ensures.size ∙ ap (sum_by (clause_size c.sizes_of-z.result.instances)) c.invariants_before.ensures)
    c.standing_size.ensures.size c.standing_size-2.ensures.size
    (c.executed_size.ensures.size ∙ ap (sum_by (prim_size c.args.program.now.marked c.sizes_of-z.result.nodes)) c.executed.ensures
    ∙ ap (λ n. sum_by (prim_size c.args.program.now.marked n) (executed_of flow o)) z.nodes
    ∙ ap (λ b. sum_by (prim_size b (length s.nodes)) (executed_of flow o)) c.args.program.now.asked
    ∙ sym (executed_length s.marked flow.file.ghosts s.mine s.nodes start (executed_of flow o)))
    (c.denied_size.ensures.size s (after_all start s.acts))
    ∙ set_length flow outline o
