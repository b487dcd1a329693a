use Rattle.std.proofs.Common.{◌+◌, ◌*◌, length, ap, sym, ◌∙◌}
use Rattle.plc_oblig.specs.Size.{if_marked}
use Rattle.plc_oblig.proofs.Lengths.{mark_values_length}
use Rattle.plc_oblig.proofs.size.mark_values_size.Goals as goal

pub returns-clause-size : goal.returns-clause-size
returns-clause-size c s z =
    c.if_marked.ensures ∙ ap (λ b. if_marked b (c.args.z.marks + c.args.z.fields * c.args.z.nodes)) z.marked
    ∙ ap (λ n. if_marked s.marked (n + c.args.z.fields * c.args.z.nodes)) z.marks
    ∙ ap (λ n. if_marked s.marked (length s.marks + n * c.args.z.nodes)) z.fields
    ∙ ap (λ n. if_marked s.marked (length s.marks + length s.fields * n)) z.nodes
    ∙ sym (mark_values_length s)
