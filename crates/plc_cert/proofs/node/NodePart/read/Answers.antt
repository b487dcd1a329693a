use Rattle.std.proofs.Common.{option_and_then, sym, ap, ◌∙◌, arith}
use Rattle.plc_cert.specs.Shape.{node_from}
use Rattle.plc_cert.proofs.Shapes.{other_length}
use Rattle.plc_cert.proofs.node.NodePart.read.Goals as goal

pub returns-in_default-as_slice : goal.returns-in_default-as_slice
returns-in_default-as_slice c =
    let few = c.in_default-as_slice.len_below in
    sym (other_length c.in-Some.items.now.items (λ e. omega (arith, few, e, c.as_slice.ensures.len)) (λ e. omega (arith, few, e, c.as_slice.ensures.len)))
    ∙ ap (option_and_then node_from) c.in-Some.ensures

pub returns-in_default-as_slice-2 : goal.returns-in_default-as_slice-2
returns-in_default-as_slice-2 c =
    let many = c.in_default-as_slice.len_at_least in
    sym (other_length c.in-Some.items.now.items (λ e. omega (arith, many, e, c.as_slice.ensures.len)) (λ e. omega (arith, many, e, c.as_slice.ensures.len)))
    ∙ ap (option_and_then node_from) c.in-Some.ensures
