use Rattle.std.proofs.Common.{◌≡◌, ◌<◌, List, [], length, get_or, ap, ◌∙◌, arith}
use Rattle.std.proofs.lemmas.List.{get_or_read}
use Rattle.plc_lang.specs.declared.syntax.Primitive.{Primitive}
use Rattle.plc_suggest.proofs.Listing.{read_step}
use Rattle.plc_suggest.proofs.Claiming.{with_list, edges_more}
use Rattle.plc_suggest.proofs.marking.marked_edges.Goals as goal

pub loop-k-preserved : goal.loop-k-preserved
loop-k-preserved c =
    let flow = c.args.flow.now in
    let lists = c.args.lists.now in
    let in_steps : c.loop-k.k < length flow.steps = omega (arith, ap length c.as_slice-steps.ensures) in
    let in_lists : c.loop-k.k < length lists = omega (arith, c.requires) in
    let list : c.as_slice.result.now ≡ get_or lists c.loop-k.k [] = c.as_slice.ensures
    ∙ get_or_read lists c.loop-k.k c.index-lists-k.result in_lists c.index-lists-k.is [] in
    edges_more lists flow.steps c.loop-k.k c.loop-k.edges.items c.push.new.self.items _ in_lists in_steps
    (ap (λ (l : List Primitive). with_list l c.index-steps-k.result) list
    ∙ ap (with_list (get_or lists c.loop-k.k []))
    (read_step flow c.as_slice-steps.result.now c.loop-k.k c.index-steps-k.result c.as_slice-steps.ensures
    c.loop-k-test.true c.index-steps-k.is))
    c.in_ok-push.ensures.items c.loop-k.invariant
