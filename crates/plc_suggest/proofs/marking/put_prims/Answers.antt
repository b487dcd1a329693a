use Rattle.std.proofs.Common.{◌≡◌, ◌<◌, ◌++◌, List, length, sym, ap, ◌∙◌, arith}
use Rattle.plc_lang.specs.declared.syntax.Primitive.{Primitive}
use Rattle.plc_flow.specs.declared.flow.Step.{Step}
use Rattle.plc_suggest.specs.Marking.{prims_at}
use Rattle.plc_suggest.proofs.Listing.{read_step}
use Rattle.plc_suggest.proofs.Claiming.{no_prims, prims_are, prims_put}
use Rattle.plc_suggest.proofs.marking.put_prims.Goals as goal

pub loop-k-init : goal.loop-k-init
loop-k-init c = no_prims c.args.flow.now c.args.lists.now.items

pub loop-k-preserved : goal.loop-k-preserved
loop-k-preserved c =
    let flow = c.args.flow.now in
    let small : c.loop-k.k < length c.args.lists.now.items = omega
    (arith, ap length c.as_slice-steps.ensures, c.requires) in
    let own : c.as_slice.result.now ≡ prims_at flow c.loop-k.k =
    c.as_slice.ensures ∙ ap (λ (x : Step). x.prims)
    (read_step flow c.as_slice-steps.result.now c.loop-k.k c.index-steps-k.result c.as_slice-steps.ensures
    c.loop-k-test.true c.index-steps-k.is) ∙ sym (prims_are flow c.loop-k.k (omega (arith, ap length c.as_slice-steps.ensures))) in
    prims_put flow c.args.lists.now.items c.loop-k.lists.items c.loop-k.k c.index_mut.result.now c.append.new.list small
    c.loop-k.invariant c.index_mut.ensures.value
    (c.in_ok-append.ensures ∙ ap (λ (ps : List Primitive). c.index_mut.result.now ++ ps) own)
