use Rattle.std.proofs.Common.{Some, drop, sym, ap, ◌∙◌, arith}
use Rattle.std.proofs.lemmas.List.{drop_all}
use Rattle.plc_cert.proofs.Shapes.{each_first, each_more, each_none, each_last}
use Rattle.plc_cert.proofs.part.each.Goals as goal

pub loop-value-init : goal.loop-value-init
loop-value-init g c = each_first g.T.Part.shape c.args.values.now c.in_ok-parts.parts.items c.in_ok-parts.ensures.items

pub returns-in_default : goal.returns-in_default
returns-in_default g c =
    let l = c.loop-value in
    each_none g.T.Part.shape _ l.parts.items c.args.values.now l.value-index c.value-item.result c.loop-value-test.true c.value-item.is l.invariant
    (sym c.in_default.is ∙ c.in_ok-part.ensures)

pub loop-value-preserved : goal.loop-value-preserved
loop-value-preserved g c =
    let l = c.loop-value in
    each_more g.T.Part.shape _ l.parts.items c.args.values.now l.value-index c.value-item.result c.loop-value-test.true c.value-item.is l.invariant
    c.in-Some.part (sym c.in-Some.is ∙ c.in_ok-part.ensures) c.push.new.self.items c.in_ok-push.ensures.items

pub returns : goal.returns
returns g c =
    let l = c.loop-value in
    let none = drop_all l.value-index c.args.values.now (omega arith) in
    ap Some c.from_vec.ensures ∙ each_last g.T.Part.shape _ l.parts.items (drop l.value-index c.args.values.now) none l.invariant
