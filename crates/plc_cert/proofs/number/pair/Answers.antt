use Rattle.std.proofs.Common.{Some, option_and_then, ap, ap₂, ◌∙◌, arith}
use Rattle.serde_json.specs.View.{view}
use Rattle.plc_cert.specs.Shape.{pair_from}
use Rattle.plc_cert.proofs.Shapes.{not_two, two_items}
use Rattle.plc_cert.proofs.number.pair.Goals as goal

pub returns-then-len-ne2 : goal.returns-then-len-ne2
returns-then-len-ne2 c = not_two _ (λ e. omega (arith, c.if-len-ne2.true, c.len.ensures, e)) ∙ ap (option_and_then pair_from) c.in_ok-items.ensures

pub returns : goal.returns
returns c =
    ap₂ (λ a b. Some (view a, view b)) c.index.ensures c.index-2.ensures
    ∙ two_items _ _ _ (omega (arith, c.if-len-ne2.false, c.len.ensures)) ∙ ap (option_and_then pair_from) c.in_ok-items.ensures
