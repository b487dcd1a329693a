use Rattle.std.proofs.Common.{◌≡◌, ◌++◌, take, filter, subst, sym, ◌∙◌, arith}
use Rattle.std.proofs.lemmas.List.{length-set}
use Rattle.plc_base.specs.Mask.{has}
use Rattle.plc_cert.specs.Written.{members}
use Rattle.plc_cert.proofs.Writes.{next_location, found_here, found_none}
use Rattle.plc_cert.proofs.writing.locations_in.Goals as goal
use Rattle.plc_cert.proofs.writing.locations_in.Goals.{then-has, else-has}

pub loop-l-preserved : goal.loop-l-preserved
loop-l-preserved c =
    let l = c.loop-l in
    let p = has c.args.mask.now in
    let before = subst (λ ys. take l.count l.locations ++ filter p ys ≡ members c.args.mask.now) (next_location l.l (omega arith)) l.invariant.2 in
    elim c.if-has.branch [
      | then-has w ↦ rw (w.locations-is, w.count-is) (omega arith, length-set l.locations l.count l.l ∙ l.invariant.1, found_here p l.l l.count l.locations _ _ (sym c.has.ensures ∙ w.if-has.true) (omega arith) before)
      | else-has w ↦ rw (w.locations-is, w.count-is) (omega arith, l.invariant.1, found_none p l.l _ _ _ (sym c.has.ensures ∙ w.if-has.false) before)
    ]
