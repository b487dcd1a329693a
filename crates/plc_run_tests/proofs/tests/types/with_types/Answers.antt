use Rattle.std.proofs.Common.{◌≡◌, ◌∙◌, ℕ, Bool, true, List, [], ◌∷◌, refl, sym, ap}
use Rattle.std.proofs.lemmas.Bool.{and_from}
use Rattle.plc_base.specs.Mask.{within}
use Rattle.plc_base.proofs.MaskLemmas.{within_self}
use Rattle.plc_auto.specs.declared.observer.Observer.{Observer}
use Rattle.plc_auto.specs.Sets.{all_locations}
use Rattle.plc_type.specs.declared.env.PtrType.{PtrType}
use Rattle.plc_xfer.specs.Rules.{FitsObserver}
use Rattle.plc_run_tests.proofs.tests.types.with_types.Goals as goal

tested : (o : Observer) (m w : ℕ) (b : Bool) → w ≡ all_locations o → b ≡ within m w → b ≡ true → within m (all_locations o) ≡ true
tested o m w b is e t = ap (within m) (sym is) ∙ sym e ∙ t

fits : (o : Observer) (w : ℕ) (x y : List PtrType) (s p q : PtrType) → w ≡ all_locations o → x ≡ s ∷ [] → y ≡ p ∷ q ∷ [] → within s.m (all_locations o) ≡ true → within p.m (all_locations o) ≡ true → within q.m (all_locations o) ≡ true → FitsObserver o (record { shared = x; locals = y; w = w })
fits o w x y s p q is_w is_x is_y h k l = rw (is_w, is_x, is_y) (record {
  anywhere = within_self (all_locations o);
  shared = and_from _ _ h refl;
  locals = and_from _ _ k (and_from _ _ l refl);
})

pub returns : goal.returns
returns c =
    let o = c.args.observer.now in
    let m = c.all-w.ensures in
    let x = c.from_vec.ensures ∙ c.in_ok-vec.ensures.items in
    let y = c.from_vec-2.ensures ∙ c.in_ok-vec-2.ensures.items in
    fits o _ _ _ c.args.s.now c.args.p.now c.args.q.now m x y
    (tested o c.args.s.now.m _ _ m c.within.ensures c.if-not-within.false)
    (tested o c.args.p.now.m _ _ m c.within-2.ensures c.if-not-within-2.false)
    (tested o c.args.q.now.m _ _ m c.within-3.ensures c.if-not-within-3.false)
