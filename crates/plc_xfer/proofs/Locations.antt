-- What the rules need of sets of locations: the steps of a call and a return, and closures.
use Rattle.std.proofs.Common.{◌≡◌, ℕ, Bool, true, false, ◌&&◌, ◌∙◌, sym}
use Rattle.std.proofs.lemmas.Bool.{and_parts, and_from, not-true, not_from_false, ltb-true, lt-ltb}
use Rattle.plc_base.specs.Mask.{within}
use Rattle.plc_base.proofs.MaskLemmas.{has-within, within-has, union_monotone, union_least}
use Rattle.plc_auto.specs.declared.observer.Observer.{Observer}
use Rattle.plc_auto.specs.declared.event.EvKind.{EvKind}
use Rattle.plc_auto.specs.Sets.{all_locations, unretired, step_set, closure}
use Rattle.plc_auto.specs.Laws.{is_retirement}
use Rattle.plc_auto.proofs.Tables.{step_live, unretired_stays}
use Rattle.plc_auto.proofs.SetLemmas.{has-unretired, in_step_set, step_set_live, step_set_grows}
use Rattle.plc_auto.proofs.Closures.{in_closure, closure_has}
use Rattle.plc_xfer.specs.Calls.{on_this, on_other, on_either}

-- a closure keeps the order
pub closure_keeps : (o : Observer) (with_free : Bool) (a b : ℕ) → within a b ≡ true → within (closure o with_free a) (closure o with_free b) ≡ true
closure_keeps o with_free a b h = has-within _ _ (λ k m.
    let r = in_closure o with_free a k m in
    closure_has o with_free b r.1.from k r.1.small r.0 (within-has a b h r.1.from r.1.member) r.1.row)

-- ---- the thread's own calls and returns

pub step_keeps : (o : Observer) (kind : EvKind) (on_it : Bool) (a b : ℕ) → within a b ≡ true → within (step_set o a kind true on_it) (step_set o b kind true on_it) ≡ true
step_keeps o kind on_it a b h = has-within _ _ (λ k m. step_set_grows o a b k kind true on_it (within-has a b h) m)

pub either_keeps : (o : Observer) (kind : EvKind) (a b : ℕ) → within a b ≡ true → within (on_either o kind a) (on_either o kind b) ≡ true
either_keeps o kind a b h = union_monotone (on_this o kind a) (on_other o kind a) (on_this o kind b) (on_other o kind b) (step_keeps o kind true a b h) (step_keeps o kind false a b h)

pub either_in : (o : Observer) (kind : EvKind) (m : ℕ) → within m (all_locations o) ≡ true → within (on_either o kind m) (all_locations o) ≡ true
either_in o kind m h = union_least (on_this o kind m) (on_other o kind m) (all_locations o) (step_set_live o m kind true true h) (step_set_live o m kind true false h)

-- an address that isn't retired stays so, unless it's the one that a call of `retire` names
pub step_unretired : (o : Observer) (kind : EvKind) (on_it : Bool) (m : ℕ) → (is_retirement kind && on_it) ≡ false → within m (unretired o) ≡ true → within (step_set o m kind true on_it) (unretired o) ≡ true
step_unretired o kind on_it m r h = has-within _ _ (λ k s.
    let c = in_step_set o m k kind true on_it s in
    let from = and_parts _ _ (sym (has-unretired o c.from) ∙ within-has m (unretired o) h c.from c.member) in
    let live = ltb-true _ _ from.0 in
    has-unretired o k ∙ and_from _ _ (lt-ltb _ _ (step_live o c.from k kind true on_it live c.leads)) (not_from_false _ (unretired_stays o c.from k kind true on_it live (not-true _ from.1) r c.leads)))
