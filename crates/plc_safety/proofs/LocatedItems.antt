-- The items that a claim adds stand among those of the extended outline, and at the label's point.
use Rattle.std.proofs.Common.{◌≡◌, ℕ, zero, suc, Bool, true, false, cond, List, [], ◌∷◌, ◌++◌, map, filter}
use Rattle.std.proofs.Common.{Some, slice_get, refl, sym, ap, ◌∙◌, subst}
use Rattle.std.proofs.lemmas.Bool.{eq-eqb, or_left}
use Rattle.plc_base.specs.declared.ids.PointId.{PointId}
use Rattle.plc_auto.specs.declared.observer.Observer.{Observer}
use Rattle.plc_flow.specs.declared.flow.Flow.{Flow}
use Rattle.plc_flow.proofs.Each.{Each}
use Rattle.plc_type.specs.declared.env.Env.{Env}
use Rattle.plc_logic.specs.declared.clause.Clause.{Clause}
use Rattle.plc_logic.specs.declared.clause.Item.{Item}
use Rattle.plc_logic.specs.declared.clause.Outline.{Outline}
use Rattle.plc_vocabulary.specs.Points.{is_point, names_point, stands_at, clauses_at}
use Rattle.plc_oblig.proofs.Lists.{each_left, each_right}
use Rattle.plc_at.specs.declared.claim.LocationClaim.{LocationClaim}
use Rattle.plc_at.specs.Extended.{need_of, item_at, items_for, added_items, extended}

-- what holds of each clause of the items that pass a test
each_passing : (P : Clause → Type 0) (test : Item → Bool) (items : List Item)
    → Each P (map (λ (i : Item). i.clause) (filter test items))
    → Each (λ (i : Item). test i ≡ true → P i.clause) items
each_passing P test [] h = tt
each_passing P test (x ∷ xs) h = go (test x) refl (each_passing P test xs) h
  where
    go : (b : Bool) → test x ≡ b
        → (Each P (map (λ (i : Item). i.clause) (filter test xs)) → Each (λ (i : Item). test i ≡ true → P i.clause) xs)
        → Each P (map (λ (i : Item). i.clause) (cond b (x ∷ filter test xs) (filter test xs)))
        → Each (λ (i : Item). test i ≡ true → P i.clause) (x ∷ xs)
    go true is rest h = (λ e. h.0, rest h.1)
    go false is rest h = (λ e. cc, rest h)

-- the items of one claim are among those of all
of_one : (P : Item → Type 0) (flow : Flow) (o : Observer) (typing : List Env) (claims : List LocationClaim)
    → Each P (added_items flow o typing claims) → (i : ℕ) (c : LocationClaim) → slice_get claims i ≡ Some c
    → Each P (items_for flow c (need_of flow o typing c))
of_one P flow o typing [] h i c at = cc
of_one P flow o typing (x ∷ cs) h zero c at =
    let same : x ≡ c = cc in
    subst (λ (x : LocationClaim). Each P (items_for flow x (need_of flow o typing x))) same
    (each_left P (items_for flow x (need_of flow o typing x)) (added_items flow o typing cs) h)
of_one P flow o typing (x ∷ cs) h (suc i) c at =
    of_one P flow o typing cs
    (each_right P (items_for flow x (need_of flow o typing x)) (added_items flow o typing cs) h) i c at

-- what holds of each clause of a point holds of those of a claim's items that stand there
pub claim_items : (P : Clause → Type 0) (flow : Flow) (o : Observer) (typing : List Env) (claims : List LocationClaim)
    (outline : Outline) (p i : ℕ) (c : LocationClaim) → slice_get claims i ≡ Some c
    → Each P (clauses_at flow (extended flow o typing claims outline) p)
    → Each (λ (i : Item). stands_at flow p i ≡ true → P i.clause) (items_for flow c (need_of flow o typing c))
claim_items P flow o typing claims outline p i c at h =
    of_one (λ (i : Item). stands_at flow p i ≡ true → P i.clause) flow o typing claims
    (each_right (λ (i : Item). stands_at flow p i ≡ true → P i.clause) outline.items
    (added_items flow o typing claims)
    (each_passing P (stands_at flow p) (outline.items ++ added_items flow o typing claims) h)) i c at

-- and they stand at the label's point
pub stands_there : (flow : Flow) (c : LocationClaim) (is_so : Bool) (p : ℕ) (q : PointId)
    → slice_get flow.labels c.label ≡ Some q → p ≡ q.0 → stands_at flow p (item_at flow c is_so) ≡ true
stands_there flow c is_so p q at same =
    or_left (names_point flow.labels p c.label) false (ap (is_point p) at ∙ eq-eqb q.0 p (sym same))
