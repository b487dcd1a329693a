-- The test of an environment is the definition.
use Rattle.std.proofs.Common.{◌≡◌, ℕ, zero, suc, true, List, [], ◌∷◌, length, replicate, refl, ap, ◌∙◌}
use Rattle.std.proofs.lemmas.Bool.{and_parts, and_from, eq-eqb, eqb-true}
use Rattle.std.proofs.lemmas.List.{length-replicate}
use Rattle.plc_auto.specs.declared.observer.Observer.{Observer}
use Rattle.plc_type.specs.declared.env.PtrType.{PtrType}
use Rattle.plc_type.specs.declared.env.Env.{Env}
use Rattle.plc_type.specs.Guarantees.{numbered, nothing}
use Rattle.plc_type.specs.Types.{bare}
use Rattle.plc_xfer.specs.Typings.{IsEnvironment}
use Rattle.plc_infer.specs.Graphs.{all_bare, fits}

bare_list : (w : ℕ) (ts : List PtrType) → all_bare w ts ≡ true → ts ≡ replicate (length ts) (bare w)
bare_list w [] h = refl
bare_list w (t ∷ ts) h =
    let p = and_parts _ _ h in
    let q = and_parts _ _ p.1 in
    let g : t.g.0 ≡ 0 = eqb-true _ _ p.0 in
    let m : t.m ≡ w = eqb-true _ _ q.0 in
    let same : t ≡ bare w = ap (λ (n : ℕ). record { g = numbered n; m = t.m }) g ∙ ap (λ (n : ℕ). record { g = nothing; m = n }) m in
    ap (λ (x : PtrType). x ∷ ts) same ∙ ap (λ (xs : List PtrType). bare w ∷ xs) (bare_list w ts q.1)

list_bare : (w n : ℕ) → all_bare w (replicate n (bare w)) ≡ true
list_bare w zero = refl
list_bare w (suc n) = and_from _ _ refl (and_from _ _ (eq-eqb w w refl) (list_bare w n))

pub fits_is : (o : Observer) (n m : ℕ) (e : Env) → fits o n m e ≡ true → IsEnvironment o n m e
unfolding fits
fits_is o n m e h =
    let a = and_parts _ _ h in
    let b = and_parts _ _ a.1 in
    let c = and_parts _ _ b.1 in
    let d = and_parts _ _ c.1 in
    let long : length e.shared ≡ n = eqb-true _ _ b.0 in
    record {
      anywhere = a.0;
      shared_types = bare_list e.w e.shared c.0 ∙ ap (λ (k : ℕ). replicate k (bare e.w)) long;
      count = eqb-true _ _ d.0;
      types = d.1;
    }

pub is_fits : (o : Observer) (n m : ℕ) (e : Env) → IsEnvironment o n m e → fits o n m e ≡ true
unfolding fits
is_fits o n m e h =
    and_from _ _ h.anywhere
    (and_from _ _ (eq-eqb _ _ (ap length h.shared_types ∙ length-replicate n (bare e.w)))
    (and_from _ _ (ap (all_bare e.w) h.shared_types ∙ list_bare e.w n)
    (and_from _ _ (eq-eqb _ _ h.count) h.types)))
