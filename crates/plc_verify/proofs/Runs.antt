-- A step that is run primitive by primitive.
use Rattle.std.proofs.Common.{◌≡◌, ℕ, zero, suc, ◌+◌, ◌<◌, ◌≤◌, List, [], ◌∷◌, length, get_or, drop, Some, None, refl, sym, ap, ◌∙◌, arith, below_more, drop-cons, inl, inr}
use Rattle.std.proofs.lemmas.Bool.{cases_lt}
use Rattle.std.proofs.lemmas.List.{drop_all}
use Rattle.plc_lang.specs.declared.syntax.Primitive.{Primitive}
use Rattle.plc_auto.specs.declared.observer.Observer.{Observer}
use Rattle.plc_type.specs.declared.env.Env.{Env}
use Rattle.plc_xfer.specs.declared.fault.TypeFault.{TypeFault}
use Rattle.plc_xfer.specs.Rules.{fault_of, env_after, env_after_all}
use Rattle.plc_xfer.specs.Typings.{fault_at}

-- the environment before primitive i of a step that began with another, and whose conditions held so far
pub record IsUnderWay (o : Observer) (first : Env) (prims : List Primitive) (i : ℕ) (e : Env) : Type 0 where
  pub held : (j : ℕ) → j < i → fault_at o first prims j ≡ None
  pub ahead : (j : ℕ) → fault_at o first prims (i + j) ≡ fault_at o e (drop i prims) j
  pub leads : env_after_all o e (drop i prims) ≡ env_after_all o first prims

pub sets_out : (o : Observer) (first e : Env) (prims : List Primitive) → e ≡ first → IsUnderWay o first prims 0 e
sets_out o first e prims is = record {
  held = λ j h. absurd (omega arith);
  ahead = λ j. let same : 0 + j ≡ j = omega arith in ap (fault_at o first prims) same ∙ ap (λ (x : Env). fault_at o x prims j) (sym is);
  leads = ap (λ (x : Env). env_after_all o x prims) is;
}

module _ (o : Observer) (first e : Env) (prims : List Primitive) (i : ℕ) (d : Primitive) (small : i < length prims)
    (way : IsUnderWay o first prims i e) where
  rest : drop i prims ≡ get_or prims i d ∷ drop (suc i) prims
  rest = drop-cons prims i d small

  here : fault_at o first prims i ≡ fault_of e (get_or prims i d)
  here =
      let same : i ≡ i + 0 = omega arith in
      ap (fault_at o first prims) same ∙ way.ahead 0 ∙ ap (λ (ks : List Primitive). fault_at o e ks 0) rest

  pub stops : (f : TypeFault) → Some f ≡ fault_of e (get_or prims i d) → fault_at o first prims i ≡ None → ⊥
  stops f h none = let both : Some f ≡ None = h ∙ sym here ∙ none in absurd cc

  pub goes_on : (after : Env) → None ≡ fault_of e (get_or prims i d) → after ≡ env_after o e (get_or prims i d) → IsUnderWay o first prims (i + 1) after
  goes_on after holds is =
      let one : suc i ≡ i + 1 = omega arith in
      record {
        held = below_more (λ (j : ℕ). fault_at o first prims j ≡ None) i way.held (here ∙ sym holds);
        ahead = λ j.
            let same : i + 1 + j ≡ i + suc j = omega arith in
            ap (fault_at o first prims) same ∙ way.ahead (suc j) ∙ ap (λ (ks : List Primitive). fault_at o e ks (suc j)) rest
            ∙ ap (λ (x : Env). fault_at o x (drop (suc i) prims) j) (sym is) ∙ ap (λ (n : ℕ). fault_at o after (drop n prims) j) one;
        leads =
            ap (λ (n : ℕ). env_after_all o after (drop n prims)) (sym one) ∙ ap (λ (x : Env). env_after_all o x (drop (suc i) prims)) is
            ∙ ap (env_after_all o e) (sym rest) ∙ way.leads;
      }

past_faults : (o : Observer) (e : Env) (ks : List Primitive) (i : ℕ) → length ks ≤ i → fault_at o e ks i ≡ None
past_faults o e [] i h = refl
past_faults o e (k ∷ ks) zero h = absurd (omega arith)
past_faults o e (k ∷ ks) (suc i) h = past_faults o (env_after o e k) ks i (omega arith)

pub arrives : (o : Observer) (first e : Env) (prims : List Primitive) (i : ℕ) → length prims ≤ i → IsUnderWay o first prims i e
    → (e ≡ env_after_all o first prims) × ((j : ℕ) → fault_at o first prims j ≡ None)
arrives o first e prims i past way = (
  ap (env_after_all o e) (sym (drop_all i prims past)) ∙ way.leads,
  λ j. elim (cases_lt j i) [
    | inl low ↦ way.held j low
    | inr high ↦ past_faults o first prims j (omega arith)
  ],
)
