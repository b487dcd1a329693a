-- A skeleton as a graph of environments, and what its pre-typings are.
use Rattle.std.proofs.Common.{◌≡◌, ◌≢◌, ℕ, zero, suc, ◌+◌, ◌*◌, ◌<◌, ◌≤◌, Bool, true, false, List, [], ◌∷◌, length, get_or, replicate, Option, Some, None, refl, sym, ap, subst, ◌∙◌, arith, inl, inr}
use Rattle.std.specs.Prelude.{◌==◌, slice_get, is_none, ◌⊎◌, if◌then◌else◌}
use Rattle.std.specs.List.{list_any}
use Rattle.std.proofs.lemmas.Bool.{cases_lt, cases_eq, eq-eqb, ne_eqb, or_left, or_right, or_from}
use Rattle.std.proofs.lemmas.Option.{slice_get-get_or, slice_get_within, get_or_from_slice_get, slice_get_past}
use Rattle.std.proofs.lemmas.List.{length-replicate}
use Rattle.plc_lang.specs.declared.syntax.Primitive.{Primitive}
use Rattle.plc_auto.specs.declared.observer.Observer.{Observer}
use Rattle.plc_auto.specs.Sets.{all_locations}
use Rattle.plc_type.specs.declared.env.Env.{Env}
use Rattle.plc_type.specs.Types.{bare}
use Rattle.plc_type.specs.Environments.{env_below, bottom, entry, SameShape}
use Rattle.plc_type.specs.Laws.{env_size, EnvironmentsAreOrdered}
use Rattle.plc_xfer.specs.declared.fault.TypeFault.{TypeFault}
use Rattle.plc_xfer.specs.Rules.{env_after}
use Rattle.plc_xfer.specs.Typings.{IsEnvironment, env_at, led, fault_at, fault_in, fault_under, IsPretyping, IsTyping, IsStrongest, IsStuckAt}
use Rattle.plc_lang.specs.Skeleton.{Skeleton, Passage, locals_at}
use Rattle.plc_xfer.specs.Laws.{RulesKeepOrder}
use Rattle.plc_infer.specs.Iteration as graph
use Rattle.plc_infer.specs.Programs.{passage_at, some_passage, IsProgram}
use Rattle.plc_infer.specs.Starts.{start_at, starts_of}
use Rattle.plc_infer.specs.Graphs.{total, graph_of}
use Rattle.plc_infer.specs.WorkLists.{Settled}
use Rattle.plc_infer.specs.Trials.{MeetsAll}
use Rattle.plc_infer.specs.Resuming.{IsBegun, StepIsTyped}
use Rattle.plc_infer.proofs.Environments.{fits_is, is_fits}
use Rattle.plc_infer.proofs.Climb.{stuck_at}
use Rattle.plc_infer.proofs.Lists.{table_length, table_at}

get_most : (xs : List ℕ) (p : ℕ) → get_or xs p 0 ≤ total xs
get_most [] p = omega arith
get_most (x ∷ xs) zero = omega arith
get_most (x ∷ xs) (suc p) = let h = get_most xs p in omega arith

none_is : (o : Option TypeFault) → is_none o ≡ true → o ≡ None
none_is None h = refl
none_is (Some f) h = absurd cc

is_none_of : (o : Option TypeFault) → o ≡ None → is_none o ≡ true
is_none_of o h = ap is_none h

-- whether a point is in a list
entry_found : (es : List ℕ) (i p : ℕ) → slice_get es i ≡ Some p → list_any (λ (e : ℕ). e == p) es ≡ true
entry_found [] i p h = absurd cc
entry_found (e ∷ es) zero p h = let is : e ≡ p = cc in or_left _ _ (eq-eqb e p is)
entry_found (e ∷ es) (suc i) p h = or_right _ _ (entry_found es i p h)

entry_or_not : (es : List ℕ) (p : ℕ) → ((i : ℕ) × (slice_get es i ≡ Some p)) ⊎ ((i : ℕ) → slice_get es i ≡ Some p → ⊥)
entry_or_not [] p = inr (λ i h. absurd cc)
entry_or_not (e ∷ es) p = elim (cases_eq e p) [
  | inl is ↦ inl (0, ap Some is)
  | inr ne ↦ elim (entry_or_not es p) [
    | inl found ↦ inl (suc found.0, found.1)
    | inr away ↦ inr (later e es p ne away)
  ]
]
  where
    later : (e : ℕ) (es : List ℕ) (p : ℕ) → e ≢ p → ((i : ℕ) → slice_get es i ≡ Some p → ⊥) → (i : ℕ) → slice_get (e ∷ es) i ≡ Some p → ⊥
    later e es p ne away zero h = let is : e ≡ p = cc in ne is
    later e es p ne away (suc i) h = away i h

no_entry : (es : List ℕ) (p : ℕ) → ((i : ℕ) → slice_get es i ≡ Some p → ⊥) → list_any (λ (e : ℕ). e == p) es ≡ false
no_entry [] p away = refl
no_entry (e ∷ es) p away = or_from _ _ (ne_eqb e p (λ is. away 0 (ap Some is))) (no_entry es p (λ i h. away (suc i) h))

module _ (order : EnvironmentsAreOrdered) (rules : RulesKeepOrder) (o : Observer) (s : Skeleton) where
  abbrev is : ℕ → Env → Type 0
  is p e = IsEnvironment o s.shared (locals_at s p) e

  shape : (p : ℕ) (a b : Env) → is p a → is p b → SameShape a b
  shape p a b x y = (ap length x.shared_types ∙ long a.w ∙ sym (long b.w) ∙ sym (ap length y.shared_types), x.count ∙ sym y.count)
    where
      long : (w : ℕ) → length (replicate s.shared (bare w)) ≡ s.shared
      long w = length-replicate s.shared (bare w)

  pub lawful : IsProgram s → graph.Laws (graph_of o s)
  lawful k = record {
    from_in = k.from_in;
    to_in = k.to_in;
    same = λ p a x. order.same a;
    trans = λ p a b c x y z. order.trans a b c;
    join_fits = λ p a b x y. is_fits o _ _ _ (rules.join_is o _ _ a b (fits_is o _ _ a x) (fits_is o _ _ b y));
    left = λ p a b x y. order.left a b (shape p a b (fits_is o _ _ a x) (fits_is o _ _ b y));
    right = λ p a b x y. order.right a b (shape p a b (fits_is o _ _ a x) (fits_is o _ _ b y));
    least = λ p a b c x y z. order.least a b c;
    grows = λ p a b x y. let i = fits_is o _ _ a x in let j = fits_is o _ _ b y in order.grows a b (shape p a b i j) (rules.range o _ _ a i) (rules.range o _ _ b j);
    bounded = λ p a x. small p a (fits_is o _ _ a x);
    after_fits = λ i a small x. let e = fits_is o _ _ a x in is_fits o _ _ _ (subst (λ (m : ℕ). IsEnvironment o s.shared m (led o a (passage_at s i).prims)) (sym (k.same_locals i small)) (rules.led_is o _ _ a (passage_at s i).prims e));
    keeps = λ i a b small x y h. rules.led_keeps o _ _ a b (passage_at s i).prims (fits_is o _ _ a x) (fits_is o _ _ b y) h;
    less = λ i j a b small x y h t. is_none_of _ (rules.sooner o _ _ a b (passage_at s i).prims j (fits_is o _ _ a x) (fits_is o _ _ b y) h (none_is _ t));
  }
    where
      small : (p : ℕ) (a : Env) → is p a → env_size a ≤ 262 * (1 + s.shared + total s.locals)
      small p a x =
          let b = order.bounded a (rules.range o _ _ a x) in
          let n : length a.shared ≡ s.shared = ap length x.shared_types ∙ length-replicate s.shared (bare a.w) in
          let m = get_most s.locals p in
          omega (arith, b, n, m, x.count)

  -- where the iteration starts: at the entries the entry environment, elsewhere the environment below all others
  pub record IsStarts (starts : List Env) : Type 0 where
    pub count : length starts ≡ length s.locals
    pub entries : (i p : ℕ) → slice_get s.entries i ≡ Some p → env_at starts p ≡ entry s.shared (locals_at s p) (all_locations o)
    pub others : (p : ℕ) → p < length s.locals → ((i : ℕ) → slice_get s.entries i ≡ Some p → ⊥) → env_at starts p ≡ bottom s.shared (locals_at s p)
    pub each : (p : ℕ) → p < length s.locals → ((i : ℕ) × (slice_get s.entries i ≡ Some p)) ⊎ ((i : ℕ) → slice_get s.entries i ≡ Some p → ⊥)

  pub starts_are : IsProgram s → IsStarts (starts_of o s)
  starts_are k = record {
    count = table_length 0 (length s.locals) (start_at o s);
    entries = λ i p e. at p (k.entries_in i p e) ∙ ap (λ (b : Bool). if b then entry s.shared (locals_at s p) (all_locations o) else bottom s.shared (locals_at s p)) (entry_found s.entries i p e);
    others = λ p small away. at p small ∙ ap (λ (b : Bool). if b then entry s.shared (locals_at s p) (all_locations o) else bottom s.shared (locals_at s p)) (no_entry s.entries p away);
    each = λ p small. entry_or_not s.entries p;
  }
    where
      added : (p : ℕ) → 0 + p ≡ p
      added p = omega arith

      at : (p : ℕ) → p < length s.locals → env_at (starts_of o s) p ≡ start_at o s p
      at p small = table_at 0 (length s.locals) p (start_at o s) (bottom 0 0) small ∙ ap (start_at o s) (added p)

  module _ (starts : List Env) (st : IsStarts starts) where
    pub starts_shaped : graph.Shaped (graph_of o s) starts
    starts_shaped = record {
      count = st.count;
      fitting = λ p small. is_fits o _ _ _ (elim (st.each p small) [
        | inl i ↦ subst (λ (e : Env). is p e) (sym (st.entries i.0 p i.1)) (rules.entry_is o s.shared (locals_at s p))
        | inr away ↦ subst (λ (e : Env). is p e) (sym (st.others p small away)) (rules.bottom_is o s.shared (locals_at s p))
      ]);
    }

    step_of : (k : ℕ) → k < length s.passages → slice_get s.passages k ≡ Some (passage_at s k)
    step_of k small = slice_get-get_or s.passages k some_passage small

    above_starts : (envs : List Env) → ((q : ℕ) → q < length s.locals → is q (env_at envs q)) → ((i q : ℕ) → slice_get s.entries i ≡ Some q → env_below (entry s.shared (locals_at s q) (all_locations o)) (env_at envs q) ≡ true)
        → (q : ℕ) → q < length s.locals → env_below (env_at starts q) (env_at envs q) ≡ true
    above_starts envs environments entries q small = elim (st.each q small) [
      | inl i ↦ subst (λ (e : Env). env_below e (env_at envs q) ≡ true) (sym (st.entries i.0 q i.1)) (entries i.0 q i.1)
      | inr away ↦ subst (λ (e : Env). env_below e (env_at envs q) ≡ true) (sym (st.others q small away)) (rules.bottom_least o s.shared (locals_at s q) (env_at envs q) (environments q small))
    ]

    pub into_graph : IsProgram s → (envs : List Env) → IsPretyping o s envs → graph.IsPretyping (graph_of o s) starts envs
    into_graph k envs p = record {
      shaped = record { count = p.count; fitting = λ q small. is_fits o _ _ _ (p.environments q small) };
      above = above_starts envs p.environments p.entries;
      stays = λ i small. p.flows i (passage_at s i) (step_of i small);
    }

    passage_is : (k : ℕ) (x : Passage) → slice_get s.passages k ≡ Some x → (k < length s.passages) × (passage_at s k ≡ x)
    passage_is k x h = (slice_get_within s.passages k x h, get_or_from_slice_get s.passages k x some_passage h)

    pub from_graph : IsProgram s → (envs : List Env) → graph.IsPretyping (graph_of o s) starts envs → IsPretyping o s envs
    from_graph k envs p = record {
      count = p.shaped.count;
      environments = λ q small. fits_is o _ _ _ (p.shaped.fitting q small);
      entries = λ i q e. subst (λ (x : Env). env_below x (env_at envs q) ≡ true) (st.entries i q e) (p.above q (k.entries_in i q e));
      flows = λ i x e. let y = passage_is i x e in subst (λ (z : Passage). env_below (led o (env_at envs z.from) z.prims) (env_at envs z.to) ≡ true) y.1 (p.stays i y.0);
    }

    -- the fault under an assignment is that of the step's list
    pub fault_is : (envs : List Env) (k i : ℕ) → k < length s.passages → fault_under o s envs k i ≡ fault_at o (env_at envs (passage_at s k).from) (passage_at s k).prims i
    fault_is envs k i small = ap (λ (x : Option Passage). fault_in o envs i x) (step_of k small)

    pub no_step : (envs : List Env) (k i : ℕ) → length s.passages ≤ k → fault_under o s envs k i ≡ None
    no_step envs k i past = ap (λ (x : Option Passage). fault_in o envs i x) (slice_get_past s.passages k past)

    past_faults : (e : Env) (ks : List Primitive) (i : ℕ) → length ks ≤ i → fault_at o e ks i ≡ None
    past_faults e [] i h = refl
    past_faults e (k ∷ ks) zero h = absurd (omega arith)
    past_faults e (k ∷ ks) (suc i) h = past_faults (env_after o e k) ks i (omega arith)

    pub typing_into_graph : IsProgram s → (envs : List Env) → IsTyping o s envs → graph.IsTyping (graph_of o s) starts envs
    typing_into_graph k envs t = record {
      pretyping = into_graph k envs t.pretyping;
      holding = λ l i small within. is_none_of _ (sym (fault_is envs l i small) ∙ t.holding l i);
    }

    -- environments that are begun are on the way, and a step that is typed in them is settled
    pub begun_rising : IsProgram s → (envs : List Env) (changed : List ℕ) → IsBegun o s envs changed → graph.Rising (graph_of o s) starts envs
    begun_rising k envs changed b = record {
      shaped = record { count = b.count; fitting = λ q small. is_fits o _ _ _ (b.environments q small) };
      above = above_starts envs b.environments b.entries;
      below_all = λ others p. b.below_all others (from_graph k others p);
    }

    pub typed_settled : (envs : List Env) (k : ℕ) → k < length s.passages → StepIsTyped o s envs k → Settled (graph_of o s) (MeetsAll (graph_of o s)) envs k
    typed_settled envs k small t = (t.flows (passage_at s k) (step_of k small), λ i within. is_none_of _ (sym (fault_is envs k i small) ∙ t.holding i))

    -- a condition that isn't one of the steps' is none
    held : (envs : List Env) (k i : ℕ) → (k < length s.passages → i < length (passage_at s k).prims → fault_at o (env_at envs (passage_at s k).from) (passage_at s k).prims i ≡ None) → fault_under o s envs k i ≡ None
    held envs k i h = elim (cases_lt k (length s.passages)) [
      | inr past ↦ no_step envs k i past
      | inl small ↦ fault_is envs k i small ∙ elim (cases_lt i (length (passage_at s k).prims)) [
        | inl within ↦ h small within
        | inr past ↦ past_faults (env_at envs (passage_at s k).from) (passage_at s k).prims i past
      ]
    ]

    pub strongest_is : IsProgram s → (envs : List Env) → graph.IsStrongest (graph_of o s) starts envs → IsStrongest o s envs
    strongest_is k envs p = record {
      pretyping = from_graph k envs p.pretyping;
      least = λ others q. p.below_all others (into_graph k others q);
    }

    -- the conditions of all steps hold
    pub typing_is : IsProgram s → (envs : List Env) → graph.IsStrongest (graph_of o s) starts envs → graph.HoldBelow (graph_of o s) envs (length s.passages) → IsTyping o s envs
    typing_is k envs p h = record {
      pretyping = from_graph k envs p.pretyping;
      holding = λ l i. held envs l i (λ small within. none_is _ (h l small i within));
    }

    -- the first condition that fails in the strongest pre-typing
    pub stuck_is : IsProgram s → (envs : List Env) (k i : ℕ) (fault : TypeFault) → graph.IsStrongest (graph_of o s) starts envs → graph.IsFirstFailing (graph_of o s) envs k i
        → fault_at o (env_at envs (passage_at s k).from) (passage_at s k).prims i ≡ Some fault → IsStuckAt o s k i fault
    stuck_is sk envs k i fault p first found =
        let stuck = stuck_at (graph_of o s) (lawful sk) starts envs k i p first in
        record {
          strongest = (envs, strongest_is sk envs p, fault_is envs k i stuck.step_in ∙ found);
          fails = λ others q holds. stuck.fails others (into_graph sk others q) (is_none_of _ (sym (fault_is others k i stuck.step_in) ∙ holds));
          least = λ l j before. (envs, from_graph sk envs p.pretyping, held envs l j (λ small within. none_is _ (earlier l j before within)));
        }
      where
        earlier : (l j : ℕ) → (l < k) ⊎ ((l ≡ k) × (j < i)) → j < length (passage_at s l).prims → is_none (fault_at o (env_at envs (passage_at s l).from) (passage_at s l).prims j) ≡ true
        earlier l j (inl e) within = first.earlier l e j within
        earlier l j (inr e) within = subst (λ (q : ℕ). is_none (fault_at o (env_at envs (passage_at s q).from) (passage_at s q).prims j) ≡ true) (sym e.0) (first.before j e.1)
