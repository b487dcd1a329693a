-- Inference goes on from the strongest typing of a program with more claims: each pre-typing with fewer claims is one
-- with more, so it's above, and only steps whose claims changed may lead too far.
use Rattle.std.proofs.Common.{◌≡◌, ℕ, ◌<◌, List, length, Option, None, sym, subst, ◌∙◌, ap, inl, inr}
use Rattle.std.specs.Prelude.{slice_get, option_map, Contains, ◌⊎◌}
use Rattle.plc_lang.specs.Skeleton.{Skeleton, Passage}
use Rattle.plc_lang.specs.declared.syntax.Primitive.{Primitive}
use Rattle.plc_auto.specs.declared.observer.Observer.{Observer}
use Rattle.plc_type.specs.declared.env.Env.{Env}
use Rattle.plc_xfer.specs.Typings.{fault_in, IsTyping, IsStrongest}
use Rattle.plc_infer.specs.Resuming.{StepIsTyped, IsBegun}
use Rattle.plc_suggest.specs.declared.spot.Spot.{Spot}
use Rattle.plc_suggest.specs.Spots.{claims_at, with_claims, marked}
use Rattle.plc_suggest.proofs.Claims.{HasFewerClaims}
use Rattle.plc_suggest.proofs.Marked.{marked_step, marked_count, pretyping_stays}

-- with the same claims it's the same step
same_step : (s : Skeleton) (ys xs : List Spot) (k : ℕ) → claims_at xs k ≡ claims_at ys k
    → slice_get (marked ys s).passages k ≡ slice_get (marked xs s).passages k
same_step s ys xs k same =
    marked_step s ys k
    ∙ ap (λ (claims : List Primitive). option_map (with_claims claims) (slice_get s.passages k)) (sym same)
    ∙ sym (marked_step s xs k)

-- and stays typed
step_stays_typed : (o : Observer) (s : Skeleton) (ys xs : List Spot) (envs : List Env) (k : ℕ)
    → IsTyping o (marked xs s) envs → claims_at xs k ≡ claims_at ys k → StepIsTyped o (marked ys s) envs k
step_stays_typed o s ys xs envs k t same = record {
  flows = λ x is. t.pretyping.flows k x (sym (same_step s ys xs k same) ∙ is);
  holding = λ i.
      subst (λ (step : Option Passage). fault_in o envs i step ≡ None) (sym (same_step s ys xs k same)) (t.holding k i);
}

step_typed : (o : Observer) (s : Skeleton) (ys xs : List Spot) (envs : List Env) (changed : List ℕ) (k : ℕ)
    → IsTyping o (marked xs s) envs → Contains changed k ⊎ (claims_at xs k ≡ claims_at ys k)
    → Contains changed k ⊎ StepIsTyped o (marked ys s) envs k
step_typed o s ys xs envs changed k t (inl h) = inl h
step_typed o s ys xs envs changed k t (inr h) = inr (step_stays_typed o s ys xs envs k t h)

-- what inference begins with after claims were left out
pub begun_after : (o : Observer) (s : Skeleton) (ys xs : List Spot) (envs : List Env) (changed : List ℕ)
    → HasFewerClaims ys xs → IsTyping o (marked xs s) envs → IsStrongest o (marked xs s) envs
    → ((k : ℕ) → k < length s.passages → Contains changed k ⊎ (claims_at xs k ≡ claims_at ys k))
    → IsBegun o (marked ys s) envs changed
unfolding marked
begun_after o s ys xs envs changed fewer t strongest left = record {
  count = t.pretyping.count;
  environments = t.pretyping.environments;
  entries = t.pretyping.entries;
  below_all = λ others p. strongest.least others (pretyping_stays o s ys xs others fewer p);
  typed = λ k small.
      step_typed o s ys xs envs changed k t (left k (subst (λ (n : ℕ). k < n) (marked_count s ys) small));
}
