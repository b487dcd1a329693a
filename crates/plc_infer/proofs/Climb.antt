-- One step after another keeps what is known of the environments on the way to the strongest.
use Rattle.std.proofs.Common.{◌≡◌, ◌≢◌, ℕ, ◌*◌, ◌<◌, ◌≤◌, Bool, true, false, List, length, get_or, set, sym, subst, arith, inl, inr, get_or-set_same, get_or-set_other, length-set}
use Rattle.std.proofs.lemmas.List.Sums.{sum_by-set, sum_by-le}
use Rattle.std.proofs.lemmas.Bool.{cases_eq}
use Rattle.std.proofs.lemmas.List.Elements.{All-from_get_or}
use Rattle.plc_infer.specs.Iteration.{Graph, Laws, env_at, Shaped, IsStrongest, Rising, total, Holds, IsFirstFailing, IsStuckAt, IsEarlier}

-- what holds of the written element and of the others
at_set : {E : Type 0} (Q : ℕ → E → Type 0) (xs : List E) (i : ℕ) (v d : E) → i < length xs → Q i v → ((p : ℕ) → p ≢ i → Q p (get_or xs p d)) → (p : ℕ) → Q p (get_or (set xs i v) p d)
at_set Q xs i v d small here others p = elim (cases_eq p i) [
  | inl e ↦ let P : ℕ → Type 0 = λ q. Q q (get_or (set xs i v) q d) in subst P (sym e) (rw get_or-set_same here)
  | inr ne ↦ rw get_or-set_other (others p ne)
]

module _ {E : Type 0} (g : Graph E) (laws : Laws g) where
  abbrev led : List E → ℕ → E
  led envs k = g.after k (env_at g envs (g.from k))

  abbrev higher : List E → ℕ → E
  higher envs k = g.joined (env_at g envs (g.to k)) (led envs k)

  abbrev raised_at : List E → ℕ → List E
  raised_at envs k = set envs (g.to k) (higher envs k)

  pub led_fits : (envs : List E) (k : ℕ) → k < g.steps → Shaped g envs → g.fits (g.to k) (led envs k) ≡ true
  led_fits envs k small s = laws.after_fits k _ small (s.fitting (g.from k) (laws.from_in k small))

  to_in : (envs : List E) (k : ℕ) → k < g.steps → Shaped g envs → g.to k < length envs
  to_in envs k small s = rw s.count (laws.to_in k small)

  shaped_raised : (envs : List E) (k : ℕ) → k < g.steps → Shaped g envs → Shaped g (raised_at envs k)
  shaped_raised envs k small s = record {
    count = rw length-set s.count;
    fitting = at_set (λ p e. p < g.points → g.fits p e ≡ true) envs (g.to k) (higher envs k) g.bottom (to_in envs k small s)
        (λ h. laws.join_fits (g.to k) _ _ (s.fitting (g.to k) h) (led_fits envs k small s))
        (λ p ne h. s.fitting p h);
  }

  pub rising_raised : (starts envs : List E) (k : ℕ) → k < g.steps → Shaped g starts → Rising g starts envs → Rising g starts (raised_at envs k)
  rising_raised starts envs k small first r = record {
    shaped = shaped_raised envs k small r.shaped;
    above = at_set (λ p e. p < g.points → g.below (env_at g starts p) e ≡ true) envs (g.to k) (higher envs k) g.bottom (to_in envs k small r.shaped)
        (λ h. laws.trans (g.to k) _ _ _ (first.fitting (g.to k) h) (r.shaped.fitting (g.to k) h) (laws.join_fits (g.to k) _ _ (r.shaped.fitting (g.to k) h) (led_fits envs k small r.shaped)) (r.above (g.to k) h) (laws.left (g.to k) _ _ (r.shaped.fitting (g.to k) h) (led_fits envs k small r.shaped)))
        (λ p ne h. r.above p h);
    below_all = λ others t. at_set (λ p e. p < g.points → g.below e (env_at g others p) ≡ true) envs (g.to k) (higher envs k) g.bottom (to_in envs k small r.shaped)
        (λ h.
        let from = laws.from_in k small in
        let other_led = laws.after_fits k _ small (t.shaped.fitting (g.from k) from) in
        let grown = laws.keeps k _ _ small (r.shaped.fitting (g.from k) from) (t.shaped.fitting (g.from k) from) (r.below_all others t (g.from k) from) in
        laws.least (g.to k) _ _ _ (r.shaped.fitting (g.to k) h) (led_fits envs k small r.shaped) (t.shaped.fitting (g.to k) h) (r.below_all others t (g.to k) h)
        (laws.trans (g.to k) _ _ _ (led_fits envs k small r.shaped) other_led (t.shaped.fitting (g.to k) h) grown (t.stays k small)))
        (λ p ne h. r.below_all others t p h);
  }

  pub total_raised : (envs : List E) (k : ℕ) → k < g.steps → Shaped g envs → g.below (led envs k) (env_at g envs (g.to k)) ≡ false → total g envs < total g (raised_at envs k)
  total_raised envs k small s out =
      let more : g.size (env_at g envs (g.to k)) < g.size (higher envs k) = laws.grows (g.to k) _ _ (s.fitting (g.to k) (laws.to_in k small)) (led_fits envs k small s) out in
      omega (arith, more, sum_by-set g.size envs (g.to k) (higher envs k) g.bottom (to_in envs k small s))

  -- no environments are larger than this
  pub total_most : (envs : List E) → Shaped g envs → total g envs ≤ g.points * g.most
  total_most envs s = subst (λ (n : ℕ). total g envs ≤ n * g.most) s.count
      (sum_by-le g.size g.most envs (All-from_get_or (λ e. g.size e ≤ g.most) envs g.bottom (λ i small. laws.bounded i _ (s.fitting i (subst (λ (n : ℕ). i < n) s.count small)))))

  pub rising_start : (starts : List E) → Shaped g starts → Rising g starts starts
  rising_start starts s = record {
    shaped = s;
    above = λ p small. laws.same p _ (s.fitting p small);
    below_all = λ others t p small. t.above p small;
  }

  -- what fails first in the strongest pre-typing fails in all
  pub stuck_at : (starts envs : List E) (k i : ℕ) → IsStrongest g starts envs → IsFirstFailing g envs k i → IsStuckAt g starts k i
  stuck_at starts envs k i s f = record {
    step_in = f.step_in;
    condition_in = f.condition_in;
    fails = λ others t h.
        let from = laws.from_in k f.step_in in
        let here = laws.less k i _ _ f.step_in (s.pretyping.shaped.fitting (g.from k) from) (t.shaped.fitting (g.from k) from) (s.below_all others t (g.from k) from) h in
        let never : ⊥ = absurd_of (g.holds k i (env_at g envs (g.from k))) here f.fails in never;
    first = λ l j small within early. (envs, s.pretyping, earlier_holds l j small within early);
  }
    where
      absurd_of : (b : Bool) → b ≡ true → b ≡ false → ⊥
      absurd_of b x y = cc

      earlier_holds : (l j : ℕ) → l < g.steps → j < g.conditions l → IsEarlier l j k i → Holds g envs l j
      earlier_holds l j small within (inl e) = f.earlier l e j within
      earlier_holds l j small within (inr e) = subst (λ (q : ℕ). Holds g envs q j) (sym e.0) (f.before j e.1)
