-- The work list: what is kept as points are taken from it and steps are looked at.
use Rattle.std.proofs.Common.{◌≡◌, ◌≢◌, ℕ, zero, suc, ◌+◌, ◌<◌, ◌≤◌, Bool, true, false, List, [], ◌∷◌, ◌++◌, length, get_or, set, replicate, refl, sym, ap, subst, ◌∙◌, arith, inl, inr, get_or-set_same, get_or-set_other, length-set}
use Rattle.std.specs.Prelude.{◌⊎◌}
use Rattle.std.proofs.lemmas.Bool.{cases_eq}
use Rattle.std.proofs.lemmas.List.{get_or-replicate, length-replicate, length_push}
use Rattle.plc_infer.specs.Iteration.{Graph, Laws, env_at, Shaped, Stays, Rising, IsStrongest, total}
use Rattle.plc_infer.specs.WorkLists.{Among, numbers, is_marked, Puts, Settled, Unasked, UnderWay, Looked, Gains}
use Rattle.plc_infer.proofs.Lists.{among_first, among_last, among_numbers, numbers_below}
use Rattle.plc_infer.proofs.Climb.{rising_start, rising_raised, total_raised, led_fits}

unmarked : (b : Bool) → b ≡ false → b ≡ true → ⊥
unmarked b x y = cc

-- ---- marks

marked_more : (marks : List Bool) (p q : ℕ) → p < length marks → is_marked marks q ≡ true → is_marked (set marks p true) q ≡ true
marked_more marks p q small h = elim (cases_eq q p) [
  | inl e ↦ subst (λ (i : ℕ). get_or (set marks p true) i false ≡ true) (sym e) (get_or-set_same marks p true false small)
  | inr ne ↦ get_or-set_other marks p q true false ne ∙ h
]

put_marks : (p q : ℕ) (queue queue' : List ℕ) (marks marks' : List Bool) → p < length marks → Puts p queue queue' marks marks' → is_marked marks q ≡ true → is_marked marks' q ≡ true
put_marks p q queue queue' marks marks' small (inl x) h = subst (λ (m : List Bool). is_marked m q ≡ true) (sym x.2) h
put_marks p q queue queue' marks marks' small (inr x) h = subst (λ (m : List Bool). is_marked m q ≡ true) (sym x.1) (marked_more marks p q small h)

put_marked : (p : ℕ) (queue queue' : List ℕ) (marks marks' : List Bool) → p < length marks → Puts p queue queue' marks marks' → is_marked marks' p ≡ true
put_marked p queue queue' marks marks' small (inl x) = subst (λ (m : List Bool). is_marked m p ≡ true) (sym x.2) x.0
put_marked p queue queue' marks marks' small (inr x) = subst (λ (m : List Bool). is_marked m p ≡ true) (sym x.1) (get_or-set_same marks p true false small)

put_queued : (p : ℕ) (queue queue' : List ℕ) (marks marks' : List Bool) → Puts p queue queue' marks marks' → ((q : ℕ) → is_marked marks q ≡ true → Among queue q) → (q : ℕ) → is_marked marks' q ≡ true → Among queue' q
put_queued p queue queue' marks marks' (inl x) h q m = subst (λ (xs : List ℕ). Among xs q) (sym x.1) (h q (subst (λ (ms : List Bool). is_marked ms q ≡ true) x.2 m))
put_queued p queue queue' marks marks' (inr x) h q m = subst (λ (xs : List ℕ). Among xs q) (sym x.0) (elim (cases_eq q p) [
  | inl e ↦ subst (Among (queue ++ p ∷ [])) (sym e) (among_last queue p)
  | inr ne ↦ among_first queue (p ∷ []) q (h q (sym (get_or-set_other marks p q true false ne) ∙ subst (λ (ms : List Bool). is_marked ms q ≡ true) x.1 m))
])

put_points : (p n : ℕ) (queue queue' : List ℕ) (marks marks' : List Bool) → p < n → Puts p queue queue' marks marks' → ((q : ℕ) → Among queue q → q < n) → (q : ℕ) → Among queue' q → q < n
put_points p n queue queue' marks marks' small (inl x) h q m = h q (subst (λ (xs : List ℕ). Among xs q) x.1 m)
put_points p n queue queue' marks marks' small (inr x) h q m = last queue h (subst (λ (xs : List ℕ). Among xs q) x.0 m)
  where
    last : (xs : List ℕ) → ((q : ℕ) → Among xs q → q < n) → Among (xs ++ p ∷ []) q → q < n
    last [] g (inl e) = omega arith
    last [] g (inr k) = absurd k
    last (y ∷ ys) g (inl e) = g q (inl e)
    last (y ∷ ys) g (inr k) = last ys (λ r l. g r (inr l)) k

put_count : (p : ℕ) (queue queue' : List ℕ) (marks marks' : List Bool) → Puts p queue queue' marks marks' → length marks' ≡ length marks
put_count p queue queue' marks marks' (inl x) = ap length x.2
put_count p queue queue' marks marks' (inr x) = ap length x.1 ∙ length-set marks p true

put_length : (p : ℕ) (queue queue' : List ℕ) (marks marks' : List Bool) → Puts p queue queue' marks marks' → length queue' ≤ length queue + 1
put_length p queue queue' marks marks' (inl x) = let e = ap length x.1 in omega arith
put_length p queue queue' marks marks' (inr x) = let e = ap length x.0 ∙ length_push queue p in omega arith

module _ {E : Type 0} (g : Graph E) (laws : Laws g) where
  -- all points are on the list
  pub begun : (starts : List E) (queue : List ℕ) (marks : List Bool) → Shaped g starts → queue ≡ numbers g.points → marks ≡ replicate g.points true → UnderWay g Unasked starts starts queue marks []
  begun starts queue marks s q m = record {
    rising = rising_start g laws starts s;
    count = ap length m ∙ length-replicate g.points true;
    points = λ p a. numbers_below g.points p (subst (λ (xs : List ℕ). Among xs p) q a);
    queued = λ p h. subst (λ (xs : List ℕ). Among xs p) (sym q) (among_numbers g.points p (small_of p (subst (λ (ms : List Bool). is_marked ms p ≡ true) m h)));
    steps = λ k a. absurd a;
    left = λ k small. inr (inl (subst (λ (ms : List Bool). is_marked ms (g.from k) ≡ true) (sym m) (get_or-replicate g.points (g.from k) true false (laws.from_in k small))));
  }
    where
      past : (n p : ℕ) → get_or (replicate n true) p false ≡ true → p < n
      past zero p h = absurd (unmarked _ refl h)
      past (suc n) zero h = omega arith
      past (suc n) (suc p) h = let r = past n p h in omega arith

      small_of : (p : ℕ) → is_marked (replicate g.points true) p ≡ true → p < g.points
      small_of p h = past g.points p h

  -- no point is on the list, and some steps are to be looked at
  pub begun_with : (asked : ℕ → E → Type 0) (starts envs : List E) (queue : List ℕ) (marks : List Bool) (todo : List ℕ) → Rising g starts envs → queue ≡ [] → marks ≡ replicate g.points false
      → ((k : ℕ) → Among todo k → k < g.steps) → ((k : ℕ) → k < g.steps → Among todo k ⊎ Settled g asked envs k) → UnderWay g asked starts envs queue marks todo
  begun_with asked starts envs queue marks todo r q m known rest = record {
    rising = r;
    count = ap length m ∙ length-replicate g.points false;
    points = λ p a. absurd (subst (λ (xs : List ℕ). Among xs p) q a);
    queued = λ p h. absurd (none g.points p (subst (λ (ms : List Bool). is_marked ms p ≡ true) m h));
    steps = known;
    left = λ k small. swap k (rest k small);
  }
    where
      none : (n p : ℕ) → get_or (replicate n false) p false ≡ true → ⊥
      none zero p h = unmarked _ refl h
      none (suc n) zero h = unmarked _ refl h
      none (suc n) (suc p) h = none n p h

      swap : (k : ℕ) → Among todo k ⊎ Settled g asked envs k → Settled g asked envs k ⊎ (is_marked marks (g.from k) ≡ true) ⊎ Among todo k
      swap k (inl a) = inr (inr a)
      swap k (inr s) = inl s

  -- a point is taken, and the steps that leave it are to be looked at
  pub taken : (asked : ℕ → E → Type 0) (starts envs : List E) (p : ℕ) (queue : List ℕ) (marks : List Bool) (steps : List ℕ) → UnderWay g asked starts envs (p ∷ queue) marks [] → ((k : ℕ) → k < g.steps → g.from k ≡ p → Among steps k) → ((k : ℕ) → Among steps k → k < g.steps)
      → UnderWay g asked starts envs queue (set marks p false) steps
  taken asked starts envs p queue marks steps u all in_steps = record {
    rising = u.rising;
    count = length-set marks p false ∙ u.count;
    points = λ q a. u.points q (inr a);
    queued = λ q h. others q h (cases_eq q p);
    steps = in_steps;
    left = λ k small. kept k small (u.left k small) (cases_eq (g.from k) p);
  }
    where
      small : p < length marks
      small = subst (λ (n : ℕ). p < n) (sym u.count) (u.points p (inl refl))

      tail : (q : ℕ) → q ≢ p → Among (p ∷ queue) q → Among queue q
      tail q ne (inl e) = absurd (ne (sym e))
      tail q ne (inr a) = a

      others : (q : ℕ) → is_marked (set marks p false) q ≡ true → (q ≡ p) ⊎ (q ≢ p) → Among queue q
      others q h (inl e) = absurd (unmarked _ (get_or-set_same marks p false false small) (subst (λ (i : ℕ). is_marked (set marks p false) i ≡ true) e h))
      others q h (inr ne) = tail q ne (u.queued q (sym (get_or-set_other marks p q false false ne) ∙ h))

      kept : (k : ℕ) → k < g.steps → Settled g asked envs k ⊎ (is_marked marks (g.from k) ≡ true) ⊎ Among [] k → (g.from k ≡ p) ⊎ (g.from k ≢ p)
          → Settled g asked envs k ⊎ (is_marked (set marks p false) (g.from k) ≡ true) ⊎ Among steps k
      kept k within h (inl e) = inr (inr (all k within e))
      kept k within (inl h) (inr ne) = inl h
      kept k within (inr (inl h)) (inr ne) = inr (inl (get_or-set_other marks p (g.from k) false false ne ∙ h))
      kept k within (inr (inr h)) (inr ne) = absurd h

  -- no point is left: each step is settled
  pub settled : (asked : ℕ → E → Type 0) (starts envs : List E) (marks : List Bool) → UnderWay g asked starts envs [] marks [] → (k : ℕ) → k < g.steps → Settled g asked envs k
  settled asked starts envs marks u k small = settle (u.left k small)
    where
      settle : Settled g asked envs k ⊎ (is_marked marks (g.from k) ≡ true) ⊎ Among [] k → Settled g asked envs k
      settle (inl h) = h
      settle (inr (inl h)) = absurd (u.queued (g.from k) h)
      settle (inr (inr h)) = absurd h

  pub ended : (asked : ℕ → E → Type 0) (starts envs : List E) (marks : List Bool) → UnderWay g asked starts envs [] marks [] → IsStrongest g starts envs
  ended asked starts envs marks u = record {
    pretyping = record { shaped = u.rising.shaped; above = u.rising.above; stays = λ k small. (settled asked starts envs marks u k small).0 };
    below_all = u.rising.below_all;
  }

  -- a step is settled as it is
  passed_over : (asked : ℕ → E → Type 0) (starts envs : List E) (queue : List ℕ) (marks : List Bool) (k : ℕ) (todo : List ℕ) → UnderWay g asked starts envs queue marks (k ∷ todo) → Settled g asked envs k → UnderWay g asked starts envs queue marks todo
  passed_over asked starts envs queue marks k todo u h = record {
    rising = u.rising;
    count = u.count;
    points = u.points;
    queued = u.queued;
    steps = λ j a. u.steps j (inr a);
    left = λ j small. kept j (u.left j small);
  }
    where
      kept : (j : ℕ) → Settled g asked envs j ⊎ (is_marked marks (g.from j) ≡ true) ⊎ Among (k ∷ todo) j → Settled g asked envs j ⊎ (is_marked marks (g.from j) ≡ true) ⊎ Among todo j
      kept j (inl x) = inl x
      kept j (inr (inl x)) = inr (inl x)
      kept j (inr (inr (inl e))) = inl (subst (Settled g asked envs) e h)
      kept j (inr (inr (inr a))) = inr (inr a)

  module _ (envs : List E) (k : ℕ) (small : k < g.steps) (s : Shaped g envs) where
    abbrev made : E
    made = g.joined (env_at g envs (g.to k)) (g.after k (env_at g envs (g.from k)))

    abbrev new : List E
    new = set envs (g.to k) made

    to_in : g.to k < g.points
    to_in = laws.to_in k small

    inside : g.to k < length envs
    inside = subst (λ (n : ℕ). g.to k < n) (sym s.count) to_in

    here : env_at g new (g.to k) ≡ made
    here = get_or-set_same envs (g.to k) made g.bottom inside

    there : (p : ℕ) → p ≢ g.to k → env_at g new p ≡ env_at g envs p
    there p ne = get_or-set_other envs (g.to k) p made g.bottom ne

    leads : (j : ℕ) → j < g.steps → g.fits (g.to j) (g.after j (env_at g envs (g.from j))) ≡ true
    leads j within = led_fits g laws envs j within s

    -- a step from another point that led to no more than its last point had does so still
    stays_still : (j : ℕ) → j < g.steps → g.from j ≢ g.to k → Stays g envs j → (g.to j ≡ g.to k) ⊎ (g.to j ≢ g.to k) → Stays g new j
    stays_still j within ne h (inr away) =
        rw (there (g.from j) ne, there (g.to j) away) h
    stays_still j within ne h (inl same) =
        let fits_j : g.fits (g.to k) (g.after j (env_at g envs (g.from j))) ≡ true = subst (λ (p : ℕ). g.fits p (g.after j (env_at g envs (g.from j))) ≡ true) same (leads j within) in
        let below_j : g.below (g.after j (env_at g envs (g.from j))) (env_at g envs (g.to k)) ≡ true = subst (λ (p : ℕ). g.below (g.after j (env_at g envs (g.from j))) (env_at g envs p) ≡ true) same h in
        let old_fits = s.fitting (g.to k) to_in in
        let up = laws.trans (g.to k) _ _ _ fits_j old_fits (laws.join_fits (g.to k) _ _ old_fits (leads k small)) below_j (laws.left (g.to k) _ _ old_fits (leads k small)) in
        let at_k : g.below (g.after j (env_at g envs (g.from j))) (env_at g new (g.to k)) ≡ true = subst (λ (e : E). g.below (g.after j (env_at g envs (g.from j))) e ≡ true) (sym here) up in
        let at_j : g.below (g.after j (env_at g envs (g.from j))) (env_at g new (g.to j)) ≡ true = subst (λ (p : ℕ). g.below (g.after j (env_at g envs (g.from j))) (env_at g new p) ≡ true) (sym same) at_k in
        subst (λ (e : E). g.below (g.after j e) (env_at g new (g.to j)) ≡ true) (sym (there (g.from j) ne)) at_j

    -- the step itself leads to no more now
    stays_now : g.from k ≢ g.to k → Stays g new k
    stays_now ne =
        let up = laws.right (g.to k) _ _ (s.fitting (g.to k) to_in) (leads k small) in
        let at_k : g.below (g.after k (env_at g envs (g.from k))) (env_at g new (g.to k)) ≡ true = subst (λ (e : E). g.below (g.after k (env_at g envs (g.from k))) e ≡ true) (sym here) up in
        subst (λ (e : E). g.below (g.after k e) (env_at g new (g.to k)) ≡ true) (sym (there (g.from k) ne)) at_k

  -- a step raised its last point, which is on the list now
  went_up : (asked : ℕ → E → Type 0) (starts envs : List E) (queue queue' : List ℕ) (marks marks' : List Bool) (k : ℕ) (todo : List ℕ) → Shaped g starts → UnderWay g asked starts envs queue marks (k ∷ todo) → Puts (g.to k) queue queue' marks marks' → asked k (env_at g envs (g.from k))
      → UnderWay g asked starts (set envs (g.to k) (g.joined (env_at g envs (g.to k)) (g.after k (env_at g envs (g.from k))))) queue' marks' todo
  went_up asked starts envs queue queue' marks marks' k todo first u x given = record {
    rising = rising_raised g laws starts envs k small first u.rising;
    count = put_count (g.to k) queue queue' marks marks' x ∙ u.count;
    points = put_points (g.to k) g.points queue queue' marks marks' (laws.to_in k small) x u.points;
    queued = put_queued (g.to k) queue queue' marks marks' x u.queued;
    steps = λ j a. u.steps j (inr a);
    left = λ j within. elim (cases_eq (g.from j) (g.to k)) [
      | inl e ↦ inr (inl (subst (λ (p : ℕ). is_marked marks' p ≡ true) (sym e) (put_marked (g.to k) queue queue' marks marks' mark_in x)))
      | inr ne ↦ kept j within ne (u.left j within)
    ];
  }
    where
      small : k < g.steps
      small = u.steps k (inl refl)

      mark_in : g.to k < length marks
      mark_in = subst (λ (n : ℕ). g.to k < n) (sym u.count) (laws.to_in k small)

      -- what is asked of a step's first environment is what was asked of it before
      asked_still : (j : ℕ) → g.from j ≢ g.to k → asked j (env_at g envs (g.from j)) → asked j (env_at g (new envs k small u.rising.shaped) (g.from j))
      asked_still j ne h = subst (asked j) (sym (there envs k small u.rising.shaped (g.from j) ne)) h

      now : g.from k ≢ g.to k → Settled g asked (new envs k small u.rising.shaped) k
      now ne = (stays_now envs k small u.rising.shaped ne, asked_still k ne given)

      kept : (j : ℕ) → j < g.steps → g.from j ≢ g.to k → Settled g asked envs j ⊎ (is_marked marks (g.from j) ≡ true) ⊎ Among (k ∷ todo) j
          → Settled g asked (new envs k small u.rising.shaped) j ⊎ (is_marked marks' (g.from j) ≡ true) ⊎ Among todo j
      kept j within ne (inl h) = inl (stays_still envs k small u.rising.shaped j within ne h.0 (cases_eq (g.to j) (g.to k)), asked_still j ne h.1)
      kept j within ne (inr (inl h)) = inr (inl (put_marks (g.to k) (g.from j) queue queue' marks marks' mark_in x h))
      kept j within ne (inr (inr (inl e))) = inl (subst (Settled g asked (new envs k small u.rising.shaped)) e (now (λ same. ne (subst (λ (i : ℕ). g.from i ≡ g.to k) e same))))
      kept j within ne (inr (inr (inr a))) = inr (inr a)

  -- one step less to be looked at
  pub looked : (asked : ℕ → E → Type 0) (starts envs new : List E) (queue queue' : List ℕ) (marks marks' : List Bool) (k : ℕ) (todo : List ℕ) → Shaped g starts → UnderWay g asked starts envs queue marks (k ∷ todo) → Looked g k envs new queue queue' marks marks' → asked k (env_at g envs (g.from k))
      → UnderWay g asked starts new queue' marks' todo
  looked asked starts envs new queue queue' marks marks' k todo first u (inl x) given =
      rw (x.0.1, x.1, x.2) (passed_over asked starts envs queue marks k todo u (x.0.0, given))
  looked asked starts envs new queue queue' marks marks' k todo first u (inr x) given =
      rw x.0.1 (went_up asked starts envs queue queue' marks marks' k todo first u x.1 given)

  pub gains : (envs new : List E) (queue queue' : List ℕ) (marks marks' : List Bool) (k : ℕ) → k < g.steps → Shaped g envs → Looked g k envs new queue queue' marks marks' → Gains g envs new queue queue'
  gains envs new queue queue' marks marks' k small s (inl x) = let e = ap (total g) x.0.1 in let l = ap length x.1 in omega arith
  gains envs new queue queue' marks marks' k small s (inr x) =
      let more = total_raised g laws envs k small s x.0.0 in
      let e = ap (total g) x.0.1 in
      let l = put_length (g.to k) queue queue' marks marks' x.1 in
      omega arith

pub gains_more : {E : Type 0} (g : Graph E) (a b c : List E) (x y z : List ℕ) → length y + total g a ≤ length x + total g b → length z + total g b ≤ length y + total g c → length z + total g a ≤ length x + total g c
gains_more g a b c x y z h k = omega arith
