-- Obligations that are alike have one ground set: of the other thread's point it has the locals of its operation and
-- the clauses there, and nothing else.
use Rattle.std.specs.Prelude.{◌≡◌, ◌==◌, Contains, ℕ, Bool, true, not, cond, List, [], ◌∷◌, map, filter, slice_get}
use Rattle.std.specs.List.{list_all, position_or_len}
use Rattle.std.proofs.Common.{refl, sym, ap, ◌∙◌, subst, ◌+◌, inl, inr, ◌⊎◌}
use Rattle.std.proofs.lemmas.Bool.{eqb-true, and_parts, false≢true}
use Rattle.plc_base.specs.declared.ids.PointId.{PointId}
use Rattle.plc_base.specs.declared.ids.StepId.{StepId}
use Rattle.plc_lang.specs.declared.syntax.Local.{Local}
use Rattle.plc_flow.specs.declared.flow.Flow.{Flow}
use Rattle.plc_logic.specs.declared.clause.Item.{Item}
use Rattle.plc_logic.specs.declared.clause.Outline.{Outline}
use Rattle.plc_ground.specs.declared.terms.GroundSet.{GroundSet}
use Rattle.plc_ground.specs.declared.terms.Symbol.TheVariants.{Theirs}
use Rattle.plc_symbolic.specs.declared.symbolic.SymbolicTerm.{SymbolicTerm}
use Rattle.plc_symbolic.specs.declared.symbolic.SymbolicTerm.TheVariants.{Constant, Application}
use Rattle.plc_symbolic.specs.Numbering.{Drafted, blank, listed_all, written_all, numbered}
use Rattle.plc_vocabulary.specs.declared.acts.Act.{Act}
use Rattle.plc_vocabulary.specs.declared.setting.Setting.{Setting}
use Rattle.plc_vocabulary.specs.declared.obligations.Obligation.{Obligation}
use Rattle.plc_vocabulary.specs.declared.obligations.Obligation.TheVariants.{Start, Enter, Own, Other, Claim}
use Rattle.plc_vocabulary.specs.Parts.{has_point, point_locals}
use Rattle.plc_vocabulary.specs.Points.{stands_at, clauses_at}
use Rattle.plc_base.specs.Booleans.{same_bool}
use Rattle.plc_base.proofs.Booleans.{same_if}
use Rattle.plc_vocabulary.specs.Setting.{variables_of, bound_of, without_nodes, with_nodes, setting_of}
use Rattle.plc_vocabulary.specs.Sorts.{sort_of, local_sort}
use Rattle.plc_encoding.specs.Items.{clauses_of}
use Rattle.plc_oblig.specs.GroundSets.{ground_set, drafted, listed_first}
use Rattle.plc_oblig.specs.Alike.{share_gate, share_item, are_points_alike, are_alike}

-- tests that answer alike on each element find the same place, and leave the same
same_place : {A : Type 0} (f g : A → Bool) (xs : List A) → list_all (λ x. same_bool (f x) (g x)) xs ≡ true
    → position_or_len f xs ≡ position_or_len g xs
same_place f g [] h = refl
same_place f g (x ∷ xs) h =
    let p = and_parts (same_bool (f x) (g x)) _ h in
    go (f x) (g x) (same_if (f x) (g x) p.0) (same_place f g xs p.1)
  where
    go : (a b : Bool) {m n : ℕ} → a ≡ b → m ≡ n → cond (not a) (1 + m) 0 ≡ cond (not b) (1 + n) 0
    go a b e h = cc

same_left : {A : Type 0} (f g : A → Bool) (xs : List A) → list_all (λ x. same_bool (f x) (g x)) xs ≡ true
    → filter f xs ≡ filter g xs
same_left f g [] h = refl
same_left f g (x ∷ xs) h =
    let p = and_parts (same_bool (f x) (g x)) _ h in
    let e = same_if (f x) (g x) p.0 in
    let r = same_left f g xs p.1 in
    cc

-- the locals and the clauses of points that are alike
same_locals : (flow : Flow) (p q : ℕ) → list_all (share_gate p q) flow.gates ≡ true → point_locals flow p ≡ point_locals flow q
same_locals flow p q h = (let e = same_place (has_point p) (has_point q) flow.gates h in cc)

same_clauses : (flow : Flow) (outline : Outline) (p q : ℕ) → list_all (share_item flow p q) outline.items ≡ true
    → clauses_at flow outline p ≡ clauses_at flow outline q
same_clauses flow outline p q h =
    ap (map (λ (i : Item). i.clause)) (same_left (stands_at flow p) (stands_at flow q) outline.items h)

-- ---- one set for both

-- the sort of each term is the same where the owner's locals are
same_sort : (flow : Flow) (k : StepId) (c : ℕ) (p q : PointId) (acts : List Act) → point_locals flow p.0 ≡ point_locals flow q.0
    → (t : SymbolicTerm) → sort_of flow (Other k p c) acts t ≡ sort_of flow (Other k q c) acts t
same_sort flow k c p q acts e (Constant (Theirs i)) = ap (λ (ls : List Local). local_sort (slice_get ls i)) e
same_sort flow k c p q acts e (Constant _) = refl
same_sort flow k c p q acts e (Application m v n) = refl

same_map : {A B : Type 0} (f g : A → B) → ((x : A) → f x ≡ g x) → (xs : List A) → map f xs ≡ map g xs
same_map f g same [] = refl
same_map f g same (x ∷ xs) = (let e = same x in let r = same_map f g same xs in cc)

same_setting : (flow : Flow) (outline : Outline) (k : StepId) (c : ℕ) (p q : PointId) → point_locals flow p.0 ≡ point_locals flow q.0
    → clauses_at flow outline p.0 ≡ clauses_at flow outline q.0
    → setting_of flow outline (Other k p c) ≡ setting_of flow outline (Other k q c)
same_setting flow outline k c p q locals clauses = λ i. with_nodes flow outline
    (record (without_nodes flow outline (Other k p c)) {
      theirs = variables_of true (locals i);
      bound = bound_of (slice_get (clauses i) c);
    })

same_items : (flow : Flow) (outline : Outline) (s : Setting) (k : StepId) (c : ℕ) (p q : PointId)
    → clauses_at flow outline p.0 ≡ clauses_at flow outline q.0
    → clauses_of flow outline s (Other k p c) ≡ clauses_of flow outline s (Other k q c)
unfolding clauses_of
same_items flow outline s k c p q clauses = cc

same_set : (flow : Flow) (outline : Outline) (k : StepId) (c : ℕ) (p q : PointId) → point_locals flow p.0 ≡ point_locals flow q.0
    → clauses_at flow outline p.0 ≡ clauses_at flow outline q.0
    → ground_set flow outline (Other k p c) ≡ ground_set flow outline (Other k q c)
unfolding ground_set
same_set flow outline k c p q locals clauses =
    let a = Other k p c in
    let b = Other k q c in
    let s = setting_of flow outline b in
    let terms = (drafted flow outline s b).terms in
    ap (λ (s : Setting). set_in s (drafted flow outline s a) a) (same_setting flow outline k c p q locals clauses)
    ∙ ap (λ cs. set_in s (written_all (listed_all blank (listed_first flow outline s)) cs) a) (same_items flow outline s k c p q clauses)
    ∙ ap (λ sorts. numbered sorts (drafted flow outline s b))
    (same_map (sort_of flow a s.acts) (sort_of flow b s.acts) (same_sort flow k c p q s.acts locals) terms)
  where
    set_in : Setting → Drafted → Obligation → GroundSet
    set_in s d o = numbered (map (sort_of flow o s.acts) d.terms) d

pub step_is : (k m : StepId) → k.0 ≡ m.0 → k ≡ m
step_is k m same = ap numbered_step same
  where
    numbered_step : ℕ → StepId
    numbered_step n = record { 0 = n }

pub point_is : (p q : PointId) → p.0 ≡ q.0 → p ≡ q
point_is p q same = ap numbered_point same
  where
    numbered_point : ℕ → PointId
    numbered_point n = record { 0 = n }

same_other : (flow : Flow) (outline : Outline) (k m : StepId) (p q : PointId) (c d : ℕ) → k.0 ≡ m.0 → c ≡ d
    → are_points_alike flow outline p.0 q.0 ≡ true
    → ground_set flow outline (Other k p c) ≡ ground_set flow outline (Other m q d)
same_other flow outline k m p q c d step clause alike =
    let h = and_parts (list_all (share_gate p.0 q.0) flow.gates) _ alike in
    let whole = same_set flow outline k c p q (same_locals flow p.0 q.0 h.0) (same_clauses flow outline p.0 q.0 h.1) in
    let same = step_is k m step in
    subst (λ (m : StepId). ground_set flow outline (Other k p c) ≡ ground_set flow outline (Other m q d)) same
    (subst (λ d. ground_set flow outline (Other k p c) ≡ ground_set flow outline (Other k q d)) clause whole)

pub alike_sets : (flow : Flow) (outline : Outline) (a b : Obligation) → are_alike flow outline a b ≡ true
    → ground_set flow outline a ≡ ground_set flow outline b
alike_sets flow outline (Other k p c) (Other m q d) h =
    let step = and_parts (k.0 == m.0) _ h in
    let clause = and_parts (c == d) _ step.1 in
    same_other flow outline k m p q c d (eqb-true k.0 m.0 step.0) (eqb-true c d clause.0) clause.1
alike_sets flow outline (Other k p c) (Start i) h = absurd (false≢true h)
alike_sets flow outline (Other k p c) (Enter o d) h = absurd (false≢true h)
alike_sets flow outline (Other k p c) (Own m d) h = absurd (false≢true h)
alike_sets flow outline (Other k p c) (Claim m j) h = absurd (false≢true h)
alike_sets flow outline (Start i) b h = absurd (false≢true h)
alike_sets flow outline (Enter o d) b h = absurd (false≢true h)
alike_sets flow outline (Own m d) b h = absurd (false≢true h)
alike_sets flow outline (Claim m j) b h = absurd (false≢true h)

-- ---- what is known of obligations that were noted

pub more_noted : (P : Obligation × ℕ → Type 0) (old new : List (Obligation × ℕ)) (x : Obligation × ℕ)
    → ((y : Obligation × ℕ) → Contains old y → P y) → P x
    → ((y : Obligation × ℕ) → Contains new y → Contains old y ⊎ (y ≡ x)) → (y : Obligation × ℕ) → Contains new y → P y
more_noted P old new x all this more y among = go (more y among)
  where
    go : Contains old y ⊎ (y ≡ x) → P y
    go (inl before) = all y before
    go (inr is) = subst P (sym is) this
