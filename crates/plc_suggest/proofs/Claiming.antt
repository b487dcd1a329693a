-- The claims in front of a step, as the lists of a marked program are made.
use Rattle.std.proofs.Common.{◌≡◌, ◌≢◌, ℕ, zero, suc, ◌+◌, ◌<◌, ◌≤◌, Bool, true, false, cond, List, [], ◌∷◌, ◌++◌}
use Rattle.std.proofs.Common.{length, get_or, set, take, drop, map, replicate, append_assoc, refl, sym, ap, subst, ◌∙◌}
use Rattle.std.proofs.Common.{arith, inl, inr, get_or-set_same, get_or-set_other, length-set}
use Rattle.std.specs.Prelude.{◌⊎◌, ◌==◌, if◌then◌else◌, count_by}
use Rattle.std.proofs.lemmas.Bool.{cases_eq, eq-eqb, ne_eqb}
use Rattle.std.proofs.lemmas.List.Recursion.{is_count_by}
use Rattle.std.proofs.lemmas.List.{append-nil, drop_more, ext_get_or, get_or-replicate, get_or_read, length-replicate, get_or-map}
use Rattle.std.proofs.lemmas.List.{map_push, take_more}
use Rattle.plc_lang.specs.declared.syntax.Primitive.{Primitive}
use Rattle.plc_lang.specs.declared.syntax.Primitive.TheVariants.{Active}
use Rattle.plc_lang.specs.Skeleton.{Passage}
use Rattle.plc_flow.specs.declared.flow.Step.{Step}
use Rattle.plc_flow.specs.declared.flow.Flow.{Flow}
use Rattle.plc_flow.specs.Skeleton.{passage_of}
use Rattle.plc_infer.specs.declared.program.Edge.{Edge}
use Rattle.plc_infer.specs.Programs.{edge_of}
use Rattle.plc_suggest.specs.declared.spot.Spot.{Spot}
use Rattle.plc_suggest.specs.Spots.{claims_at, marked_from}
use Rattle.plc_suggest.specs.Marking.{HasClaims, prims_at, lists_of, with_lists}
use Rattle.plc_suggest.proofs.Defaults.{no_step}
use Rattle.plc_suggest.proofs.Chosen.{claims_append}

-- ---- the claims of a list of spots

-- the claim of one spot more, where it stands in front of the step
abbrev pub added : Bool → Spot → List Primitive → List Primitive
added here x claims = if here then Active x.var ∷ claims else claims

added_few : (here : Bool) (x : Spot) (claims : List Primitive) (n : ℕ) → length claims ≤ n
    → length (added here x claims) ≤ suc n
added_few true x claims n h = omega arith
added_few false x claims n h = omega arith

pub claims_few : (xs : List Spot) (k : ℕ) → length (claims_at xs k) ≤ length xs
claims_few [] k = omega arith
claims_few (x ∷ xs) k = added_few (x.step.0 == k) x (claims_at xs k) (length xs) (claims_few xs k)

added_length : (here : Bool) (x : Spot) (claims : List Primitive) → length (added here x claims) ≡ cond here
    (1 + length claims) (length claims)
added_length true x claims = omega arith
added_length false x claims = refl

pub claims_counted : (xs : List Spot) (k : ℕ) → length (claims_at xs k) ≡ count_by (λ (x : Spot). x.step.0 == k) xs
claims_counted xs k =
    is_count_by (λ (ys : List Spot). length (claims_at ys k)) (λ (x : Spot). x.step.0 == k) refl
    (λ x ys. added_length (x.step.0 == k) x (claims_at ys k)) xs

single_here : (x : Spot) (k : ℕ) → k ≡ x.step.0 → claims_at (x ∷ []) k ≡ Active x.var ∷ []
single_here x k e = ap (λ (b : Bool). added b x []) (eq-eqb x.step.0 k (sym e))

single_other : (x : Spot) (k : ℕ) → k ≢ x.step.0 → claims_at (x ∷ []) k ≡ []
single_other x k ne = ap (λ (b : Bool). added b x []) (ne_eqb x.step.0 k (λ (e : x.step.0 ≡ k). ne (sym e)))

-- ---- claims are put into lists

pub no_claims : (old : List (List Primitive)) (spots : List Spot) → HasClaims old old (take 0 spots)
no_claims old spots = record { count = refl; each = λ k small. sym (append-nil (get_or old k [])) }

pub claims_put : (old lists : List (List Primitive)) (spots : List Spot) (i : ℕ) (x : Spot) (row new : List Primitive)
    → i < length spots → x ≡ get_or spots i x → x.step.0 < length old → HasClaims old lists (take i spots)
    → row ≡ get_or lists x.step.0 row → new ≡ row ++ Active x.var ∷ []
    → HasClaims old (set lists x.step.0 new) (take (i + 1) spots)
claims_put old lists spots i x row new inside read small so_far at made = record {
  count = length-set lists x.step.0 new ∙ so_far.count;
  each = λ k less. go k less (cases_eq k x.step.0);
}
  where
    there : x.step.0 < length lists
    there = subst (λ (n : ℕ). x.step.0 < n) (sym so_far.count) small

    more : (k : ℕ) → claims_at (take (i + 1) spots) k ≡ claims_at (take i spots) k ++ claims_at (x ∷ []) k
    more k =
        ap (λ (xs : List Spot). claims_at xs k)
        (take_more spots i x inside ∙ ap (λ (y : Spot). take i spots ++ y ∷ []) (sym read))
        ∙ claims_append (take i spots) (x ∷ []) k

    row_is : row ≡ get_or old x.step.0 [] ++ claims_at (take i spots) x.step.0
    row_is = get_or_read lists x.step.0 row there at [] ∙ so_far.each x.step.0 small

    here : get_or (set lists x.step.0 new) x.step.0 [] ≡ get_or old x.step.0 [] ++ claims_at (take (i + 1) spots)
        x.step.0
    here =
        get_or-set_same lists x.step.0 new [] there ∙ made ∙ ap (λ (ps : List Primitive). ps ++ Active x.var ∷ [])
        row_is
        ∙ append_assoc (get_or old x.step.0 []) (claims_at (take i spots) x.step.0) (Active x.var ∷ [])
        ∙ ap (λ (ps : List Primitive). get_or old x.step.0 [] ++ (claims_at (take i spots) x.step.0 ++ ps))
        (sym (single_here x x.step.0 refl))
        ∙ ap (λ (ps : List Primitive). get_or old x.step.0 [] ++ ps) (sym (more x.step.0))

    go : (k : ℕ) → k < length old → (k ≡ x.step.0) ⊎ (k ≢ x.step.0)
        → get_or (set lists x.step.0 new) k [] ≡ get_or old k [] ++ claims_at (take (i + 1) spots) k
    go k less (inl e) = subst (λ (j : ℕ). get_or (set lists x.step.0 new) j [] ≡ get_or old j [] ++ claims_at
        (take (i + 1) spots) j) (sym e) here
    go k less (inr ne) =
        get_or-set_other lists x.step.0 k new [] ne ∙ so_far.each k less
        ∙ ap (λ (ps : List Primitive). get_or old k [] ++ ps)
        (sym (append-nil (claims_at (take i spots) k)) ∙ ap (λ (ps : List Primitive). claims_at (take i spots) k ++ ps)
        (sym (single_other x k ne)) ∙ sym (more k))

-- ---- and then primitives

-- the first n lists have the primitives of their steps at their ends
pub record HasPrims (flow : Flow) (old new : List (List Primitive)) (n : ℕ) : Type 0 where
  pub count : length new ≡ length old
  pub done : (k : ℕ) → k < n → get_or new k [] ≡ get_or old k [] ++ prims_at flow k
  pub left : (k : ℕ) → n ≤ k → get_or new k [] ≡ get_or old k []

pub no_prims : (flow : Flow) (old : List (List Primitive)) → HasPrims flow old old 0
no_prims flow old = record { count = refl; done = λ k small. absurd (omega arith); left = λ k large. refl }

pub prims_put : (flow : Flow) (old lists : List (List Primitive)) (n : ℕ) (row new : List Primitive) → n < length old
    → HasPrims flow old lists n → row ≡ get_or lists n row → new ≡ row ++ prims_at flow n
    → HasPrims flow old (set lists n new) (n + 1)
prims_put flow old lists n row new small so_far at made = record {
  count = length-set lists n new ∙ so_far.count;
  done = λ k less. go k less (cases_eq k n);
  left = λ k large. get_or-set_other lists n k new [] (λ (e : k ≡ n). omega arith) ∙ so_far.left k (omega arith);
}
  where
    there : n < length lists
    there = subst (λ (m : ℕ). n < m) (sym so_far.count) small

    here : get_or (set lists n new) n [] ≡ get_or old n [] ++ prims_at flow n
    here =
        get_or-set_same lists n new [] there ∙ made
        ∙ ap (λ (ps : List Primitive). ps ++ prims_at flow n)
        (get_or_read lists n row there at [] ∙ so_far.left n (omega arith))

    go : (k : ℕ) → k < n + 1 → (k ≡ n) ⊎ (k ≢ n) → get_or (set lists n new) k [] ≡ get_or old k [] ++ prims_at flow k
    go k less (inl e) = subst (λ (j : ℕ). get_or (set lists n new) j [] ≡ get_or old j [] ++ prims_at flow j)
        (sym e) here
    go k less (inr ne) = get_or-set_other lists n k new [] ne ∙ so_far.done k (omega arith)

-- ---- the lists of a marked program

pub lists_length : (spots : List Spot) (k : ℕ) (xs : List Step) → length (lists_of spots k xs) ≡ length xs
lists_length spots k [] = refl
lists_length spots k (x ∷ xs) = ap suc (lists_length spots (k + 1) xs)

lists_at : (spots : List Spot) (k : ℕ) (xs : List Step) (i : ℕ) → i < length xs
    → get_or (lists_of spots k xs) i [] ≡ claims_at spots (k + i) ++ (get_or xs i no_step).prims
lists_at spots k [] i small = absurd (omega arith)
lists_at spots k (x ∷ xs) zero small =
    let same : k ≡ k + 0 = omega arith in ap (λ (n : ℕ). claims_at spots n ++ x.prims) same
lists_at spots k (x ∷ xs) (suc i) small =
    let same : k + 1 + i ≡ k + suc i = omega arith in
    lists_at spots (k + 1) xs i (omega arith) ∙ ap (λ (n : ℕ). claims_at spots n ++ (get_or xs i no_step).prims) same

-- the primitives of a step
pub prims_are : (flow : Flow) (k : ℕ) → k < length flow.steps → prims_at flow k ≡ (get_or flow.steps k no_step).prims
prims_are flow k small = get_or-map (λ (x : Step). x.prims) flow.steps k no_step [] small

pub lists_made : (flow : Flow) (first rest : List Spot) (none some all lists : List (List Primitive))
    → none ≡ replicate (length flow.steps) [] → HasClaims none some first → HasClaims some all rest
    → length lists ≡ length all → ((k : ℕ) → k < length all → get_or lists k [] ≡ get_or all k [] ++ prims_at flow k)
    → lists ≡ lists_of (first ++ rest) 0 flow.steps
lists_made flow first rest none some all lists are_none a b count prims =
    ext_get_or [] lists (lists_of (first ++ rest) 0 flow.steps)
    (counted ∙ sym (lists_length (first ++ rest) 0 flow.steps)) (λ k less. at k (omega (arith, counted)))
  where
    none_count : length none ≡ length flow.steps
    none_count = ap length are_none ∙ length-replicate (length flow.steps) []

    counted : length lists ≡ length flow.steps
    counted = count ∙ b.count ∙ a.count ∙ none_count

    at : (k : ℕ) → k < length flow.steps → get_or lists k [] ≡ get_or (lists_of (first ++ rest) 0 flow.steps) k []
    at k small =
        let same : k ≡ 0 + k = omega arith in
        let some_in : k < length some = omega (arith, a.count, none_count) in
        let none_in : k < length none = omega (arith, none_count) in
        let all_in : k < length all = omega (arith, b.count, a.count, none_count) in
        prims k all_in
        ∙ ap (λ (ps : List Primitive). ps ++ prims_at flow k)
        (b.each k some_in
        ∙ ap (λ (ps : List Primitive). ps ++ claims_at rest k)
        (a.each k none_in ∙ ap (λ (ps : List Primitive). ps ++ claims_at first k)
        (ap (λ (ls : List (List Primitive)). get_or ls k []) are_none ∙ get_or-replicate (length flow.steps) k [] []
        small))
        ∙ sym (claims_append first rest k)
        ∙ ap (claims_at (first ++ rest)) same)
        ∙ ap (λ (ps : List Primitive). claims_at (first ++ rest) (0 + k) ++ ps) (prims_are flow k small)
        ∙ sym (lists_at (first ++ rest) 0 flow.steps k small)

-- with them the steps are those of the marked program
pub marked_with : (spots : List Spot) (k : ℕ) (xs : List Step) → with_lists (lists_of spots k xs) xs ≡ marked_from spots
    k (map passage_of xs)
marked_with spots k [] = refl
marked_with spots k (x ∷ xs) =
    ap (λ (ys : List Passage). record { from = x.from.0; to = x.to.0; prims = claims_at spots k ++ x.prims } ∷ ys)
    (marked_with spots (k + 1) xs)

-- ---- the steps of the marked program are made

-- a step with a list in place of its primitives
abbrev pub with_list : List Primitive → Step → Passage
with_list l x = record { from = x.from.0; to = x.to.0; prims = l }

pub edges_more : (lists : List (List Primitive)) (steps : List Step) (k : ℕ) (edges new : List Edge) (e : Edge)
    → k < length lists → k < length steps → edge_of e ≡ with_list (get_or lists k []) (get_or steps k no_step)
    → new ≡ edges ++ e ∷ [] → map edge_of edges ++ with_lists (drop k lists) (drop k steps) ≡ with_lists lists steps
    → map edge_of new ++ with_lists (drop (k + 1) lists) (drop (k + 1) steps) ≡ with_lists lists steps
edges_more lists steps k edges new e in_lists in_steps is made so_far =
    let left = with_lists (drop (k + 1) lists) (drop (k + 1) steps) in
    ap (λ (es : List Edge). map edge_of es ++ left) made
    ∙ ap (λ (xs : List Passage). xs ++ left) (map_push edge_of edges e)
    ∙ append_assoc (map edge_of edges) (edge_of e ∷ []) left
    ∙ ap (λ (x : Passage). map edge_of edges ++ x ∷ left) is
    ∙ ap (λ (xs : List Step). map edge_of edges ++ with_lists (get_or lists k [] ∷ drop (k + 1) lists) xs)
    (sym (drop_more steps k no_step in_steps))
    ∙ ap (λ (ls : List (List Primitive)). map edge_of edges ++ with_lists ls (drop k steps))
    (sym (drop_more lists k [] in_lists))
    ∙ so_far
