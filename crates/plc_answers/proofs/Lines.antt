-- One name, and one label, after another.
use Rattle.std.proofs.Common.{◌≡◌, ◌+◌, ◌≤◌, ℕ, Bool, true, false, List, [], ◌∷◌, ◌++◌, length, drop, Some, refl, sym, ap, ◌∙◌, append_assoc}
use Rattle.std.specs.Prelude.{if◌then◌else◌, slice_get, map}
use Rattle.std.specs.Borrow.{Bor}
use Rattle.std.proofs.lemmas.List.{drop_all}
use Rattle.plc_base.specs.Mask.{has}
use Rattle.plc_base.specs.declared.ids.PointId.{PointId}
use Rattle.plc_auto.specs.declared.observer.Observer.{Observer}
use Rattle.plc_type.specs.declared.env.Env.{Env}
use Rattle.plc_flow.specs.declared.flow.Flow.{Flow}
use Rattle.plc_answers.specs.Typings.{member_names, label_lines}
use Rattle.plc_answers.specs.Unproved.{term_lines}
use Rattle.plc_base.proofs.Lists.{drop_there}

module _ (set l : ℕ) (all : List (List ℕ)) (n : List ℕ) (here : slice_get all l ≡ Some n) where
  chosen : (b : Bool) → has set l ≡ b → member_names set l (drop l all) ≡ (if b then n ∷ member_names set (l + 1) (drop (l + 1) all) else member_names set (l + 1) (drop (l + 1) all))
  chosen b e = ap (member_names set l) (drop_there all l n here) ∙ ap (λ c. if c then n ∷ member_names set (l + 1) (drop (l + 1) all) else member_names set (l + 1) (drop (l + 1) all)) e

  pub with_member : (xs : List (List ℕ)) → has set l ≡ true → (xs ++ n ∷ []) ++ member_names set (l + 1) (drop (l + 1) all) ≡ xs ++ member_names set l (drop l all)
  with_member xs e = append_assoc xs (n ∷ []) (member_names set (l + 1) (drop (l + 1) all)) ∙ ap (λ ys. xs ++ ys) (sym (chosen true e))

  pub without_member : has set l ≡ false → member_names set (l + 1) (drop (l + 1) all) ≡ member_names set l (drop l all)
  without_member e = sym (chosen false e)

-- labels without a point have no lines
pub no_lines : (flow : Flow) (o : Observer) (envs : List Env) (ns : List ℕ) (ps : List PointId) (i : ℕ) → length ps ≤ i → label_lines flow o envs (drop i ns) (drop i ps) ≡ []
no_lines flow o envs ns ps i e = ap (label_lines flow o envs (drop i ns)) (drop_all i ps e) ∙ unlabelled (drop i ns)
  where
    unlabelled : (ms : List ℕ) → label_lines flow o envs ms [] ≡ []
    unlabelled [] = refl
    unlabelled (m ∷ ms) = refl

-- the names of a list with one more
pub named_more : (xs : List (Bor (List ℕ))) (x : Bor (List ℕ)) (ys : List (List ℕ)) → map (λ n. n.now) (xs ++ x ∷ []) ++ ys ≡ (map (λ n. n.now) xs ++ x.now ∷ []) ++ ys
named_more [] x ys = refl
named_more (y ∷ xs) x ys = ap (λ zs. y.now ∷ zs) (named_more xs x ys)

-- terms without a class have no lines
pub no_term_lines : (i k : ℕ) (ts : List (List ℕ)) (cs : List ℕ) → length cs ≤ i → term_lines k ts (drop i cs) ≡ []
no_term_lines i k ts cs e = ap (term_lines k ts) (drop_all i cs e) ∙ unclassed ts
  where
    unclassed : (us : List (List ℕ)) → term_lines k us [] ≡ []
    unclassed [] = refl
    unclassed (u ∷ us) = refl
