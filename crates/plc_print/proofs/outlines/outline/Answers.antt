use Rattle.std.proofs.Common.{arith, ◌≡◌, ◌≢◌, ◌++◌, ◌∷◌, [], zero, suc, false, eqb, ℕ, List, Option, Some, None, OnOk, length, map, refl, sym, subst, ◌∙◌}
use Rattle.std.proofs.lemmas.Grind.{common_steps}
use Rattle.plc_syntax.specs.Trees.{kinds_of, Placed, ItemTree, OutlineTree, Outlined, maybe_then, outline_then}
use Rattle.plc_print.specs.Outlines.{invariant_tree, item_tree, depth_tree, unless_empty, outline_tree, item_trees}
use Rattle.plc_print.specs.Text.{text_of}
use Rattle.plc_print.proofs.outlines.outline.Goals.{else-outline-eq0-via-then-outline-eq0+then-is_empty+else-is_empty-2, else-outline-eq0-via-then-outline-eq0+else-is_empty, else-outline-eq0-via-else-outline-eq0}
use Rattle.plc_print.proofs.outlines.outline.Goals as goal

-- an outline with a depth stands in the text
with_depth : (n : ℕ) (items : List ItemTree) → n ≢ 0 → unless_empty (depth_tree n) items ≡ Some (Outlined (depth_tree n) items)
with_depth zero items some = absurd (some refl)
with_depth (suc n) items some = refl

-- so does one with invariants
with_invariants : {A : Type 0} → (tree : A → ItemTree) (d : Option (Placed ℕ)) (xs : List A) (others : List ItemTree) → eqb (length xs) 0 ≡ false → unless_empty d (map tree xs ++ others) ≡ Some (Outlined d (map tree xs ++ others))
with_invariants tree d [] others some = cc
with_invariants tree None (x ∷ xs) others some = refl
with_invariants tree (Some n) (x ∷ xs) others some = refl

-- and one with other items
with_items : {A : Type 0} → (tree : A → ItemTree) (d : Option (Placed ℕ)) (invariants : List ItemTree) (xs : List A) → eqb (length xs) 0 ≡ false → unless_empty d (invariants ++ map tree xs) ≡ Some (Outlined d (invariants ++ map tree xs))
with_items tree d [] [] some = cc
with_items tree None [] (x ∷ xs) some = refl
with_items tree (Some n) [] (x ∷ xs) some = refl
with_items tree None (i ∷ is) xs some = refl
with_items tree (Some n) (i ∷ is) xs some = refl

pub returns : goal.returns
returns c =
    let file = c.args.file.now in
    let o = c.args.outline.now in
    let stands : outline_tree file o ≡ Some (Outlined (depth_tree o.depth) (item_trees file o)) =
    elim c.else-outline-eq0.branch [
      | else-outline-eq0-via-then-outline-eq0+then-is_empty+else-is_empty-2 w ↦ with_items (item_tree file) (depth_tree o.depth) (map (invariant_tree file) o.invariants) o.items (sym w.is_empty-then-is_empty.ensures ∙ w.if-is_empty-2.false)
      | else-outline-eq0-via-then-outline-eq0+else-is_empty w ↦ with_invariants (invariant_tree file) (depth_tree o.depth) o.invariants (map (item_tree file) o.items) (sym w.is_empty.ensures ∙ w.if-is_empty.false)
      | else-outline-eq0-via-else-outline-eq0 w ↦ with_depth o.depth (item_trees file o) w.if-outline-eq0.false
    ] in
    subst (λ (t : Option OutlineTree). OnOk c.outlined.result (c.outlined.new.out.text.items ≡ c.args.out.now.text.items ++ text_of (kinds_of (maybe_then outline_then t [])))) (sym stands) c.outlined.ensures

pub returns-then-is_empty-2 : goal.returns-then-is_empty-2
returns-then-is_empty-2 c = grind (arith, common_steps)
