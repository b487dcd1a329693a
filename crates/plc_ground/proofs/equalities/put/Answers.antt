use Rattle.std.proofs.Common.{arith, ◌≡◌, ◌∙◌, ◌++◌, ◌∷◌, [], subst, true, refl, slice_index}
use Rattle.std.proofs.lemmas.Grind.{common_steps}
use Rattle.plc_ground.specs.declared.terms.Lit.{Lit}
use Rattle.plc_ground.specs.Model.{equation}
use Rattle.plc_ground.specs.Classes.{IsClosure}
use Rattle.plc_ground.proofs.Joining.{closure_unequal, literal_is, IsMerged-longer, Same-newest, arguments_in_range}
use Rattle.plc_ground.proofs.Changing.{clashes_of_congruent, closure_put, extends_same, extends_more}
use Rattle.plc_ground.proofs.equalities.put.Goals as goal

pub returns-then-not-l-clause-closure : goal.returns-then-not-l-clause-closure
returns-then-not-l-clause-closure c = λ branch k. closure_unequal _ branch c.args.l _ (grind arith) k

pub returns-then-as_slice-x-clause-closure : goal.returns-then-as_slice-x-clause-closure
returns-then-as_slice-x-clause-closure c = λ branch k.
    let e : c.args.l.equal ≡ true = grind arith in
    let xy : slice_index c.args.equal.now.class c.args.l.left ≡ slice_index c.args.equal.now.class c.args.l.right =
    let s = c.as_slice.ensures in let t = c.as_slice-2.ensures in let h = c.if-as_slice-x.true in grind (arith, common_steps) in
    subst (λ (l : Lit). IsClosure c.args.set.now.terms (branch ++ l ∷ []) c.args.equal.now.class) (literal_is c.args.l e)
    (closure_put c.args.set.now.terms branch c.args.equal.now.class c.args.equal.now.class c.args.l.left c.args.l.right k
    (IsMerged-longer c.args.set.now.terms branch (equation c.args.l.left c.args.l.right) c.args.equal.now.class k.merged) refl xy (λ i j il jl p. p) c.requires.congruent)

pub settle-requires-clause-left : goal.settle-requires-clause-left
settle-requires-clause-left c =
    c.in_ok-join.ensures.joined.left c.args.set.now.terms (omega (arith, c.requires.one_each)) (arguments_in_range c.args.set.now c.requires.well)
    (clashes_of_congruent c.args.set.now.terms c.args.equal.now.class _ c.requires.congruent)

pub returns-clause-closure : goal.returns-clause-closure
returns-clause-closure c = λ branch k.
    let e : c.args.l.equal ≡ true = grind arith in
    let h = c.in_ok-join.ensures.joined in
    let t = c.in_ok-settle.ensures.settles in
    let m = t.kept (branch ++ equation c.args.l.left c.args.l.right ∷ [])
    (h.kept c.args.set.now.terms (branch ++ equation c.args.l.left c.args.l.right ∷ []) (IsMerged-longer c.args.set.now.terms branch (equation c.args.l.left c.args.l.right) c.args.equal.now.class k.merged)
    (Same-newest c.args.set.now.terms branch c.args.l.left c.args.l.right)) in
    subst (λ (l : Lit). IsClosure c.args.set.now.terms (branch ++ l ∷ []) c.settle.new.equal.class) (literal_is c.args.l e)
    (closure_put c.args.set.now.terms branch c.args.equal.now.class c.settle.new.equal.class c.args.l.left c.args.l.right k m (t.one_each ∙ h.one_each)
    (t.coarser c.args.l.left c.args.l.right (omega (arith, c.requires.range.0, c.requires.one_each, h.one_each)) (omega (arith, c.requires.range.1, c.requires.one_each, h.one_each)) h.together)
    (λ i j il jl p. t.coarser i j (omega (arith, il, h.one_each)) (omega (arith, jl, h.one_each)) (h.coarser i j il jl p)) c.in_ok-settle.ensures.settled)

pub returns-clause-extends : goal.returns-clause-extends
returns-clause-extends c =
    extends_more c.args.equal.now c.join.new.equal c.settle.new.equal
    (extends_more c.args.equal.now _ c.join.new.equal (extends_same c.args.equal.now _ refl refl) c.in_ok-join.ensures.joined.extends) c.in_ok-settle.ensures.settles.extends
