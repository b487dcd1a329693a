use Rattle.std.proofs.Common.{arith, ◌≡◌, ◌∷◌, [], List, get_or, refl, true, false, subst}
use Rattle.std.proofs.lemmas.List.Elements.{Contains-append_left}
use Rattle.plc_ground.specs.declared.terms.Lit.{Lit}
use Rattle.plc_ground.specs.declared.terms.Node.TheVariants.{Leaf}
use Rattle.plc_ground.specs.Model.{inequation}
use Rattle.plc_ground.specs.Fit.{LitFits}
use Rattle.plc_solve.specs.Search.{split_on, IsWithin}
use Rattle.plc_solve.proofs.Searching.{next_literal, fit_of_literal, unequal_is_same, unequal_closes, conflict_closes, step_deeper}
use Rattle.plc_solve.proofs.Stacking.{sound_more}
use Rattle.plc_solve.proofs.split.take_child.Goals as goal

pub close_child-requires-clause-same : goal.close_child-requires-clause-same
close_child-requires-clause-same c =
    let l : Lit = get_or c.clause-literals.result.now c.args.top.now.next (inequation 0 0) in
    let at = next_literal c.args.subject.now.set.now c.args.top.now c.clause-literals.result.now (inequation 0 0) c.clause-literals.ensures c.requires.sound.within c.if-top-literals.false in
    let fit : LitFits c.args.subject.now.set.now l = fit_of_literal c.args.subject.now.set.now c.requires.asked.well c.args.top.now.clause c.args.top.now.next l at in
    let unequal : l.equal ≡ false = grind arith in
    unequal_is_same c.args.subject.now.set.now c.args.place.now.branch.items c.args.place.now.equal.class c.requires.sound.place l fit unequal (c.requires.sound.wrong _ _ at)

pub returns-then-not-l-clause-gives : goal.returns-then-not-l-clause-gives
returns-then-not-l-clause-gives c =
    let l : Lit = get_or c.clause-literals.result.now c.args.top.now.next (inequation 0 0) in
    let at = next_literal c.args.subject.now.set.now c.args.top.now c.clause-literals.result.now (inequation 0 0) c.clause-literals.ensures c.requires.sound.within c.if-top-literals.false in
    let fit : LitFits c.args.subject.now.set.now l = fit_of_literal c.args.subject.now.set.now c.requires.asked.well c.args.top.now.clause c.args.top.now.next l at in
    let unequal : l.equal ≡ false = grind arith in
    let t = c.in_ok-close_child.ensures.tree in
    let k = c.in_ok-close_child.ensures.core in
    let branch = c.args.place.now.branch.items in (
      sound_more c.args.subject.now.set.now (split_on branch c.args.place.now.equal.class c.args.top.now) (split_on branch c.args.place.now.equal.class c.close_child.new.top)
          l (Leaf l.left l.right ∷ []) at t.clause refl refl t.next t.nodes (k.0) (k.2) (λ m h. Contains-append_left branch (l ∷ []) m (k.1.within m h))
          (unequal_closes c.args.subject.now.set.now branch (k.0) l fit unequal (k.1)) c.requires.sound,
      (_, _, t),
    )

pub descend-requires-clause-fit : goal.descend-requires-clause-fit
descend-requires-clause-fit c =
    let at = next_literal c.args.subject.now.set.now c.args.top.now c.clause-literals.result.now (inequation 0 0) c.clause-literals.ensures c.requires.sound.within c.if-top-literals.false in
    fit_of_literal c.args.subject.now.set.now c.requires.asked.well c.args.top.now.clause c.args.top.now.next _ at

pub returns-in_ok-close_child-in-Conflict-clause-gives : goal.returns-in_ok-close_child-in-Conflict-clause-gives
returns-in_ok-close_child-in-Conflict-clause-gives c =
    let l : Lit = get_or c.clause-literals.result.now c.args.top.now.next (inequation 0 0) in
    let at = next_literal c.args.subject.now.set.now c.args.top.now c.clause-literals.result.now (inequation 0 0) c.clause-literals.ensures c.requires.sound.within c.if-top-literals.false in
    let t = c.in_ok-close_child-in-Conflict.ensures.tree in
    let k = c.in_ok-close_child-in-Conflict.ensures.core in
    let hit = rw c.in-Conflict.is at c.in_ok-pair.ensures.descends in
    let branch = c.args.place.now.branch.items in (
      sound_more c.args.subject.now.set.now (split_on branch c.args.place.now.equal.class c.args.top.now) (split_on branch c.args.place.now.equal.class c.close_child-in-Conflict.new.top)
          l (Leaf c.in-Conflict.pair.a c.in-Conflict.pair.b ∷ []) at t.clause refl refl t.next t.nodes (k.0) (k.2)
          (subst (λ (b : List Lit). IsWithin (k.0) b) (hit.1) k.1.within)
          (conflict_closes c.args.subject.now.set.now c.descend.new.place.branch.items (k.0) l c.in-Conflict.pair.a c.in-Conflict.pair.b (hit.0) (k.1)) c.requires.sound,
      (_, _, t),
    )

pub returns-in-Longer-clause-gives : goal.returns-in-Longer-clause-gives
returns-in-Longer-clause-gives c =
    let l : Lit = get_or c.clause-literals.result.now c.args.top.now.next (inequation 0 0) in
    let at = next_literal c.args.subject.now.set.now c.args.top.now c.clause-literals.result.now (inequation 0 0) c.clause-literals.ensures c.requires.sound.within c.if-top-literals.false in
    let equal : l.equal ≡ true = grind arith in
    step_deeper c.args.subject.now.set.now c.args.place.now c.descend.new.place c.args.top.now l at equal c.requires.sound (rw c.in-Longer.is at c.in_ok-pair.ensures.descends) c.enter.result c.enter.ensures
