use Rattle.std.proofs.Common.{arith, ◌∷◌, List, subst, sym}
use Rattle.std.proofs.lemmas.Option.{slice_get_within}
use Rattle.plc_ground.specs.declared.terms.Node.TheVariants.{Split}
use Rattle.std.specs.Prelude.{Contains}
use Rattle.plc_ground.specs.declared.terms.Lit.{Lit}
use Rattle.plc_solve.proofs.Handing.{clause_there, child_there, taken, dropped}
use Rattle.plc_solve.proofs.needless.hand_up.Goals as goal

pub own_literal-own-requires-clause-known : goal.own_literal-own-requires-clause-known
own_literal-own-requires-clause-known c =
    clause_there c.args.set.now c.loop-top.place c.in-Some.top c.loop-top.frames.items c.pop.new.self.items c.in-Some.ensures.items _ _
    c.loop-top.invariant.stands c.loop-top.invariant.closes

pub own_literal-own-requires-clause-child : goal.own_literal-own-requires-clause-child
own_literal-own-requires-clause-child c =
    child_there c.args.set.now c.loop-top.place c.in-Some.top c.loop-top.frames.items c.pop.new.self.items c.in-Some.ensures.items _ _
    c.loop-top.invariant.stands c.loop-top.invariant.closes

pub take_tree-requires-clause-known : goal.take_tree-requires-clause-known
take_tree-requires-clause-known c =
    clause_there c.args.set.now c.loop-top.place c.in-Some.top c.loop-top.frames.items c.pop.new.self.items c.in-Some.ensures.items _ _
    c.loop-top.invariant.stands c.loop-top.invariant.closes

pub take_tree-requires-clause-child : goal.take_tree-requires-clause-child
take_tree-requires-clause-child c = slice_get_within _ _ _ c.own_literal-own.ensures

pub returns-then-has-clause-stands : goal.returns-then-has-clause-stands
returns-then-has-clause-stands c = λ _.
    (taken c.args.set.now c.loop-top.place c.in-Some.top c.loop-top.frames.items c.pop.new.self.items c.in-Some.ensures.items _ _
    c.loop-top.invariant.stands c.loop-top.invariant.closes c.go_up.new.place c.go_up.ensures c.own_literal-own.result c.own_literal-own.ensures
    c.take_tree.new.top c.push.new.self.items c.in_ok-push.ensures.items c.in_ok-take_tree.ensures.core c.in_ok-take_tree.ensures.tree).0

pub returns-then-has-clause-less : goal.returns-then-has-clause-less
returns-then-has-clause-less c = λ _ base.
    let step = (taken c.args.set.now c.loop-top.place c.in-Some.top c.loop-top.frames.items c.pop.new.self.items c.in-Some.ensures.items _ _
    c.loop-top.invariant.stands c.loop-top.invariant.closes c.go_up.new.place c.go_up.ensures c.own_literal-own.result c.own_literal-own.ensures
    c.take_tree.new.top c.push.new.self.items c.in_ok-push.ensures.items c.in_ok-take_tree.ensures.core c.in_ok-take_tree.ensures.tree).1 base in
    let le = c.loop-top.invariant.less base in
    omega (arith, step, le)

pub loop-top-preserved : goal.loop-top-preserved
loop-top-preserved c =
    let step = dropped c.args.set.now c.loop-top.place c.in-Some.top c.loop-top.frames.items c.pop.new.self.items c.in-Some.ensures.items
    c.args.done.now.core.items (Split c.args.done.now.clause ∷ c.args.done.now.nodes.items)
    c.loop-top.invariant.stands c.loop-top.invariant.closes c.go_up.new.place c.go_up.ensures c.own_literal-own.result c.own_literal-own.ensures
    (λ h. c.has.ensures.no c.if-has.false (subst (λ (ls : List Lit). Contains ls c.own_literal-own.result)
    (sym c.deref.ensures.value) h)) in
    record {
      stands = step.0;
      closes = step.1;
      less = λ base. let le = c.loop-top.invariant.less base in let fewer = step.2 base in omega (arith, le, fewer);
    }
