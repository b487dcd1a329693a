use Rattle.std.proofs.Common.{arith, ◌≡◌, ◌∙◌, take, drop, sym, subst, refl}
use Rattle.plc_ground.specs.Changes.{undone}
use Rattle.plc_ground.proofs.Changing.{extends_same, extends_more, extends_back, extends_front}
use Rattle.plc_solve.proofs.Needing.{has_a_class}
use Rattle.plc_solve.proofs.explain.needed.Goals as goal

pub put-init : goal.put-init
put-init c = record {
  bound = omega arith;
  closure = c.requires.closure;
  extends = extends_same c.args.equal.now
      c.args.equal.now refl refl;
}

pub are_together-requires-clause-first : goal.are_together-requires-clause-first
are_together-requires-clause-first c = has_a_class c.args.set.now _ _ _ c.put.invariant.closure c.classes.ensures c.requires.asked.first

pub are_together-requires-clause-second : goal.are_together-requires-clause-second
are_together-requires-clause-second c = has_a_class c.args.set.now _ _ _ c.put.invariant.closure c.classes.ensures c.requires.asked.second

pub put-requires-clause-one_each : goal.put-requires-clause-one_each
put-requires-clause-one_each c = c.put.invariant.closure.1.merged.one_each

pub put-requires-clause-congruent : goal.put-requires-clause-congruent
put-requires-clause-congruent c = c.put.invariant.closure.1.congruent

pub put-requires-clause-range : goal.put-requires-clause-range
put-requires-clause-range c = (c.requires.asked.fit c.put.k _ (omega arith)).range

pub put-preserved : goal.put-preserved
put-preserved c = record {
  bound = omega arith;
  closure = (_, c.in_ok-put.ensures.closure (c.put.invariant.closure.0) (c.put.invariant.closure.1));
  extends = extends_more c.args.equal.now c.put.equal c.put-in-put.new.equal c.put.invariant.extends
      c.in_ok-put.ensures.extends;
}

pub returns-clause-back : goal.returns-clause-back
returns-clause-back c =
    let before = c.args.equal.now in
    let now = c.put.equal in
    record {
      class = c.take_back.ensures.class ∙ subst (λ n. undone (drop n now.trail) now.class ≡ before.class)
          (sym c.mark-start.ensures) (extends_back before now c.put.invariant.extends);
      trail = c.take_back.ensures.trail ∙ subst (λ n. take n now.trail ≡ before.trail) (sym c.mark-start.ensures)
          (extends_front before now c.put.invariant.extends);
    }
