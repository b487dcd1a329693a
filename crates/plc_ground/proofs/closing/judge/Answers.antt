use Rattle.std.proofs.Common.{arith, ◌∷◌, [], Ok, IsTrue, get_or, ap, subst}
use Rattle.plc_ground.specs.declared.terms.Node.TheVariants.{Split}
use Rattle.plc_ground.specs.Trees.{IsRight, FirstBad}
use Rattle.plc_ground.specs.Paths.{literals_on}
use Rattle.plc_ground.proofs.Walking.{bad_here, bad_missing, drop_at, walk_next}
use Rattle.plc_ground.proofs.closing.judge.Goals as goal

pub returns-then-not-is_right : goal.returns-then-not-is_right
returns-then-not-is_right c =
    bad_here c.args.set.now [] c.args.nodes.now (literals_on c.args.set.now c.loop-k.path) _
    c.loop-k.k (get_or c.args.nodes.now c.loop-k.k (Split 0)) c.loop-k.invariant.reaches
    (drop_at c.args.nodes.now c.loop-k.k (Split 0) c.loop-k-test.true)
    (λ right. let t : IsTrue c.is_right.result = c.is_right.ensures.no right in let f = c.if-not-is_right.true in grind arith)

pub loop-k-preserved : goal.loop-k-preserved
loop-k-preserved c =
    let right : IsRight c.args.set.now (literals_on c.args.set.now c.loop-k.path)
    (get_or c.args.nodes.now c.loop-k.k (Split 0)) = c.is_right.ensures.yes (grind arith) in
    record {
      reaches = walk_next c.args.set.now [] c.args.nodes.now (literals_on c.args.set.now c.loop-k.path) _ _ c.loop-k.k
          (Split 0) c.loop-k.invariant.reaches c.loop-k-test.true right
          (c.in_ok-go_on.ensures.more (ap Ok c.if-not-branch.false));
      path = c.in_ok-go_on.ensures.path;
    }

pub returns : goal.returns
returns c =
    subst (λ k. FirstBad c.args.set.now ([] ∷ []) c.args.nodes.now k) (omega arith)
    (bad_missing _ _ _ _ _ c.loop-k.k c.loop-k.invariant.reaches c.loop-k-test.false)
