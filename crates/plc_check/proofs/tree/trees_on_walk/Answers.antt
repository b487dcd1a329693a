use Rattle.std.proofs.Common.{List, [], ◌∷◌, ◌++◌, sym, subst}
use Rattle.plc_oblig.specs.Obligations.{obligations}
use Rattle.plc_vocabulary.specs.declared.obligations.Obligation.{Obligation}
use Rattle.plc_ground.specs.declared.terms.Tree.{Tree}
use Rattle.plc_check.specs.Counterexamples.{AddsShown, NotedHaveTrees}
use Rattle.plc_check.proofs.Matching.{TreesSoFar, no_trees, one_more, kept_so_far}
use Rattle.plc_check.proofs.Noting.{none_have}
use Rattle.plc_check.proofs.SoFar.{is_listed}
use Rattle.plc_check.proofs.Opening.{least_broken}
use Rattle.plc_check.proofs.tree.trees_on_walk.Goals as goal

pub loop-obligation-init : goal.loop-obligation-init
loop-obligation-init c =
    let flow = c.args.program.now.flow.now in
    let outline = c.args.program.now.outline.now in
    let none = subst (λ (os : List Obligation). TreesSoFar flow outline os []) (sym c.requires.begun) (no_trees flow outline) in (
      subst (TreesSoFar flow outline c.args.walk.now) (sym c.new-trees.ensures) none,
      subst (NotedHaveTrees flow outline c.new-trees.result) (sym c.requires.none_noted) (none_have flow outline c.new-trees.result),
      c.requires.serves,
    )

pub loop-obligation-preserved : goal.loop-obligation-preserved
loop-obligation-preserved c =
    let flow = c.args.program.now.flow.now in
    let outline = c.args.program.now.outline.now in
    let added = subst (AddsShown flow outline c.in-Some.obligation c.as_slice.result.now c.tree_at.new.noted) c.in-Tree.is c.in_ok-shown.ensures.shown in
    let have = subst (λ (ts : List Tree). NotedHaveTrees flow outline (ts ++ c.in-Tree.tree ∷ []) c.tree_at.new.noted) c.as_slice.ensures added.1 in (
      subst (TreesSoFar flow outline c.next.new.self) (sym c.in_ok-push-in-Tree.ensures.ok)
          (one_more flow outline c.loop-obligation.walk c.next.new.self c.loop-obligation.trees
          c.in-Some.obligation c.in-Tree.tree c.loop-obligation.invariant.0 c.in-Some.ensures added.0),
      subst (λ (ts : List Tree). NotedHaveTrees flow outline ts c.tree_at.new.noted) (sym c.in_ok-push-in-Tree.ensures.ok) have,
      c.in_ok-shown.ensures.serves,
    )

pub returns-in-Broken : goal.returns-in-Broken
returns-in-Broken c =
    let broken = subst (AddsShown c.args.program.now.flow.now c.args.program.now.outline.now c.in-Some.obligation c.as_slice.result.now c.tree_at.new.noted) c.in-Broken.is c.in_ok-shown.ensures.shown in
    least_broken c.args.program.now.flow.now c.args.program.now.outline.now c.loop-obligation.walk c.next.new.self c.in-Some.obligation c.in-Broken.found
    (kept_so_far c.args.program.now.flow.now c.args.program.now.outline.now c.loop-obligation.walk c.loop-obligation.trees c.loop-obligation.invariant.0)
    c.in-Some.ensures broken

pub tree_at-requires-clause-there : goal.tree_at-requires-clause-there
tree_at-requires-clause-there c =
    let so_far = c.loop-obligation.invariant.0 in
    is_listed (obligations c.args.program.now.flow.now c.args.program.now.outline.now) so_far.before
    c.loop-obligation.walk c.next.new.self c.in-Some.obligation so_far.listed c.in-Some.ensures

pub tree_at-requires-clause-noted : goal.tree_at-requires-clause-noted
tree_at-requires-clause-noted c =
    subst (λ (ts : List Tree). NotedHaveTrees c.args.program.now.flow.now c.args.program.now.outline.now ts c.loop-obligation.noted) (sym c.as_slice.ensures) c.loop-obligation.invariant.1
