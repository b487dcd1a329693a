use Rattle.std.proofs.Common.{◌≡◌, ◌+◌, length, sym, ap, ◌∙◌, subst, arith}
use Rattle.std.proofs.lemmas.List.{length-append}
use Rattle.plc_oblig.specs.Obligations.{obligations}
use Rattle.plc_check.specs.Counterexamples.{IsCounterexampleAt, NotedAreKept}
use Rattle.plc_check.proofs.SoFar.{is_listed}
use Rattle.plc_check.proofs.Noting.{none_kept}
use Rattle.plc_check.proofs.Found.{FoundSoFar, none_found, one_kept, one_broken}
use Rattle.plc_check.proofs.open.find_on_walk.Goals as goal

pub obligations-init : goal.obligations-init
obligations-init c =
    let flow = c.args.program.now.flow.now in
    let outline = c.args.program.now.outline.now in
    let long = ap length c.requires.none_found in
    record {
      so_far = none_found flow outline c.args.walk.now c.args.found.now c.requires.begun c.requires.none_found;
      noted = subst (NotedAreKept flow outline) (sym c.requires.none_noted) (none_kept flow outline);
      serves = c.requires.serves;
      few = omega arith;
    }

pub counterexample_at-requires-clause-there : goal.counterexample_at-requires-clause-there
counterexample_at-requires-clause-there c =
    let so_far = c.obligations.invariant.so_far in
    is_listed (obligations c.args.program.now.flow.now c.args.program.now.outline.now) so_far.looked
    c.obligations.walk c.next.new.self c.in-Some.obligation so_far.listed c.in-Some.ensures

pub obligations-preserved-in_default-broken : goal.obligations-preserved-in_default-broken
obligations-preserved-in_default-broken c =
    let flow = c.args.program.now.flow.now in
    let outline = c.args.program.now.outline.now in
    record {
      so_far = one_kept flow outline c.obligations.walk c.next.new.self c.obligations.found c.in-Some.obligation c.obligations.invariant.so_far
          c.in-Some.ensures (subst (IsCounterexampleAt flow outline c.in-Some.obligation) c.in_default-broken.is c.in_ok-broken.ensures.found);
      noted = c.in_ok-broken.ensures.kept;
      serves = c.in_ok-broken.ensures.serves;
      few = c.obligations.invariant.few;
    }

pub obligations-preserved : goal.obligations-preserved
obligations-preserved c =
    let flow = c.args.program.now.flow.now in
    let outline = c.args.program.now.outline.now in
    let broken = c.in-Some-broken.broken in
    let long : length c.push.new.self ≡ length c.obligations.found + 1 = ap length c.in_ok-push.ensures.ok ∙ length-append c.obligations.found _ in
    record {
      so_far = subst (FoundSoFar flow outline c.next.new.self) (sym c.in_ok-push.ensures.ok)
          (one_broken flow outline c.obligations.walk c.next.new.self c.obligations.found c.in-Some.obligation broken c.obligations.invariant.so_far
          c.in-Some.ensures (subst (IsCounterexampleAt flow outline c.in-Some.obligation) c.in-Some-broken.is c.in_ok-broken.ensures.found));
      noted = c.in_ok-broken.ensures.kept;
      serves = c.in_ok-broken.ensures.serves;
      few = omega arith;
    }
