use Rattle.std.proofs.Common.{◌≡◌, ℕ, ◌+◌, ◌≤◌, ◌++◌, ◌∷◌, List, [], length, get_or, sym, ap, subst, arith}
use Rattle.std.proofs.Common.{length-append}
use Rattle.std.proofs.lemmas.List.Elements.{All-push, All-same}
use Rattle.plc_flow.specs.Skeleton.{skeleton_of}
use Rattle.plc_suggest.specs.declared.spot.Spot.{Spot}
use Rattle.plc_suggest.specs.Marking.{IsOfStep}
use Rattle.plc_suggest.proofs.Defaults.{some_spot}
use Rattle.plc_suggest.specs.Trials.{AreKept, CanTry}
use Rattle.plc_suggest.proofs.Listing.{spots_known}
use Rattle.plc_suggest.proofs.Trying.{trial_held, trial_failed, row_goes, spot_stays, reached_again}
use Rattle.plc_suggest.proofs.search.needed_spots.Goals as goal

pub try_without-requires : goal.try_without-requires
try_without-requires c =
    let p = c.args.parts.now in
    let at = c.loop-at.at in
    let n = c.fitting-count.result in
    subst (λ (kept : List Spot). CanTry p kept at (at + n) c.loop-at.envs.items) (sym c.deref.ensures.value)
    (record {
      parts = c.requires.parts;
      known = c.loop-at.invariant.known;
      few = c.loop-at.invariant.few;
      order = omega arith;
      within = let most = c.fitting-count.ensures.most in let below = c.loop-at.invariant.within in omega
          (arith, most, below);
      reached = c.loop-at.invariant.reached;
    })

pub loop-at-preserved-then-branch : goal.loop-at-preserved-then-branch
loop-at-preserved-then-branch c =
    let p = c.args.parts.now in
    let n = c.fitting-count.result in
    let within : c.loop-at.at + n ≤ length p.spots.now = let most = c.fitting-count.ensures.most in
    let below = c.loop-at.invariant.within in omega (arith, most, below) in
    let reached = trial_held p c.deref.result.now c.loop-at.kept.items (c.loop-at.at + n) c.loop-at.envs.items
    c.try_without.new.envs.items c.in_ok-try_without.field-0 c.deref.ensures.value c.if-branch.true
    c.in_ok-try_without.ensures in
    record {
      within = within;
      kept = row_goes p c.loop-at.kept.items c.loop-at.at n c.try_without.new.envs.items c.requires.parts
          c.loop-at.invariant.kept within reached;
      known = c.loop-at.invariant.known;
      few = let few = c.loop-at.invariant.few in omega (arith, few);
      reached = reached;
      some = c.next_row-row.ensures.some;
      most = c.next_row-row.ensures.most;
    }

pub loop-at-preserved-then-count-eq1 : goal.loop-at-preserved-then-count-eq1
loop-at-preserved-then-count-eq1 c =
    let p = c.args.parts.now in
    let o = p.observer.now in
    let s = skeleton_of p.flow.now in
    let n = length p.flow.now.steps in
    let at = c.loop-at.at in
    let kept = c.loop-at.kept.items in
    let x = get_or p.spots.now at some_spot in
    let one : at + c.fitting-count.result ≡ at + 1 = ap (λ (k : ℕ). at + k) c.if-count-eq1.true in
    let failed = trial_failed p c.deref.result.now kept (at + c.fitting-count.result) (at + 1) c.loop-at.envs.items
    c.try_without.new.envs.items c.in_ok-try_without.field-0 c.deref.ensures.value one c.if-branch.false
    c.in_ok-try_without.ensures in
    let made : c.push.new.self.items ≡ kept ++ x ∷ [] = c.in_ok-push.ensures.items in
    record {
      within = let small = c.loop-at-test.true in omega (arith, small);
      kept = subst (λ (xs : List Spot). AreKept o s xs (at + 1)) (sym made)
          (spot_stays p kept at c.requires.parts c.loop-at.invariant.kept c.loop-at-test.true failed.0);
      known = All-same (IsOfStep n) c.push.new.self.items (kept ++ x ∷ []) made
          (All-push (IsOfStep n) kept x c.loop-at.invariant.known
          (spots_known p.flow.now p.spots.now c.requires.parts.spots at some_spot c.loop-at-test.true));
      few = let count = ap length made in let few = c.loop-at.invariant.few in omega
          (arith, count, few, length-append kept (x ∷ []));
      reached = reached_again p kept c.push.new.self.items at c.loop-at.envs.items c.try_without.new.envs.items
          c.loop-at-test.true failed.1 made c.loop-at.invariant.reached;
      some = omega arith;
      most = omega arith;
    }
