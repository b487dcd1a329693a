use Rattle.std.proofs.Common.{◌≡◌, ◌+◌, ◌≤◌, List, length, slice_get, Some, sym, subst, arith}
use Rattle.plc_syntax.specs.Syntax.{kinds}
use Rattle.plc_at.specs.declared.claim.LocationClaim.{LocationClaim}
use Rattle.plc_at.specs.declared.reading.Due.{Due}
use Rattle.plc_at.specs.Claims.{ClaimsStopAt}
use Rattle.plc_at.specs.Reading.{IsStep}
use Rattle.plc_at.proofs.ReadingSoFar.{ReadTo, kind_there, kinds_count, read_more, read_stops, read_unfinished}
use Rattle.plc_at.proofs.ReadingSoFar.{read_all, spelled_fit}
use Rattle.plc_at.proofs.reading.read_claims.Goals as goal

pub returns-in_default-clause-stops : goal.returns-in_default-clause-stops
returns-in_default-clause-stops c = λ at e.
    let f = c.args.flow.now in
    let o = c.args.observer.now in
    let ts = kinds c.args.tokens.now in
    let same : c.loop-at.at ≡ at = cc in
    let here = kind_there c.args.tokens.now c.loop-at.at _ c.loop-at-test.true in
    subst (λ p. ClaimsStopAt f o ts p) same
    (read_stops f o ts c.loop-at.at c.loop-at.due c.index-tokens-at.result.kind c.loop-at.claims.items
    (subst (λ t. slice_get ts c.loop-at.at ≡ Some t.kind) (sym c.index-tokens-at.is) here) c.loop-at.invariant
    (subst (λ r. IsStep f o c.loop-at.due c.index-tokens-at.result.kind r) c.in_default.is c.step.ensures))

pub loop-at-preserved : goal.loop-at-preserved
loop-at-preserved c =
    let f = c.args.flow.now in
    let o = c.args.observer.now in
    let ts = kinds c.args.tokens.now in
    let here = kind_there c.args.tokens.now c.loop-at.at _ c.loop-at-test.true in
    subst (λ (cs : List LocationClaim). ReadTo f o ts (c.loop-at.at + 1) c.in-Some.next cs) (sym c.in_ok-note.ensures)
    (read_more f o ts c.loop-at.at c.loop-at.due c.in-Some.next c.index-tokens-at.result.kind c.loop-at.claims.items
    (subst (λ t. slice_get ts c.loop-at.at ≡ Some t.kind) (sym c.index-tokens-at.is) here) c.loop-at.invariant
    (subst (λ r. IsStep f o c.loop-at.due c.index-tokens-at.result.kind r) c.in-Some.is c.step.ensures))

pub returns-then-not-is_claim-clause-stops : goal.returns-then-not-is_claim-clause-stops
returns-then-not-is_claim-clause-stops c = λ at e.
    let ts = kinds c.args.tokens.now in
    let all = kinds_count c.args.tokens.now in
    let past = c.loop-at-test.false in
    let end : length c.args.tokens.now ≡ at = cc in
    let last : length ts ≤ c.loop-at.at = omega arith in
    let same : at ≡ length ts = omega arith in
    read_unfinished c.args.flow.now c.args.observer.now ts c.loop-at.at at c.loop-at.due c.loop-at.claims.items
    same last c.loop-at.invariant
    (λ claim is.
    let yes = c.is_claim.ensures.1 (claim, is) in
    let none = c.if-not-is_claim.true in
    cc)

pub returns-clause-spelled : goal.returns-clause-spelled
returns-clause-spelled c =
    let f = c.args.flow.now in
    let o = c.args.observer.now in
    let ts = kinds c.args.tokens.now in
    let all = kinds_count c.args.tokens.now in
    let past = c.loop-at-test.false in
    let last : length ts ≤ c.loop-at.at = omega arith in
    let d = c.is_claim.ensures.0 c.if-not-is_claim.false in
    read_all f o ts c.loop-at.at d.0 c.loop-at.claims.items last
    (subst (λ (x : Due). ReadTo f o ts c.loop-at.at x c.loop-at.claims.items) d.1 c.loop-at.invariant)

pub returns-clause-fits : goal.returns-clause-fits
returns-clause-fits c =
    spelled_fit c.args.flow.now c.args.observer.now (kinds c.args.tokens.now) c.loop-at.claims.items
    (returns-clause-spelled c)
