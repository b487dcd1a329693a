use Rattle.std.proofs.Common.{◌≡◌, ℕ, length, slice_get, Option, Some, subst, sym, ◌∙◌, arith}
use Rattle.plc_explore.specs.Leaving.{IsNeeded, common_maker, without}
use Rattle.plc_explore.specs.Racing.{RacesAmong}
use Rattle.plc_explore.proofs.Omitting.{fewer_than_before, needed_so, shorter_still}
use Rattle.plc_explore.proofs.shortening.leave_span.Goals as goal

pub returns-clause-shorter : goal.returns-clause-shorter
returns-clause-shorter g c = λ less within.
    let moves = c.args.run.now.moves in
    let by = c.in-Some.by in
    let common : common_maker (slice_get moves c.args.from) (slice_get moves c.args.to) ≡ Some by =
    rw c.as_slice.ensures at (sym c.maker_between.ensures ∙ c.in-Some.is) in
    shorter_still c.tries_without.result (length (without by c.args.from c.args.to moves)) (length moves)
    (fewer_than_before c.args.from c.args.to moves by less common) (c.tries_without.ensures.within (omega arith) within)

pub returns-clause-none : goal.returns-clause-none
returns-clause-none g c = λ any less within.
    let program = c.args.program.now in
    let threads = c.args.run.now.threads in
    let moves = c.args.run.now.moves in
    let by = c.in-Some.by in
    let common : common_maker (slice_get moves c.args.from) (slice_get moves c.args.to) ≡ Some by =
    rw c.as_slice.ensures at (sym c.maker_between.ensures ∙ c.in-Some.is) in
    let Fails = λ (b : Option ℕ). RacesAmong program threads (without b c.args.from c.args.to moves) → ⊥ in
    needed_so c.tries_without.result (Fails by) (IsNeeded program threads moves c.args.from c.args.to)
    (λ fails b other. let same : by ≡ b = cc in subst Fails same fails)
    (c.tries_without.ensures.none any (omega arith) within)
