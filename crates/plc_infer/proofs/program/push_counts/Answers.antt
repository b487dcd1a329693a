use Rattle.std.proofs.Common.{◌≡◌, ℕ, ◌+◌, ◌-◌, ◌++◌, ◌∷◌, [], List, replicate, ap, ◌∙◌, append_assoc, arith}
use Rattle.std.proofs.lemmas.List.{replicate_more}
use Rattle.plc_infer.proofs.program.push_counts.Goals as goal

pub loop-preserved : goal.loop-preserved
loop-preserved c =
    let n = c.loop.counter - c.args.gate.first in
    let more : n + 1 ≡ c.loop.counter + 1 - c.args.gate.first = omega arith in
    rw (c.in_ok-push.ensures.items, c.loop.invariant)
    (append_assoc c.args.counts.now.items (replicate n c.args.count) (c.args.count ∷ [])
    ∙ ap (λ (xs : List ℕ). c.args.counts.now.items ++ xs) (replicate_more n c.args.count ∙ ap (λ (m : ℕ). replicate m c.args.count) more))
