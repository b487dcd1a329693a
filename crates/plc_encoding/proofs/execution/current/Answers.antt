use Rattle.std.proofs.Common.{◌≡◌, ◌<◌, ◌+◌, ◌∙◌, ℕ, Bool, List, length, get_or, take, fold, sym, ap, subst, if◌then◌else◌}
use Rattle.std.proofs.lemmas.List.Sums.{fold_more}
use Rattle.plc_ground.specs.declared.terms.Symbol.{Symbol}
use Rattle.plc_ground.specs.declared.terms.Symbol.TheVariants as symbols
use Rattle.plc_ground.specs.Symbols.{same_symbol}
use Rattle.plc_encoding.proofs.execution.current.Goals as goal
use Rattle.plc_encoding.proofs.execution.current.Goals.{then-eq, else-eq}

-- the constant after one more assignment
abbrev next : Symbol → Symbol → Symbol × Symbol → Symbol
next s now a = if same_symbol a.0 s then a.1 else now

abbrev d : Symbol × Symbol
d = (symbols.Null, symbols.Null)

more : (s now : Symbol) (xs ys : List (Symbol × Symbol)) (i : ℕ) (same : Bool) → ys ≡ xs → i < length ys
    → now ≡ fold (next s) s (take i xs) → same ≡ same_symbol (get_or ys i d).0 s
    → (if same then (get_or ys i d).1 else now) ≡ fold (next s) s (take (i + 1) xs)
more s now xs ys i same e h n t =
    ap (λ b. if b then (get_or ys i d).1 else now) t
    ∙ ap (λ m. next s m (get_or ys i d)) n
    ∙ ap (λ zs. next s (fold (next s) s (take i xs)) (get_or zs i d)) e
    ∙ sym (fold_more (next s) s xs i d (let P : List (Symbol × Symbol) → Type 0 = λ zs. i < length zs in subst P e h))

pub loop-variable-preserved : goal.loop-variable-preserved
loop-variable-preserved c =
    let step = more c.args.symbol c.loop-variable.now c.args.x.now.assigned c.as_slice-variable-items.result.now
    c.loop-variable.variable-index c.eq.result c.as_slice-variable-items.ensures
    c.loop-variable-test.true c.loop-variable.invariant c.eq.ensures in
    elim c.if-eq.branch [
      | then-eq w ↦ w.now-is ∙ (rw w.if-eq.true at step)
      | else-eq w ↦ w.now-is ∙ (rw w.if-eq.false at step)
    ]
