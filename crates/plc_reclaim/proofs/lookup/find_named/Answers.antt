use Rattle.std.proofs.Common.{◌≡◌, ◌+◌, ◌<◌, ◌⊎◌, inl, inr, ℕ, false, Some, slice_get, sym, ap, ◌∙◌, subst, arith}
use Rattle.std.specs.Str.{bytes_eq}
use Rattle.std.proofs.lemmas.Option.{slice_get_within, slice_get-get_or}
use Rattle.plc_reclaim.proofs.Positions.{found_at, found_nowhere}
use Rattle.plc_reclaim.proofs.lookup.find_named.Goals as goal

pub returns-then-is_named-clause-number : goal.returns-then-is_named-clause-number
returns-then-is_named-clause-number g c =
    let b = c.index-reclaimers-i.result in
    let here = slice_get-get_or c.args.reclaimers.now c.loop-i.i b (omega arith) ∙ ap Some (sym c.index-reclaimers-i.is) in
    ap Some (omega arith) ∙ sym (found_at (bytes_eq c.args.name.now) (λ x. (goal.Reclaimer-dyn g (x.vtable, x.value)).named x.value) 0 c.args.reclaimers.now c.loop-i.i b here (sym c.is_named.ensures ∙ c.if-is_named.true) c.loop-i.invariant)

below_or_last : (j k : ℕ) → j < k + 1 → (j < k) ⊎ (j ≡ k)
below_or_last j k lt = grind arith

pub loop-i-preserved : goal.loop-i-preserved
loop-i-preserved g c = λ j y below at.
    elim (below_or_last j c.loop-i.i below) [
      | inl before ↦ c.loop-i.invariant j y before at
      | inr last ↦
          let b = c.index-reclaimers-i.result in
          let here = slice_get-get_or c.args.reclaimers.now c.loop-i.i b (omega arith) ∙ ap Some (sym c.index-reclaimers-i.is) in
          let there = subst (λ n. slice_get c.args.reclaimers.now n ≡ Some y) last at in
          let same : b ≡ y = cc in
          subst (λ x. bytes_eq c.args.name.now ((goal.Reclaimer-dyn g (x.vtable, x.value)).named x.value) ≡ false) same (sym c.is_named.ensures ∙ c.if-is_named.false)
    ]

pub returns-clause-number : goal.returns-clause-number
returns-clause-number g c = sym (found_nowhere (bytes_eq c.args.name.now) (λ x. (goal.Reclaimer-dyn g (x.vtable, x.value)).named x.value) 0 c.args.reclaimers.now (λ j y at.
    let within = slice_get_within c.args.reclaimers.now j y at in
    c.loop-i.invariant j y (omega arith) at))
