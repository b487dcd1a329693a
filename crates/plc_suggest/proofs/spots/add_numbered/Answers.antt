use Rattle.std.proofs.Common.{ℕ, sym, ap, ◌++◌, ◌∷◌, [], ◌∙◌}
use Rattle.std.proofs.lemmas.List.{append-nil}
use Rattle.plc_lang.specs.declared.syntax.Var.{Var}
use Rattle.plc_suggest.specs.Spots.{pointer, spot}
use Rattle.plc_suggest.proofs.Listing.{pushed}
use Rattle.plc_suggest.proofs.spots.add_numbered.Goals as goal

pub loop-number-init : goal.loop-number-init
loop-number-init c = sym (append-nil c.args.spots.now.items)

pub loop-number-preserved : goal.loop-number-preserved
loop-number-preserved c =
    let so_far = c.loop-number.spots.items in
    pushed c.args.spots.now.items so_far _ c.loop-number.number (λ (i : ℕ). spot c.args.step.0 (pointer c.args.shared i))
    c.loop-number.invariant
    (c.in_ok-push.ensures.items ∙ ap (λ (v : Var). so_far ++ spot c.args.step.0 v ∷ []) c.pointer.ensures)
