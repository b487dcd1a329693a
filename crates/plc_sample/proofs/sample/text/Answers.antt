use Rattle.std.proofs.Common.{◌∙◌, List, ℕ, ap}
use Rattle.plc_sample.specs.Sample.{without_from}
use Rattle.plc_sample.proofs.Lines.{lines_kept}
use Rattle.plc_sample.proofs.Sizes.{kept_is_short}
use Rattle.plc_sample.proofs.sample.text.Goals as goal

pub returns-clause-lines : goal.returns-clause-lines
returns-clause-lines c =
    let whole_is = c.deref.ensures.value ∙ c.in_ok-whole.ensures in
    lines_kept c.args.k c.args.n c.in_ok-text.text.items c.requires.copies.1 c.requires.line (c.in_ok-text.ensures ∙ ap (λ (t : List ℕ). without_from c.args.n 1 t) whole_is)

pub returns-clause-short : goal.returns-clause-short
returns-clause-short c =
    kept_is_short c.args.k c.args.n c.deref.result.now c.in_ok-text.text.items c.requires.copies.1 (c.deref.ensures.value ∙ c.in_ok-whole.ensures) c.in_ok-text.ensures
