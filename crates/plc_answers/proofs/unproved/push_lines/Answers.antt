use Rattle.std.proofs.Common.{◌≤◌, ◌++◌, ◌∙◌, length, ap, sym, map, drop, List, ℕ}
use Rattle.std.proofs.lemmas.List.{append-nil}
use Rattle.std.proofs.lemmas.Bool.{ltb-false}
use Rattle.plc_answers.proofs.Lines.{no_term_lines}
use Rattle.plc_answers.proofs.unproved.push_lines.Goals as goal

pub returns-in_default : goal.returns-in_default
returns-in_default c =
    let texts = map (λ t. t.items) (drop c.loop-i.i c.args.texts.now) in
    let past : length c.args.class.now ≤ c.loop-i.i = ltb-false c.loop-i.i (length c.args.class.now) (sym c.in_default.ensures.lookup.0) in
    sym (append-nil c.loop-i.out.items)
    ∙ ap (λ (x : List ℕ). c.loop-i.out.items ++ x) (sym (no_term_lines c.loop-i.i c.loop-i.i texts c.args.class.now past))
    ∙ c.loop-i.invariant
