use Rattle.std.proofs.Common.{◌≡◌, ◌++◌, ◌∷◌, [], drop, map}
use Rattle.std.specs.List.{fold}
use Rattle.plc_answers.specs.Unproved.{term_text, term_texts}
use Rattle.plc_answers.proofs.unproved.term_texts.Given as goal

abbrev pub invariant-loop-term : goal.invariant-loop-term
invariant-loop-term l =
    fold (λ before t. before ++ term_text l.file l.mine l.theirs before t ∷ []) (map (λ t. t.items) l.texts.items) (drop l.term-index l.terms)
    ≡ term_texts l.file l.mine l.theirs l.terms
