use Rattle.plc_at.proofs.ReadingSteps.{claim_due}
use Rattle.plc_at.proofs.reading.after_claims.Goals as goal
use Rattle.plc_at.proofs.reading.after_claims.Goals.{else-is_word-via-then-is_word+else-has_pointers}
use Rattle.plc_at.proofs.reading.after_claims.Goals.{else-is_word-via-else-is_word}

pub returns-else-is_word : goal.returns-else-is_word
returns-else-is_word c = λ o last ts g.
    let d = claim_due c.args.flow.now o c.args.kind.now ts g.0 g.1 in
    elim c.else-is_word.branch [
      | else-is_word-via-then-is_word+else-has_pointers w ↦
          let yes = w.has_pointers.ensures.1 d.1 in
          let none = w.if-has_pointers.false in
          absurd cc
      | else-is_word-via-else-is_word w ↦
          let yes = c.is_word.ensures.1 d.0 in
          let none = w.if-is_word.false in
          absurd cc
    ]
