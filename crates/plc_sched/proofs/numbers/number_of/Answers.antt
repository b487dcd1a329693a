use Rattle.std.proofs.Common.{◌≡◌, ℕ, List, Ok, arith, sym, ◌∙◌, subst}
use Rattle.std.specs.Str.Parse.{without_leading_plus}
use Rattle.plc_sched.proofs.Decimals.{IsNumeralOf, not_plain, is_text, parsed_to, parsed_is_decimal}
use Rattle.plc_sched.proofs.numbers.number_of.Goals as goal
use Rattle.plc_sched.proofs.numbers.number_of.Goals.{else-least-number-via-then-least-number+else-number-most, else-least-number-via-else-least-number}

pub returns-then-not-is_plain : goal.returns-then-not-is_plain
returns-then-not-is_plain c = λ n low high e. not_plain n c.args.word.now (omega (arith, c.ranges.most)) (sym c.is_plain.ensures ∙ c.if-not-is_plain.true) e

pub returns-in_default : goal.returns-in_default
returns-in_default c = λ n low high e. c.in_default.ensures.cases.0 (is_text n c.args.word.now (omega (arith, c.ranges.most)) e)

pub returns-then-number-most : goal.returns-then-number-most
returns-then-number-most c =
    let numeral : IsNumeralOf (without_leading_plus c.args.word.now) c.in-Ok-parse.number = subst (λ (t : List ℕ). IsNumeralOf (without_leading_plus t) c.in-Ok-parse.number) c.in-Ok.ensures.cases.0 c.in-Ok-parse.ensures.value.0 in
    (c.if-least-number.true, c.if-number-most.true, parsed_is_decimal c.args.word.now c.in-Ok-parse.number (sym c.is_plain.ensures ∙ c.if-not-is_plain.false) numeral)

pub returns-in_default-parse : goal.returns-in_default-parse
returns-in_default-parse c = λ n low high e.
    c.in_default-parse.not-Ok n (parsed_to _ n c.in-Ok.text.now c.parse.result (omega (arith, c.ranges.most)) (e ∙ sym c.in-Ok.ensures.cases.0) c.parse.ensures.value.0)

pub returns-else-least-number : goal.returns-else-least-number
returns-else-least-number c = λ n low high e.
    let read : c.parse.result ≡ Ok n = parsed_to _ n c.in-Ok.text.now c.parse.result (omega (arith, c.ranges.most)) (e ∙ sym c.in-Ok.ensures.cases.0) c.parse.ensures.value.0 in
    let same : c.in-Ok-parse.number ≡ n = cc in
    elim c.else-least-number.branch [
      | else-least-number-via-then-least-number+else-number-most w ↦ omega (arith, w.if-number-most.false)
      | else-least-number-via-else-least-number w ↦ omega (arith, w.if-least-number.false)
    ]
