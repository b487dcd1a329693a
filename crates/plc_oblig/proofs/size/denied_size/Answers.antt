use Rattle.std.proofs.Common.{sym, ap, ◌∙◌, arith}
use Rattle.std.specs.Option.{option_copied}
use Rattle.plc_oblig.proofs.Bounds.{small_conclusion}
use Rattle.plc_oblig.proofs.Wholes.{denied_by_conclusion}
use Rattle.plc_oblig.proofs.size.denied_size.Goals as goal

pub overflow_add-result : goal.overflow_add-result
overflow_add-result c =
    let small = small_conclusion c.args.flow.now c.args.outline.now c.args.o.now c.in-Some.clause.now c.requires.outline_fits (sym c.conclusion.ensures ∙ ap option_copied c.in-Some.is) in
    omega (arith, c.len.ensures.count, c.len-in-Some.ensures, small.bound, small.literals)

pub returns-in-Some-clause-size : goal.returns-in-Some-clause-size
returns-in-Some-clause-size c s x =
    let all = denied_by_conclusion c.args.flow.now c.args.outline.now s x c.args.o.now c.in-Some.clause.now (sym c.conclusion.ensures ∙ ap option_copied c.in-Some.is) in
    omega (arith, c.len.ensures.count, c.len-in-Some.ensures, all)

pub returns-in-Some-clause-small : goal.returns-in-Some-clause-small
returns-in-Some-clause-small c =
    let small = small_conclusion c.args.flow.now c.args.outline.now c.args.o.now c.in-Some.clause.now c.requires.outline_fits (sym c.conclusion.ensures ∙ ap option_copied c.in-Some.is) in
    omega (arith, c.len.ensures.count, c.len-in-Some.ensures, small.bound, small.literals)
