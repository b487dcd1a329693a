use Rattle.std.proofs.Common.{◌+◌, ◌-◌, ◌≤◌, length, drop, Some, sym, ap, ◌∙◌, arith}
use Rattle.std.proofs.lemmas.List.{take_all, length-drop}
use Rattle.plc_at.proofs.ReadingNames.{before_place, after_place, one_part}
use Rattle.plc_at.proofs.names.parts.Goals as goal

pub returns-in-Some-clause-first : goal.returns-in-Some-clause-first
returns-in-Some-clause-first c =
    sym (before_place c.args.name.now c.in-Some.dot (sym c.first_dot.ensures ∙ c.in-Some.is))

pub returns-in-Some-clause-second : goal.returns-in-Some-clause-second
returns-in-Some-clause-second c =
    let n = c.args.name.now in
    let k = c.in-Some.dot + 1 in
    let all : length (drop k n) ≤ length n - k = omega (arith, length-drop k n) in
    ap Some (take_all (length n - k) (drop k n) all)
    ∙ sym (after_place n c.in-Some.dot (sym c.first_dot.ensures ∙ c.in-Some.is))

pub returns-in-None-clause-first : goal.returns-in-None-clause-first
returns-in-None-clause-first c = sym (one_part c.args.name.now (sym c.first_dot.ensures ∙ c.in-None.is)).0

pub returns-in-None-clause-second : goal.returns-in-None-clause-second
returns-in-None-clause-second c = sym (one_part c.args.name.now (sym c.first_dot.ensures ∙ c.in-None.is)).1
