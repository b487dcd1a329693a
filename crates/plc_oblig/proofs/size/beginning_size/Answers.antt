use Rattle.std.proofs.Common.{ap, ◌∙◌, count_by, arith}
use Rattle.plc_lang.specs.Locals.{is_other_data}
use Rattle.plc_oblig.specs.Size.{if_marked}
use Rattle.plc_oblig.proofs.Lengths.{start_beginning, enter_beginning}
use Rattle.plc_oblig.proofs.size.beginning_size.Goals as goal

pub returns-in-Start-clause-size : goal.returns-in-Start-clause-size
returns-in-Start-clause-size c s z =
    let all = start_beginning c.args.flow.now s c.args.o.now c.in-Start.inv c.in-Start.is in
    let bound = z.bound in
    let shared = c.len-shared.ensures in
    let marks = c.if_marked.ensures ∙ ap (λ b. if_marked b c.len-shared.result) z.marked ∙ ap (if_marked s.marked) shared in
    omega arith

pub returns-in-Enter-clause-size : goal.returns-in-Enter-clause-size
returns-in-Enter-clause-size c s z =
    let all = enter_beginning c.args.flow.now s c.args.o.now c.in-Enter.op c.in-Enter.clause c.in-Enter.is in
    let mine = z.mine in
    let others = c.count_other_data.ensures ∙ ap (count_by is_other_data) c.acting_locals.ensures in
    let marks = c.if_marked-in-Enter.ensures ∙ ap (λ b. if_marked b c.args.z.mine) z.marked
    ∙ ap (if_marked s.marked) mine in
    omega arith
