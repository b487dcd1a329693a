use Rattle.std.proofs.Common.{◌+◌, ◌∷◌, sym, ap, ◌∙◌}
use Rattle.plc_oblig.specs.Runs.{left_at}
use Rattle.plc_oblig.proofs.Joined.{group_found, group_passed, groups_passed}
use Rattle.plc_oblig.proofs.runs.next_from.Goals as goal

pub returns-in-Ok : goal.returns-in-Ok
returns-in-Ok c =
    let flow = c.args.o.flow.now in
    let outline = c.args.o.outline.now in
    let l = c.loop-g in
    group_found flow outline (left_at flow outline c.args.at) l.g l.part l.left l.invariant
    c.group_at-group.result c.in-Ok.found c.group_at-group.ensures c.in-Ok.ensures
    ∙ ap (λ o. o ∷ left_at flow outline (record { group = l.g; part = c.in-Ok.found.0; number = c.in-Ok.found.1 + 1 })) (sym c.in_part.ensures)

pub loop-g-preserved : goal.loop-g-preserved
loop-g-preserved c =
    let flow = c.args.o.flow.now in
    let outline = c.args.o.outline.now in
    let l = c.loop-g in
    group_passed flow outline (left_at flow outline c.args.at) l.g l.part l.left l.invariant
    c.group_at-group.result c.in-Err.rest c.group_at-group.ensures c.in-Err.ensures

pub returns : goal.returns
returns c =
    let flow = c.args.o.flow.now in
    let outline = c.args.o.outline.now in
    let l = c.loop-g in
    groups_passed flow outline (left_at flow outline c.args.at) l.g l.part l.left l.invariant (rw c.group_count-g-end.ensures at c.loop-g-test.false)
