use Rattle.std.specs.Prelude.{◌≡◌, false, is_some}
use Rattle.std.proofs.Common.{None, get_or, refl}
use Rattle.std.proofs.lemmas.Option.{slice_get-get_or}
use Rattle.plc_oblig.specs.GroundSets.{ground_set}
use Rattle.plc_verify.proofs.Closing.{closes_if_none, more_tried, verdict_at}
use Rattle.plc_verify.proofs.trees.try_tree.Goals as goal

pub returns-then-is_tried-clause-bad : goal.returns-then-is_tried-clause-bad
returns-then-is_tried-clause-bad c =
    let e = c.args.evidence.now in
    let t = get_or e.trees.now c.args.at c.index-evidence-at.result in
    let is = slice_get-get_or e.trees.now c.args.at c.index-evidence-at.result c.requires.there in
    verdict_at e.program.flow.now e.program.outline.now e.trees.now c.args.at c.args.o.now t None is (c.if-is_tried.ensures refl)

pub returns-in_ok-note-clause-tried : goal.returns-in_ok-note-clause-tried
returns-in_ok-note-clause-tried c =
    let e = c.args.evidence.now in
    let t = get_or e.trees.now c.args.at c.index-evidence-at.result in
    let set = ground_set e.program.flow.now e.program.outline.now c.args.o.now in
    let is = slice_get-get_or e.trees.now c.args.at c.index-evidence-at.result c.requires.there in
    let none : is_some c.in_ok-bad.bad ≡ false = (let e = c.is_none.ensures in let h = c.if-is_none.true in cc) in
    more_tried e.program.flow.now e.program.outline.now e.trees.now c.args.tried.now c.args.o.now c.args.at c.requires.tried c.note.new.self
    t is (closes_if_none set t.nodes c.in_ok-bad.bad c.in_ok-bad.ensures.bad none) c.in_ok-note.ensures
