use Rattle.std.proofs.Common.{length, sym, ap, subst, ◌∙◌}
use Rattle.plc_lang.specs.Skeleton.{Skeleton}
use Rattle.plc_xfer.specs.Typings.{IsStuckAt}
use Rattle.plc_infer.specs.Programs.{IsProgram}
use Rattle.plc_suggest.proofs.Listing.{spots_known}
use Rattle.plc_suggest.proofs.Claiming.{lists_length}
use Rattle.plc_suggest.proofs.MarkedPrograms.{steps_marked, marked_is_program}
use Rattle.plc_suggest.proofs.Trying.{reached_if}
use Rattle.plc_suggest.proofs.suggesting.infer_marked.Goals as goal

pub marked_lists-requires-clause-rest : goal.marked_lists-requires-clause-rest
marked_lists-requires-clause-rest c = spots_known c.args.parts.now.flow.now c.args.parts.now.spots.now c.requires.spots

pub marked_edges-requires : goal.marked_edges-requires
marked_edges-requires c =
    ap length c.deref.ensures.value ∙ ap length c.in_ok-lists.ensures ∙ lists_length c.args.parts.now.spots.now 0
    c.args.parts.now.flow.now.steps

pub infer_program-requires : goal.infer_program-requires
infer_program-requires c =
    let p = c.args.parts.now in
    let marks = steps_marked p.flow.now p.spots.now c.deref-2.result.now c.in_ok-lists.ensures c.deref.ensures.value c.in_ok-edges.ensures c.deref-2.ensures.value in
    subst IsProgram (sym (c.marked_program-program.ensures p.spots.now marks).is) (marked_is_program p.flow.now p.spots.now c.requires.well c.requires.few)

pub returns-clause-reached : goal.returns-clause-reached
returns-clause-reached c =
    let p = c.args.parts.now in
    let marks = steps_marked p.flow.now p.spots.now c.deref-2.result.now c.in_ok-lists.ensures c.deref.ensures.value c.in_ok-edges.ensures c.deref-2.ensures.value in
    reached_if c.infer_program.result p.observer.now (c.marked_program-program.ensures p.spots.now marks).is c.infer_program.ensures.typing c.infer_program.ensures.strongest

pub returns-clause-stuck : goal.returns-clause-stuck
returns-clause-stuck c = λ k i why e.
    let p = c.args.parts.now in
    let marks = steps_marked p.flow.now p.spots.now c.deref-2.result.now c.in_ok-lists.ensures c.deref.ensures.value c.in_ok-edges.ensures c.deref-2.ensures.value in
    subst (λ (s : Skeleton). IsStuckAt p.observer.now s k.0 i why) (c.marked_program-program.ensures p.spots.now marks).is (c.infer_program.ensures.stuck k i why e)
