use Rattle.std.proofs.Common.{◌++◌, length, sym, ap, subst, ◌∙◌}
use Rattle.std.specs.Prelude.{IfOk}
use Rattle.plc_lang.specs.Skeleton.{Skeleton}
use Rattle.plc_infer.specs.Resuming.{IsResumed}
use Rattle.plc_suggest.proofs.Claiming.{lists_length}
use Rattle.plc_suggest.proofs.MarkedPrograms.{steps_marked, can_resume}
use Rattle.plc_suggest.proofs.trial.resume_marked.Goals as goal

pub marked_edges-requires : goal.marked_edges-requires
marked_edges-requires c =
    ap length c.deref.ensures.value ∙ ap length c.in_ok-lists.ensures
    ∙ lists_length (c.args.first.now ++ c.args.rest.now) 0 c.args.parts.now.flow.now.steps

pub resume-requires : goal.resume-requires
resume-requires c =
    let p = c.args.parts.now in
    let spots = c.args.first.now ++ c.args.rest.now in
    let marks = steps_marked p.flow.now spots c.deref-2.result.now c.in_ok-lists.ensures c.deref.ensures.value c.in_ok-edges.ensures c.deref-2.ensures.value in
    can_resume p spots c.marked_program-program.result c.args.changed.now c.args.envs.now.items c.requires.parts c.requires.few
    (c.marked_program-program.ensures spots marks) c.requires.known c.requires.begun

pub returns : goal.returns
returns c =
    let p = c.args.parts.now in
    let spots = c.args.first.now ++ c.args.rest.now in
    let marks = steps_marked p.flow.now spots c.deref-2.result.now c.in_ok-lists.ensures c.deref.ensures.value c.in_ok-edges.ensures c.deref-2.ensures.value in
    subst (λ (s : Skeleton). IfOk c.resume.result (IsResumed p.observer.now s c.args.envs.now.items c.resume.new.envs.items))
    (c.marked_program-program.ensures spots marks).is c.resume.ensures
