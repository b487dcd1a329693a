use Rattle.std.proofs.Common.{sym, ap, ◌∙◌}
use Rattle.plc_mem.specs.Outcomes.{address_or_null}
use Rattle.plc_run.specs.Position.{Position}
use Rattle.plc_run.specs.contracts.config.Config.{the_view}
use Rattle.plc_run.proofs.Executing.{place_there, place_empty}
use Rattle.plc_run.proofs.Stepping.{locals_back, locals_back_err, has_locals, named_lent}
use Rattle.plc_run.proofs.config.Config.act.Goals as goal

pub put-requires : goal.put-requires
put-requires c =
    let s = c.self.inside.memory in
    let same = ap (λ (q : Position). q.here.state.locals) c.self-2.view_is ∙ c.act_with-ended.ensures.kept.locals in
    record {
      below = place_there s c.take.new.self c.self-2.inside.memory c.args.by.t c.in-Some.me (sym c.take.ensures.taken ∙ c.in-Some.is) c.take.ensures.rest same;
      none = place_empty s c.take.new.self c.self-2.inside.memory c.args.by.t c.take.ensures.rest same;
    }

pub returns-clause-acts : goal.returns-clause-acts
returns-clause-acts c =
    let v = the_view c.self.inside in
    let held = sym c.take.ensures.taken ∙ c.in-Some.is in
    rw (← c.self.view_is) (locals_back v (the_view c.self-2.inside) c.act_with-ended.new.self c.take.new.self c.put.new.self c.args.by.t (address_or_null c.args.by.addr) c.in-Some.me c.act_with-ended.new.me c.args.prims.now c.act_with-ended.result held c.take.ensures.rest c.self-2.view_is c.act_with-ended.ensures.acts c.put.ensures.given)

pub returns-clause-err : goal.returns-clause-err
returns-clause-err c =
    let v = the_view c.self.inside in
    let held = sym c.take.ensures.taken ∙ c.in-Some.is in
    rw (← c.self.view_is) (locals_back_err v (the_view c.self-2.inside) c.act_with-ended.new.self c.take.new.self c.put.new.self c.args.by.t c.in-Some.me c.act_with-ended.new.me c.act_with-ended.result held c.take.ensures.rest c.self-2.view_is c.act_with-ended.ensures.err c.put.ensures.given)

pub returns-in_default-clause-acts : goal.returns-in_default-clause-acts
returns-in_default-clause-acts c = has_locals (the_view c.self.inside).here.state c.args.by.t c.args.prims.now _ (rw (← c.self.view_is) at c.requires) (sym c.in_default.is ∙ c.take.ensures.taken)

pub returns-in_default-clause-follows : goal.returns-in_default-clause-follows
returns-in_default-clause-follows c = λ o before. rw (← c.self.view_is) at before

pub act_with-ended-requires : goal.act_with-ended-requires
act_with-ended-requires c = named_lent (the_view c.self.inside).here.state c.take.new.self c.args.by.t c.in-Some.me c.args.prims.now (rw (← c.self.view_is) at c.requires) (sym c.take.ensures.taken ∙ c.in-Some.is) c.take.ensures.rest

pub returns-clause-follows : goal.returns-clause-follows
returns-clause-follows c = λ o before. rw (← c.self-2.view_is) at (c.act_with-ended.ensures.follows o (rw (← c.self.view_is) at before))
