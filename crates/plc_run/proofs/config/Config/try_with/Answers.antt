use Rattle.std.proofs.Common.{◌≡◌, ℕ, ◌++◌, List, Ok, Some, [], refl, sym, ap, ◌∙◌, subst, rules}
use Rattle.plc_auto.specs.declared.event.Event.{Event}
use Rattle.plc_mem.proofs.Undone.{takes_nothing_back}
use Rattle.plc_mem.specs.State.{State, Locals, with_locals}
use Rattle.plc_mem.specs.Outcomes.{address_or_null}
use Rattle.plc_mem.specs.declared.undo.Undo.{Undo}
use Rattle.plc_mem.specs.Undoing.{TakesBack}
use Rattle.plc_run.specs.declared.execute.Ended.TheVariants.{Fine, Blocked, Raced}
use Rattle.plc_run.specs.Run.{execute}
use Rattle.plc_run.specs.Ended.{ending}
use Rattle.plc_run.specs.Position.{Position}
use Rattle.plc_run.specs.Reach.{Tries}
use Rattle.plc_run.specs.contracts.config.Config.{the_view}
use Rattle.plc_run.proofs.Stepping.{halted_end, tried_unheard, tried_heard}
use Rattle.plc_run.proofs.config.Config.try_with.Goals as goal

begins : (t : ℕ) (s : State) (l : Locals) (us : List Undo) → us ≡ [] → TakesBack t s l us s l
begins t s l us none = subst (λ us. TakesBack t s l us s l) (sym none) (takes_nothing_back t s l)

pub returns-in_err-ended-clause-tries : goal.returns-in_err-ended-clause-tries
returns-in_err-ended-clause-tries c =
    let v = the_view c.self.inside in
    let takes = c.execute.ensures.undoable v.here.state c.args.me.now (begins c.args.by.t v.here.state c.args.me.now c.args.undos.now.items c.requires.none) in
    rw (← c.self.view_is) (tried_unheard c.args.by.t (address_or_null c.args.by.addr) c.args.prims.now v c.execute.new.memory c.args.me.now c.execute.new.me c.from_residual.result c.execute.new.undos.items takes (search rules))

pub returns-in-Fine-clause-tries : goal.returns-in-Fine-clause-tries
returns-in-Fine-clause-tries c =
    let v = the_view c.self.inside in
    let a = address_or_null c.args.by.addr in
    let events = c.execute.new.events.items in
    let takes = c.execute.ensures.undoable v.here.state c.args.me.now (begins c.args.by.t v.here.state c.args.me.now c.args.undos.now.items c.requires.none) in
    let ran : ending Fine (with_locals c.execute.new.memory c.args.by.t (Some c.execute.new.me)) events ≡ execute (with_locals v.here.state c.args.by.t (Some c.args.me.now)) [] c.args.by.t a 0 c.args.prims.now =
    ap (λ e. ending e (with_locals c.execute.new.memory c.args.by.t (Some c.execute.new.me)) events) (sym c.in-Fine.is) ∙ c.in_ok-ended.ensures.ends ∙ ap (λ g. execute (with_locals v.here.state c.args.by.t (Some c.args.me.now)) g c.args.by.t a 0 c.args.prims.now) c.new-events.ensures.items in
    let here = c.in_ok-hear-in-Fine.ensures.ok.here ∙ (let longer : (x : List Event) → x ≡ events → (record v.here { state = c.execute.new.memory; history = v.here.history ++ x }) ≡ (record v.here { state = c.execute.new.memory; history = v.here.history ++ events }) = λ x e. ap (λ x. record v.here { state = c.execute.new.memory; history = v.here.history ++ x }) e in longer c.deref.result.now c.deref.ensures.value) in
    rw (← c.self.view_is) (tried_heard c.args.by.t a c.args.prims.now v c.hear.new.self c.execute.new.memory events c.args.me.now c.execute.new.me c.execute.new.undos.items takes ran here c.in_ok-hear-in-Fine.ensures.ok.ended c.in_ok-hear-in-Fine.ensures.ok.steps)

pub returns-in_err-hear-in-Fine-clause-tries : goal.returns-in_err-hear-in-Fine-clause-tries
returns-in_err-hear-in-Fine-clause-tries c =
    let v = the_view c.self.inside in
    let a = address_or_null c.args.by.addr in
    let takes = c.execute.ensures.undoable v.here.state c.args.me.now (begins c.args.by.t v.here.state c.args.me.now c.args.undos.now.items c.requires.none) in
    let r = c.from_residual-in_err-hear-in-Fine.result in
    let same = c.in_err-hear-in-Fine.ensures.err in
    rw (← c.self.view_is) (subst (λ (q : Position). Tries c.args.by.t a c.args.prims.now v c.args.me.now r q c.execute.new.me c.execute.new.undos.items) (sym same)
    (tried_unheard c.args.by.t a c.args.prims.now v c.execute.new.memory c.args.me.now c.execute.new.me r c.execute.new.undos.items takes (search rules)))

pub returns-in-Blocked-clause-tries : goal.returns-in-Blocked-clause-tries
returns-in-Blocked-clause-tries c =
    let v = the_view c.self.inside in
    let a = address_or_null c.args.by.addr in
    let takes = c.execute.ensures.undoable v.here.state c.args.me.now (begins c.args.by.t v.here.state c.args.me.now c.args.undos.now.items c.requires.none) in
    let ran = rw c.in-Blocked.is at (c.in_ok-ended.ensures.ends ∙ ap (λ g. execute (with_locals v.here.state c.args.by.t (Some c.args.me.now)) g c.args.by.t a 0 c.args.prims.now) c.new-events.ensures.items) in
    rw (← c.self.view_is) (tried_unheard c.args.by.t a c.args.prims.now v c.execute.new.memory c.args.me.now c.execute.new.me (Ok Blocked) c.execute.new.undos.items takes
    (halted_end (with_locals v.here.state c.args.by.t (Some c.args.me.now)) (with_locals c.execute.new.memory c.args.by.t (Some c.execute.new.me)) v.here.history c.execute.new.events.items c.args.by.t a c.args.prims.now Blocked refl ran))

pub returns-clause-tries : goal.returns-clause-tries
returns-clause-tries c =
    let v = the_view c.self.inside in
    let a = address_or_null c.args.by.addr in
    let takes = c.execute.ensures.undoable v.here.state c.args.me.now (begins c.args.by.t v.here.state c.args.me.now c.args.undos.now.items c.requires.none) in
    let end = Raced c.in-Raced.kind c.in-Raced.prim in
    let ran = rw c.in-Raced.is at (c.in_ok-ended.ensures.ends ∙ ap (λ g. execute (with_locals v.here.state c.args.by.t (Some c.args.me.now)) g c.args.by.t a 0 c.args.prims.now) c.new-events.ensures.items) in
    rw (← c.self.view_is) (tried_unheard c.args.by.t a c.args.prims.now v c.execute.new.memory c.args.me.now c.execute.new.me (Ok end) c.execute.new.undos.items takes
    (halted_end (with_locals v.here.state c.args.by.t (Some c.args.me.now)) (with_locals c.execute.new.memory c.args.by.t (Some c.execute.new.me)) v.here.history c.execute.new.events.items c.args.by.t a c.args.prims.now end refl ran))

pub returns-in_err-ended-clause-follows : goal.returns-in_err-ended-clause-follows
returns-in_err-ended-clause-follows c = λ o before. rw (← c.self.view_is) at before

pub returns-in-Fine-clause-follows : goal.returns-in-Fine-clause-follows
returns-in-Fine-clause-follows c = λ o before. c.hear.ensures.follows o (rw (← c.self.view_is) at before)

pub returns-in_err-hear-in-Fine-clause-follows : goal.returns-in_err-hear-in-Fine-clause-follows
returns-in_err-hear-in-Fine-clause-follows c = λ o before. c.hear.ensures.follows o (rw (← c.self.view_is) at before)

pub returns-in-Blocked-clause-follows : goal.returns-in-Blocked-clause-follows
returns-in-Blocked-clause-follows c = λ o before. rw (← c.self.view_is) at before

pub returns-clause-follows : goal.returns-clause-follows
returns-clause-follows c = λ o before. rw (← c.self.view_is) at before
