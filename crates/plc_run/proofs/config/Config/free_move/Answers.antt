use Rattle.std.proofs.Common.{◌≡◌, true, refl, sym, ap, ◌∙◌, subst}
use Rattle.plc_mem.specs.State.{freed}
use Rattle.plc_run.specs.Run.{Configuration}
use Rattle.plc_run.specs.Reach.{Reached, answer, Reaches}
use Rattle.plc_auto.specs.Locations.{may_free}
use Rattle.plc_run.specs.Position.{Position}
use Rattle.plc_run.specs.contracts.config.Config.{the_view}
use Rattle.plc_run.proofs.Follow.{free_forbidden, free_goes, free_done}
use Rattle.plc_run.proofs.config.Config.free_move.Goals as goal

pub returns-then-not-may_free-clause-answer : goal.returns-then-not-may_free-clause-answer
returns-then-not-may_free-clause-answer c =
    let v = the_view c.self.inside in
    let follows = rw (← c.self.view_is) at c.requires.follows in
    let may = sym c.may_free.ensures ∙ c.if-not-may_free.true in
    rw (← c.self.view_is) (ap answer (free_forbidden c.args.observer.now v c.args.a follows c.if-a-eq0.false may))

pub returns-then-not-may_free-clause-after : goal.returns-then-not-may_free-clause-after
returns-then-not-may_free-clause-after c =
    let v = the_view c.self.inside in
    let follows = rw (← c.self.view_is) at c.requires.follows in
    let may = sym c.may_free.ensures ∙ c.if-not-may_free.true in
    rw (← c.self.view_is) (subst (λ (r : Reached). Reaches r v v) (free_forbidden c.args.observer.now v c.args.a follows c.if-a-eq0.false may) refl)

pub returns-clause-answer : goal.returns-clause-answer
returns-clause-answer c =
    let v = the_view c.self.inside in
    let follows = rw (← c.self.view_is) at c.requires.follows in
    let may = sym c.may_free.ensures ∙ c.if-not-may_free.false in
    rw (← c.self.view_is) (ap answer (free_goes c.args.observer.now v c.args.a follows c.if-a-eq0.false may))

pub returns-clause-after : goal.returns-clause-after
returns-clause-after c =
    let v = the_view c.self.inside in
    let o = c.args.observer.now in
    let a = c.args.a in
    let p = c.args.self.now in
    let frees = sym c.may_free.ensures ∙ c.if-not-may_free.false in
    let may = subst (λ (p : Position). may_free p.located a ≡ true) c.self.view_is frees in
    let here = ap (λ (q : Position). q.here) c.self-2.view_is ∙ c.in_ok-hear.ensures.ok.here in
    let q : Position = record (the_view c.self-2.inside) { here = record (the_view c.self-2.inside).here { state = c.free.new.self } } in
    let state = c.free.ensures.freed ∙ ap (λ (x : Configuration). freed x.state a) here in
    free_done o p q a c.requires.follows c.if-a-eq0.false may state (ap (λ (x : Configuration). x.history) here) (ap (λ (x : Configuration). x.points) here) (ap (λ (q : Position). q.ended) c.self-2.view_is ∙ c.in_ok-hear.ensures.ok.ended) (ap (λ (q : Position). q.steps) c.self-2.view_is ∙ c.in_ok-hear.ensures.ok.steps)
