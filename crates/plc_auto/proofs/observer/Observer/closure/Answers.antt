-- a retirement and a free, each once, lead to the whole closure
use Rattle.std.proofs.Common.{◌≡◌, true, false, ◌∙◌, ap, sym, subst}
use Rattle.plc_base.specs.Mask.{union, within}
use Rattle.plc_auto.specs.declared.event.EvKind.TheVariants.{Free}
use Rattle.plc_auto.specs.Sets.{all_locations, step_set, closure, IsClosureOf}
use Rattle.plc_auto.proofs.Closures.{closure_by_two_steps, two_steps, closure_is, closure_live}
use Rattle.plc_auto.proofs.observer.Observer.closure.Goals as goal

without : (c : goal.Then-not-with_free) → c.union-kept.result ≡ closure c.args.self.now c.args.with_free c.args.m.now
without c =
    c.union-kept.ensures ∙ ap (union c.args.m.now) c.step_set-retired.ensures.set
    ∙ ap (λ f. two_steps c.args.self.now f c.args.m.now) (sym c.if-not-with_free.true)
    ∙ closure_by_two_steps c.args.self.now c.args.with_free c.args.m.now c.requires

with : (c : goal.After-union) → c.union.result ≡ closure c.args.self.now c.args.with_free c.args.m.now
with c =
    c.union.ensures ∙ ap (union c.union-kept.result) c.step_set-freed.ensures.set
    ∙ ap (λ k. union k (step_set c.args.self.now c.args.m.now Free false true)) (c.union-kept.ensures ∙ ap (union c.args.m.now) c.step_set-retired.ensures.set)
    ∙ ap (λ f. two_steps c.args.self.now f c.args.m.now) (sym c.if-not-with_free.false)
    ∙ closure_by_two_steps c.args.self.now c.args.with_free c.args.m.now c.requires

pub returns-then-not-with_free-clause-set : goal.returns-then-not-with_free-clause-set
returns-then-not-with_free-clause-set c = without c

pub returns-then-not-with_free-clause-least : goal.returns-then-not-with_free-clause-least
returns-then-not-with_free-clause-least c = subst (λ s. IsClosureOf c.args.self.now c.args.with_free c.args.m.now s) (sym (without c)) (closure_is c.args.self.now c.args.with_free c.args.m.now c.requires)

pub returns-then-not-with_free-clause-live : goal.returns-then-not-with_free-clause-live
returns-then-not-with_free-clause-live c = subst (λ s. within s (all_locations c.args.self.now) ≡ true) (sym (without c)) (closure_live c.args.self.now c.args.with_free c.args.m.now c.requires)

pub returns-clause-set : goal.returns-clause-set
returns-clause-set c = with c

pub returns-clause-least : goal.returns-clause-least
returns-clause-least c = subst (λ s. IsClosureOf c.args.self.now c.args.with_free c.args.m.now s) (sym (with c)) (closure_is c.args.self.now c.args.with_free c.args.m.now c.requires)

pub returns-clause-live : goal.returns-clause-live
returns-clause-live c = subst (λ s. within s (all_locations c.args.self.now) ≡ true) (sym (with c)) (closure_live c.args.self.now c.args.with_free c.args.m.now c.requires)
