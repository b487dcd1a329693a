-- after the last location the pass has the whole step, whose members are locations
use Rattle.std.proofs.Common.{◌≡◌, true, ◌∙◌, ap, sym, subst, arith}
use Rattle.plc_base.specs.Mask.{within}
use Rattle.plc_auto.specs.Table.{count_of}
use Rattle.plc_auto.specs.Sets.{all_locations, step_set}
use Rattle.plc_auto.proofs.SetLemmas.{stepped, stepped_all, step_set_live}
use Rattle.plc_auto.proofs.observer.Observer.step_set.Goals as goal

whole : (c : goal.After-loop-at) → c.loop-at.reached ≡ step_set c.args.self.now c.args.m.now c.args.kind c.args.own c.args.this
whole c =
    let end : c.loop-at.at ≡ count_of c.args.self.now = omega arith in
    c.loop-at.invariant ∙ ap (stepped c.args.self.now c.args.m.now c.args.kind c.args.own c.args.this) end
    ∙ stepped_all c.args.self.now c.args.m.now c.args.kind c.args.own c.args.this c.requires

pub returns-clause-set : goal.returns-clause-set
returns-clause-set c = whole c

pub returns-clause-live : goal.returns-clause-live
returns-clause-live c = subst (λ m. within m (all_locations c.args.self.now) ≡ true) (sym (whole c)) (step_set_live c.args.self.now c.args.m.now c.args.kind c.args.own c.args.this c.requires)
