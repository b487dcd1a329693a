use Rattle.std.proofs.Common.{List, length, sym, ap, arith, subst}
use Rattle.plc_base.proofs.Lists.{held_below}
use Rattle.plc_lang.specs.declared.syntax.Primitive.{Primitive}
use Rattle.plc_lang.specs.Shape.{PrimitivesIn}
use Rattle.plc_mem.specs.Outcomes.{address_or_null}
use Rattle.plc_mem.specs.Fit.{shape}
use Rattle.plc_run.specs.Reach.{Acts}
use Rattle.plc_run.proofs.Follow.{unheard}
use Rattle.plc_run.proofs.Stepping.{concluded_answer, concluded_so}
use Rattle.plc_run.proofs.config.Config.take.Goals as goal

pub act-requires : goal.act-requires
act-requires c =
    let r = c.requires in
    record {
      locals = r.locals;
      held = r.held;
      fit = subst (PrimitivesIn (shape c.args.self.now.here.state r.locals)) (sym c.as_slice.ensures) r.fit;
      short = omega (arith, r.short, ap length c.as_slice.ensures);
    }

pub conclude-requires : goal.conclude-requires
conclude-requires c = omega (arith, held_below c.args.self.now.here.points c.args.t c.args.point c.requires.stands, ap length c.in_ok-ended.ensures.acts.points)

pub returns : goal.returns
returns c =
    let p = c.args.self.now in
    let acts = subst (λ (ps : List Primitive). Acts c.args.t (address_or_null c.args.addr) ps p c.in_ok-ended.ended c.act.new.self) c.as_slice.ensures c.in_ok-ended.ensures.acts in
    record {
      says = concluded_answer p c.act.new.self c.args.t c.args.addr c.args.point c.arrival.result c.args.step.now c.in_ok-ended.ended c.conclude.result acts c.arrival.ensures c.conclude.ensures.answer;
      after = concluded_so p c.act.new.self c.conclude.new.self c.args.t c.args.addr c.args.point c.arrival.result c.args.step.now c.in_ok-ended.ended acts c.arrival.ensures c.conclude.ensures.after;
      follows = λ o before. unheard o c.act.new.self c.conclude.new.self c.conclude.ensures.unheard (c.act.ensures.follows o before);
      err = tt;
    }
