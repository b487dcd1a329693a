use Rattle.std.proofs.Common.{◌<◌, ◌+◌, ◌∙◌, length, sym, subst, eqb-true}
use Rattle.plc_run.specs.Position.{threads_of}
use Rattle.plc_hunting.proofs.Leading.{as_many, leads_more, races_last, leads_back, race_back}
use Rattle.plc_hunting.proofs.racing.leads_to_race.Goals as goal

pub returns-in-Race : goal.returns-in-Race
returns-in-Race c =
    let p = c.loop-k.config in
    let inv = c.loop-k.invariant in
    let a = rw c.in-Race.is at c.in_ok-step.ensures.answers in
    record {
      races = λ last. inv.told (races_last c.args.flow.now c.args.observer.now (threads_of p) (threads_of c.args.config.now) p.here c.args.moves.now c.loop-k.k c.index-moves-k.result c.in-Race.kind c.in-Race.prim inv.many c.loop-k-test.true c.index-moves-k.is (eqb-true (c.loop-k.k + 1) (length c.args.moves.now) last) a.1);
      exactly = λ leads. race_back c.args.flow.now c.args.observer.now (threads_of p) (threads_of c.args.config.now) p.here c.args.moves.now c.loop-k.k c.index-moves-k.result inv.many c.loop-k-test.true c.index-moves-k.is c.in-Race.kind c.in-Race.prim a.1 (inv.back leads);
    }

pub loop-k-preserved : goal.loop-k-preserved
loop-k-preserved c =
    let p = c.loop-k.config in
    let q = c.step.new.self in
    let inv = c.loop-k.invariant in
    let a = rw c.in-Done.is at c.in_ok-step.ensures.answers in
    let some = subst (λ n. 0 < n) (sym inv.many) c.requires.some in
    record {
      many = as_many c.args.flow.now c.requires.fits c.args.observer.now p q _ some inv.of_run a.2 ∙ inv.many;
      of_run = c.step.ensures.of_run;
      goes = a.1;
      told = λ rest. inv.told (leads_more c.args.flow.now c.args.observer.now (threads_of p) (threads_of c.args.config.now) p.here q.here c.args.moves.now c.loop-k.k c.index-moves-k.result inv.many c.loop-k-test.true c.index-moves-k.is a.2 rest);
      back = λ leads. leads_back c.args.flow.now c.args.observer.now (threads_of p) (threads_of c.args.config.now) p.here c.args.moves.now c.loop-k.k c.index-moves-k.result inv.many c.loop-k-test.true c.index-moves-k.is q.here a.2 (inv.back leads);
    }
