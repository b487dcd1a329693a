use Rattle.std.proofs.Common.{Some, None, replicate, refl, sym, ap, ◌∙◌}
use Rattle.plc_run.specs.Run.{beginning}
use Rattle.plc_run.proofs.Stepping.{begun_with, begun_run}
use Rattle.plc_run.proofs.config.Config.start.Goals as goal

pub returns-in_ok-c-in-Fine-clause-starts : goal.returns-in_ok-c-in-Fine-clause-starts
returns-in_ok-c-in-Fine-clause-starts c =
    let tried = c.in_ok-tried.tried in
    let ran = c.in_ok-tried.ensures in
    let first = begun_with c.args.flow.now c.args.threads tried.memory ran.left tried.events.items (replicate c.args.threads None) c.requires.some ran.kept refl (rw c.in-Fine.is at ran.ends) in
    (c.in_ok-c-in-Fine.ensures.live, first ∙ ap Some (sym c.in_ok-c-in-Fine.ensures.here))

pub returns-in_ok-c-in-Fine-clause-of_run : goal.returns-in_ok-c-in-Fine-clause-of_run
returns-in_ok-c-in-Fine-clause-of_run c =
    begun_run c.args.flow.now c.args.observer.now c.args.threads c.in_ok-c-in-Fine.c (returns-in_ok-c-in-Fine-clause-starts c).1 c.in_ok-c-in-Fine.ensures.follows c.in_ok-c-in-Fine.ensures.indexed

pub returns-in-Blocked-clause-starts : goal.returns-in-Blocked-clause-starts
returns-in-Blocked-clause-starts c = sym (ap (beginning c.args.threads) (rw c.in-Blocked.is at c.in_ok-tried.ensures.ends))

pub returns-in-Raced-clause-starts : goal.returns-in-Raced-clause-starts
returns-in-Raced-clause-starts c = sym (ap (beginning c.args.threads) (rw c.in-Raced.is at c.in_ok-tried.ensures.ends))
