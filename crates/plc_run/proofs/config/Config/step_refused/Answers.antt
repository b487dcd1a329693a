use Rattle.std.proofs.Common.{length, sym, ap, ◌∙◌}
use Rattle.std.specs.Option.{option_copied}
use Rattle.plc_run.proofs.Threads.{busy_at, step_fits}
use Rattle.plc_run.proofs.config.Config.step_refused.Goals as goal

pub untaken-requires : goal.untaken-requires
untaken-requires c =
    let p = c.args.self.now in
    let b = busy_at c.args.flow.now (length p.here.points) p.here c.args.t c.in-Some.point c.requires.fits (sym c.point.ensures ∙ c.in-Some.is) in
    let there = sym c.nth_step.ensures ∙ ap option_copied c.in-Some-nth_step.is in
    let f = step_fits c.args.flow.now c.requires.named p.here.state c.args.t c.in-Some.point c.in-Some-nth_step.step.now c.args.nth b there in
    record { locals = b.locals; held = b.held; fit = f.names; short = f.short }
