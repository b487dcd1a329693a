use Rattle.std.proofs.Common.{sym, subst, ◌∙◌}
use Rattle.plc_moves.specs.declared.words.Move.TheVariants.{Free}
use Rattle.plc_explore.specs.Walking.{IsWalked}
use Rattle.plc_explore.proofs.Leading.{walked_more}
use Rattle.plc_explore.proofs.walker.Walker.free.Goals as goal

pub loop-preserved : goal.loop-preserved
loop-preserved g c =
    let p = c.args.program.now in
    let a = rw c.in-Ok-Done.field-0-is at c.in-Ok-Done.ensures.answers in
    record {
      of_run = c.in-Ok-Done.ensures.of_run;
      many = c.in-Ok-Done.ensures.many ∙ c.loop.invariant.many;
      walked = subst (λ ms. IsWalked p ms c.free.new.self.config) (sym c.in_ok-freed-in-Ok-Done.ensures)
          (walked_more p c.loop.self.moves (Free c.in-Some.a) c.loop.run.config c.free.new.self.config
          c.loop.invariant.of_run c.loop.invariant.walked a.2);
    }
