use Rattle.plc_mem.specs.contracts.locals.Locals.{the_view}
use Rattle.plc_mem.proofs.Joined.{read_value}
use Rattle.plc_mem.proofs.locals.Locals.value.Goals as goal

pub returns : goal.returns
returns c = λ s t. rw (c.entry_or.ensures, c.deref.ensures.value, ← c.self.view_is) (read_value s t (the_view c.self.inside) c.args.x)
