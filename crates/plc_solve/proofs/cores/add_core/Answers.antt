use Rattle.std.proofs.Common.{List, sym, subst}
use Rattle.std.proofs.lemmas.List.{take_more}
use Rattle.plc_ground.specs.declared.terms.Lit.{Lit}
use Rattle.plc_solve.specs.Search.{TakesCore}
use Rattle.plc_solve.proofs.Needing.{takes_more}
use Rattle.plc_solve.proofs.cores.add_core.Goals as goal

pub loop-l-preserved : goal.loop-l-preserved
loop-l-preserved c =
    subst (λ (t : List Lit). TakesCore c.args.core.now.items c.add_literal.new.core.items c.args.own t) (sym (take_more c.args.more.now c.loop-l.l-index _ c.loop-l-test.true))
    (takes_more c.args.core.now.items c.loop-l.core.items c.add_literal.new.core.items c.args.own _ _
    c.loop-l.invariant c.in_ok-start.ensures)
