use Rattle.std.proofs.Common.{List, subst}
use Rattle.std.specs.Prelude.{Contains}
use Rattle.plc_ground.specs.declared.terms.Lit.{Lit}
use Rattle.plc_solve.proofs.Needing.{takes_own, takes_known, takes_new}
use Rattle.plc_solve.proofs.cores.add_literal.Goals as goal

pub returns-then-is_one : goal.returns-then-is_one
returns-then-is_one c = takes_own c.args.core.now.items c.args.own c.args.l (c.is_one.ensures.yes c.if-is_one.true)

pub returns-in-Some : goal.returns-in-Some
returns-in-Some c =
    takes_known c.args.core.now.items c.args.own c.args.l (subst (λ (t : List Lit). Contains t c.args.l)
    c.deref.ensures.value (c.in-Some.ensures.1))

pub returns : goal.returns
returns c = takes_new c.args.core.now.items c.push.new.self.items c.args.own c.args.l (c.is_one.ensures.no c.if-is_one.false) c.in_ok-push.ensures.items
