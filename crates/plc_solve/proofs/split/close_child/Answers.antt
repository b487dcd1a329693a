use Rattle.std.proofs.Common.{List, subst}
use Rattle.plc_ground.specs.declared.terms.Lit.{Lit}
use Rattle.plc_solve.specs.Search.{Explains, TakesCore}
use Rattle.plc_solve.proofs.split.close_child.Goals as goal

pub returns-clause-core : goal.returns-clause-core
returns-clause-core c = (
  c.explain.new.forest.way.items,
  subst (λ (b : List Lit). Explains c.args.subject.now.set.now b c.args.pair.a c.args.pair.b c.explain.new.forest.way.items)
      c.deref.ensures.value c.in_ok-explain.ensures,
  subst (λ (m : List Lit). TakesCore c.args.top.now.core.items c.take_leaf.new.top.core.items c.args.own m) c.deref-2.ensures.value c.in_ok-take_leaf.ensures.core,
)
