use Rattle.std.proofs.Common.{List, ℕ, sym, subst}
use Rattle.plc_ground.specs.Classes.{IsClosure}
use Rattle.plc_solve.proofs.explain.put_needed.Goals as goal

pub put_at-requires-clause-puts : goal.put_at-requires-clause-puts
put_at-requires-clause-puts c =
    let was = c.needed.invariant.puts in record {
      within = was.within;
      closure = subst (λ (class : List ℕ). IsClosure c.args.set.now.terms c.needed.core.items class) (sym c.in_ok-k.ensures.back.class) was.closure;
    }
