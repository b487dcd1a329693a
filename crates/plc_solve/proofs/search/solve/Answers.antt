use Rattle.std.proofs.Common.{List, sym, subst}
use Rattle.plc_ground.specs.declared.terms.Lit.{Lit}
use Rattle.plc_solve.specs.Search.{IsPlace}
use Rattle.plc_solve.proofs.Searching.{place_alone}
use Rattle.plc_solve.proofs.search.solve.Goals as goal

pub find-found-requires-clause-place : goal.find-found-requires-clause-place
find-found-requires-clause-place c =
    let equal = c.in_ok-equal.equal in
    subst (λ (branch : List Lit). IsPlace c.args.set.now branch equal.class) (sym c.new.ensures.items)
    (place_alone c.args.set.now equal.class c.in_ok-equal.ensures.closure c.in_ok-equal.ensures.own)
