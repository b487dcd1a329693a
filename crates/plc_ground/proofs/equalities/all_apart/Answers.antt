use Rattle.std.proofs.Common.{arith}
use Rattle.std.proofs.lemmas.Option.{slice_get_within}
use Rattle.plc_ground.proofs.Joining.{closure_alone}
use Rattle.plc_ground.proofs.equalities.all_apart.Goals as goal

pub returns-clause-closure : goal.returns-clause-closure
returns-clause-closure c =
    closure_alone c.args.set.now.terms c.loop-i.class
    (λ m v a i p. omega (arith, c.requires.earlier m v a i p, slice_get_within c.args.set.now.terms i _ p)) c.requires.distinct
    (omega (arith, c.loop-i.invariant.len)) (λ i il. c.loop-i.invariant.own i (omega arith))
