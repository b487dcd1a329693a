use Rattle.std.proofs.Common.{List, sym, subst}
use Rattle.plc_flow.specs.Skeleton.{skeleton_of}
use Rattle.plc_xfer.specs.Typings.{IsTyping}
use Rattle.plc_suggest.specs.declared.spot.Spot.{Spot}
use Rattle.plc_suggest.specs.Spots.{marked}
use Rattle.plc_suggest.specs.Needed.{AreNeeded}
use Rattle.plc_suggest.proofs.suggesting.suggest_among.Goals as goal

pub returns-in_ok-kept-in-Ok-clause-suggested : goal.returns-in_ok-kept-in-Ok-clause-suggested
returns-in_ok-kept-in-Ok-clause-suggested c =
    let p = c.args.parts.now in
    let o = p.observer.now in
    let s = skeleton_of p.flow.now in
    let env = c.in-Ok.typing.env in (
      (env, subst (λ (xs : List Spot). IsTyping o (marked xs s) env) c.requires.spots c.in-Ok.ensures.reached.typing),
      subst (AreNeeded o s) (sym c.from_vec.ensures) c.in_ok-kept-in-Ok.ensures,
    )
