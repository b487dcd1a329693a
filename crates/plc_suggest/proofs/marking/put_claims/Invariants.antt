use Rattle.std.proofs.Common.{take}
use Rattle.plc_suggest.specs.Marking.{HasClaims}
use Rattle.plc_suggest.proofs.marking.put_claims.Given as goal

abbrev pub invariant-loop-spot : goal.invariant-loop-spot
invariant-loop-spot l = HasClaims l.fn.lists.items l.lists.items (take l.spot-index l.spots)
