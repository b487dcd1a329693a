use Rattle.std.proofs.Common.{sym, subst}
use Rattle.plc_at.specs.Claims.{ClaimFits}
use Rattle.plc_at.specs.Reading.{AreOps}
use Rattle.plc_at.proofs.adding.add_items.Goals as goal

pub add_needed-requires : goal.add_needed-requires
add_needed-requires c = record {
  file = c.requires.file;
  ops = subst (AreOps c.args.flow.now) (sym c.deref.ensures.value) c.in_ok-ops.ensures;
  claim = subst (ClaimFits c.args.flow.now) (sym c.claim-item.is)
      (c.requires.claims c.loop-claim.claim-index c.claim-item.result c.loop-claim-test.true);
}
