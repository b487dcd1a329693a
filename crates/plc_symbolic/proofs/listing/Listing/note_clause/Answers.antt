use Rattle.std.proofs.Common.{refl, ◌∙◌}
use Rattle.plc_symbolic.proofs.Places.{grows_twice}
use Rattle.plc_symbolic.proofs.Noting.{noted_more}
use Rattle.plc_symbolic.proofs.listing.Listing.note_clause.Goals as goal

pub loop-l-preserved : goal.loop-l-preserved
loop-l-preserved c =
    let more = noted_more c.args.self.now c.loop-l.self c.note_literal.new.self c.args.clause.now c.loop-l.l-index _ _ c.loop-l.lits c.in_ok-lit.lit
    c.loop-l-test.true refl c.loop-l.invariant.listed c.loop-l.invariant.lits c.in_ok-lit.ensures.grows c.in_ok-lit.ensures.listed c.in_ok-lit.ensures.lit in
    record {
      grows = grows_twice c.args.self.now c.loop-l.self c.note_literal.new.self c.loop-l.invariant.grows c.in_ok-lit.ensures.grows;
      listed = more.0;
      lits = c.in_ok-push.ensures.ok ∙ more.1;
    }
