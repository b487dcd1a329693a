use Rattle.std.proofs.Common.{arith}
use Rattle.plc_outside.proofs.Appending.{Appends-range}
use Rattle.plc_outside.proofs.writing.write_text.Goals as goal

pub loop-done-preserved : goal.loop-done-preserved
loop-done-preserved g c = record {
  within = grind arith;
  so_far = Appends-range (g.S.Sink.known c.args.out.now) (g.S.Sink.known c.loop-done.out) _ c.args.text.now _ _ c.loop-done.invariant.so_far c.in-Ok.ensures.appends;
  later = grind arith;
  room = grind arith;
}
