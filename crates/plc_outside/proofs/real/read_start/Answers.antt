use Rattle.std.proofs.Common.{arith}
use Rattle.plc_outside.proofs.Pieces.{piece-so_far, piece-rest}
use Rattle.plc_outside.proofs.real.read_start.Goals as goal

pub loop-bytes-preserved : goal.loop-bytes-preserved
loop-bytes-preserved g c =
    let piece = c.in_ok-read_piece.ensures in
    record {
      bound = omega (arith, c.in_ok-read_piece.ensures.bound, c.in_ok-read_piece.ensures.count);
      so_far = piece-so_far _ _ _ _ _ _ c.loop-bytes.invariant.so_far c.loop-bytes.invariant.rest c.in_ok-read_piece.ensures.bytes c.in_ok-read_piece.ensures.count;
      rest = piece-rest _ _ _ _ _ _ c.loop-bytes.invariant.so_far c.loop-bytes.invariant.rest c.in_ok-read_piece.ensures.bytes c.in_ok-read_piece.ensures.count;
    }
