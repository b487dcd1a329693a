use Rattle.std.proofs.Common.{◌≡◌, ◌+◌, ◌-◌, ◌≤◌, Some, length, take, drop}
use Rattle.std.specs.Prelude.{IfSome}
use Rattle.plc_outside.proofs.real.read_start.Given as goal

abbrev pub invariant-loop-bytes : goal.invariant-loop-bytes
invariant-loop-bytes g l = record {
  bound : length l.bytes.items ≤ l.max + 1;
  so_far : IfSome (g.R.Read.remaining l.fn.file) (λ left. l.bytes.items ≡ take (length l.bytes.items) left);
  rest : IfSome (g.R.Read.remaining l.fn.file) (λ left. g.R.Read.remaining l.file ≡ Some (drop (length l.bytes.items) left));
}

abbrev pub decreases-loop-bytes : goal.decreases-loop-bytes
decreases-loop-bytes g l = l.max + 1 - length l.bytes.items
