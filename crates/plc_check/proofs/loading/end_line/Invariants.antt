use Rattle.std.proofs.Common.{◌≡◌, ◌≤◌, ◌+◌, drop}
use Rattle.plc_lex.specs.Stops.{line_feeds}
use Rattle.plc_check.proofs.loading.end_line.Given as goal

abbrev pub invariant-loop-byte : goal.invariant-loop-byte
invariant-loop-byte l = (l.line + line_feeds (drop l.byte-index l.bytes) ≡ 1 + line_feeds l.bytes) × (l.line ≤ 1 + l.byte-index)
