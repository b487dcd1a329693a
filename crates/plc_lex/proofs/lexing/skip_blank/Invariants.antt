use Rattle.std.proofs.Common.{[], ◌≤◌, length}
use Rattle.plc_lex.specs.Reading.{Reads}
use Rattle.plc_lex.proofs.lexing.skip_blank.Given as goal

abbrev pub invariant-loop-after : goal.invariant-loop-after
invariant-loop-after l = record { reads : Reads l.rest.at l.rest.line l.rest.bytes.now [] l.left; within : length l.left.bytes.now ≤ length l.rest.bytes.now }

abbrev pub decreases-loop-after : goal.decreases-loop-after
decreases-loop-after l = length l.left.bytes.now
