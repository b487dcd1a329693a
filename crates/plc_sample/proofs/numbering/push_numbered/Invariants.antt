use Rattle.std.proofs.Common.{◌≡◌, ◌++◌, drop}
use Rattle.plc_sample.specs.Sample.{numbered}
use Rattle.plc_sample.proofs.numbering.push_numbered.Given as goal

abbrev pub invariant-loop-byte : goal.invariant-loop-byte
invariant-loop-byte l =
    l.out.items ++ numbered l.number (drop l.byte-index l.byte-items) ≡ l.fn.out.items ++ numbered l.number l.byte-items
