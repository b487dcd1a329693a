use Rattle.std.proofs.Common.{◌≡◌, ◌++◌, drop}
use Rattle.plc_html.specs.Escaping.{escaped}
use Rattle.plc_html.proofs.html.Html.text.Given as goal

abbrev pub invariant-loop-byte : goal.invariant-loop-byte
invariant-loop-byte l = l.self ++ escaped (drop l.byte-index l.bytes) ≡ l.initial.self ++ escaped l.bytes
