use Rattle.plc_html.specs.Fragments.{Byte}
use Rattle.plc_html.proofs.Plain.{joined, piece_is_fragment}
use Rattle.plc_html.proofs.html.Html.byte.Goals as goal

pub invariant_of-self-2 : goal.invariant_of-self-2
invariant_of-self-2 c =
    rw c.in_ok-push_escaped.ensures.ok (joined _ _ c.self.invariant (piece_is_fragment (Byte c.args.byte) tt))
