use Rattle.plc_html.specs.Fragments.{Number}
use Rattle.plc_html.proofs.Plain.{joined, piece_is_fragment}
use Rattle.plc_html.proofs.html.Html.number.Goals as goal

pub invariant_of-self-2 : goal.invariant_of-self-2
invariant_of-self-2 c =
    rw (c.in_ok-extend_from_slice.ensures.items, c.as_bytes.ensures.value, c.in_ok-digits.ensures.ok) (joined _ _ c.self.invariant (piece_is_fragment (Number c.args.number) tt))
