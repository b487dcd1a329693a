use Rattle.plc_html.specs.Fragments.{Numbered}
use Rattle.plc_html.proofs.Plain.{joined, piece_is_fragment}
use Rattle.plc_html.proofs.html.Html.tag.Goals as goal

pub invariant_of-self-2 : goal.invariant_of-self-2
invariant_of-self-2 c =
    rw (c.in_ok-extend_from_slice.ensures.items, c.deref.ensures.value, c.in_ok-text.ensures) (joined _ _ c.self.invariant (piece_is_fragment (Numbered c.args.tag) tt))
