use Rattle.plc_html.specs.Fragments.{Plain}
use Rattle.plc_html.proofs.Plain.{among, joined, piece_is_fragment}
use Rattle.plc_html.proofs.html.Html.listed.Goals as goal

pub invariant_of-self-2 : goal.invariant_of-self-2
invariant_of-self-2 c =
    rw c.in_ok-extend_from_slice.ensures.items (joined _ _ c.self.invariant (piece_is_fragment (Plain c.args.tag.now) (among c.args._text.now c.args.tag.now c.requires)))
