use Rattle.plc_html.proofs.Plain.{joined}
use Rattle.plc_html.proofs.html.Html.append.Goals as goal

pub invariant_of-self-2 : goal.invariant_of-self-2
invariant_of-self-2 c =
    rw (c.in_ok-extend_from_slice.ensures.items, c.deref.ensures.value) (joined _ _ c.self.invariant c.other.invariant)
