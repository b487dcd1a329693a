use Rattle.plc_oblig.proofs.alike.share_item.Goals as goal

pub returns : goal.returns
returns c =
    let first = c.requires.first in
    let second = c.requires.second in
    rw (c.same_bool.ensures, c.stands_at.ensures, c.stands_at-2.ensures)
