use Rattle.std.proofs.Common.{ap, ◌∙◌}
use Rattle.plc_auto.specs.Locations.{Locations, row_of, all_bear_free, may_free}
use Rattle.plc_auto.proofs.locations.Locations.may_free.Goals as goal

pub returns : goal.returns
unfolding may_free
returns c =
    let a = c.args.a in
    c.all_bear_free.ensures
    ∙ (λ i. all_bear_free a (c.deref-2.ensures.value i) ((c.row_of.ensures ∙ ap (λ rows. row_of rows c.self.inside.others.at a) c.deref.ensures.value) i))
    ∙ ap (λ (l : Locations). all_bear_free a l.watchers (row_of l.rows l.others a)) c.self.view_is
