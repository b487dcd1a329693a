use Rattle.std.proofs.Common.{not, ◌&&◌, map, ap, sym, ◌∙◌}
use Rattle.std.specs.Prelude.{nat_eq}
use Rattle.std.specs.List.{list_any}
use Rattle.plc_auto.specs.Table.{target_of}
use Rattle.plc_auto.specs.Waiting.{is_kept_at}
use Rattle.plc_auto.specs.Locations.{is_free_row}
use Rattle.plc_auto.proofs.Moving.{none_kept}
use Rattle.plc_auto.proofs.row.Row.is_free.Goals as goal

pub returns-then-self : goal.returns-then-self
returns-then-self c =
    let at = map target_of c.self.inside.at.items in
    ap (λ n. nat_eq n 0) c.self.invariant ∙ none_kept is_kept_at at ∙ sym (ap (λ b. b && not (list_any is_kept_at at)) c.if-self.true) ∙ ap is_free_row c.self.view_is
