use Rattle.std.proofs.Common.{map, ap, ◌∙◌}
use Rattle.plc_auto.specs.Moves.{all_elsewhere}
use Rattle.plc_auto.proofs.Moving.{rows_moved}
use Rattle.plc_auto.proofs.hearing.move_rows.Goals as goal

pub returns : goal.returns
returns c = c.move_own.ensures ∙ ap (map (all_elsewhere c.args.e.now c.args.watchers.now)) c.move_named.ensures ∙ rows_moved c.args.e.now c.args.watchers.now c.args.rows.now
