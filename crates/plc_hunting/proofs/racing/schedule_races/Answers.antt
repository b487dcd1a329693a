use Rattle.std.proofs.Common.{◌∙◌}
use Rattle.plc_hunting.proofs.Exact.{shown}
use Rattle.plc_hunting.proofs.racing.schedule_races.Goals as goal

pub returns-clause-exactly : goal.returns-clause-exactly
returns-clause-exactly g c = λ r. c.is_race.ensures ∙ shown c.schedules_come_to_one_end.ensures c.args.judged.now _ c.args.bytes.now _ _ c.in-Ok.ensures.ok c.in_ok-end.ensures r
