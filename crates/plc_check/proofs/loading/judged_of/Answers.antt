use Rattle.plc_check.proofs.Limiting.{limited_of, lowering_refused}
use Rattle.plc_check.proofs.loading.judged_of.Goals as goal

pub returns-in-Ok : goal.returns-in-Ok
returns-in-Ok c = limited_of c.args.unit c.in-Ok.judged c.in-Ok.ensures.0 c.in-Ok.ensures.1 c.check_limits.result c.check_limits.ensures

pub returns-in-Err : goal.returns-in-Err
returns-in-Err c = lowering_refused c.args.unit c.in-Err.fault c.in-Err.ensures
