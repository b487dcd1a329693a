use Rattle.plc_explore.specs.Running.{IsRunOf}
use Rattle.plc_explore.proofs.account.account_from.Given as goal

abbrev pub invariant-loop-m : goal.invariant-loop-m
invariant-loop-m g l = IsRunOf l.program l.run.config
