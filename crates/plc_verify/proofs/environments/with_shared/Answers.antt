use Rattle.std.proofs.Common.{rules}
use Rattle.plc_verify.proofs.environments.with_shared.Goals as goal

pub returns : goal.returns
returns c = search rules
