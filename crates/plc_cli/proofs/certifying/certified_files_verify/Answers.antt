use Rattle.plc_cli.proofs.Accepted.{certified_verify}
use Rattle.plc_cli.proofs.certifying.certified_files_verify.Goals as goal

pub returns : goal.returns
returns c = certified_verify
