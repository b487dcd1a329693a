use Rattle.plc_check.proofs.Unique.{one_file}
use Rattle.plc_check.proofs.loading.files_are_unique.Goals as goal

pub returns : goal.returns
returns c = one_file
