use Rattle.plc_check.proofs.Fitting.{all_files_fit}
use Rattle.plc_check.proofs.loading.files_fit.Goals as goal

pub returns : goal.returns
returns c = all_files_fit
