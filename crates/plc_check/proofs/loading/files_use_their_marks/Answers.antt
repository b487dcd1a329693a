use Rattle.plc_check.proofs.Marked.{files_marked}
use Rattle.plc_check.proofs.loading.files_use_their_marks.Goals as goal

pub returns : goal.returns
returns c = files_marked
