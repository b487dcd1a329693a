use Rattle.plc_hunting.proofs.Safe.{safe_files}
use Rattle.plc_hunting.proofs.laws.safe_files_have_no_hunted_race.Goals as goal

pub returns : goal.returns
returns c = safe_files
