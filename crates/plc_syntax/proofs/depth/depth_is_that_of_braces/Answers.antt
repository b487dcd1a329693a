use Rattle.plc_syntax.proofs.Depths.{depth_is_that_of_braces}
use Rattle.plc_syntax.proofs.depth.depth_is_that_of_braces.Goals as goal

pub returns : goal.returns
returns c = depth_is_that_of_braces
