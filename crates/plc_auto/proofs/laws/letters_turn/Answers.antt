-- By the tables, edge by edge.
use Rattle.plc_auto.proofs.Letters.{letters}
use Rattle.plc_auto.proofs.laws.letters_turn.Goals as goal

pub returns : goal.returns
returns c = letters
