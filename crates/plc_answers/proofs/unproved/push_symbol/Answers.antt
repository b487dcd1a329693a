use Rattle.std.proofs.Common.{append_assoc}
use Rattle.plc_answers.proofs.unproved.push_symbol.Goals as goal

pub returns-in-Theirs : goal.returns-in-Theirs
returns-in-Theirs c = rw (c.in-Theirs.is, ← c.local_name-in-Theirs.ensures) (rw append_assoc at c.push_named-in-Theirs.ensures)
