use Rattle.std.proofs.Common.{ap, sym}
use Rattle.plc_answers.specs.Untyped.{fault_word}
use Rattle.plc_answers.proofs.untyped.fault_word.Goals as goal

pub returns-in-CompareNotSafe : goal.returns-in-CompareNotSafe
returns-in-CompareNotSafe c = ap fault_word (sym c.in-CompareNotSafe.is)
