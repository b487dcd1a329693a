use Rattle.std.proofs.Common.{refl}
use Rattle.plc_lex.proofs.Lines.{lines_counted}
use Rattle.plc_lex.proofs.lexing.lines_are_counted.Goals as goal

pub returns : goal.returns
returns c = record { lines = λ bytes ts s. lines_counted bytes 0 1 bytes ts s refl refl }
