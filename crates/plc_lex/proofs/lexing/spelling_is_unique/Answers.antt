use Rattle.plc_lex.proofs.Unique.{same_tokens, same_place, not_both}
use Rattle.plc_lex.proofs.lexing.spelling_is_unique.Goals as goal

pub returns : goal.returns
returns c = record {
  tokens = same_tokens 0 1;
  places = λ bytes why other p q s t. same_place 0 bytes why other p q s t;
  apart = λ bytes ts why p s t. not_both 0 1 bytes ts why p s t;
}
