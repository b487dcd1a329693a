-- One step of a reader, and steps after one another.
use Rattle.std.proofs.Common.{◌≡◌, ℕ, ◌+◌, ◌<◌, true, List, [], ◌∷◌, ◌++◌, length, drop, get_or, Ok, sym, subst}
use Rattle.std.proofs.Common.{append_assoc, append-nil, arith}
use Rattle.plc_lex.specs.declared.token.Token.{Token}
use Rattle.plc_lex.specs.declared.token.TokenKind.{TokenKind}
use Rattle.plc_lex.specs.declared.fault.LexFault.{LexFault}
use Rattle.plc_lex.specs.declared.fault.LexFault.TheVariants.{BadByte, LongName, BadNumber, Memory}
use Rattle.plc_lex.specs.declared.rest.Rest.{Rest}
use Rattle.plc_lex.specs.Characters.{is_space}
use Rattle.plc_lex.specs.Spelling.{token_at, is_comment, comment_length, next_line, Spells, at_end, after_space}
use Rattle.plc_lex.specs.Spelling.{after_comment, token}
use Rattle.plc_lex.specs.Stops.{Stops, here, past_space, past_comment, past_token}
use Rattle.plc_lex.specs.Refused.{StopsWith}
use Rattle.plc_lex.specs.Reading.{IsFaultAt, IsAtToken, Reads}

pub reads_space : (at line : ℕ) (bytes : List ℕ) (rest : Rest) → 0 < length bytes → is_space (get_or bytes 0 0) ≡ true → rest.bytes.now ≡ drop 1 bytes → rest.at ≡ at + 1 → rest.line ≡ next_line line (get_or bytes 0 0) → Reads at line bytes [] rest
reads_space at line [] rest some space bytes_is at_is line_is = absurd (omega arith)
reads_space at line (b ∷ bs) rest some space bytes_is at_is line_is = record {
  spells = λ ts s. after_space at line b bs ts space (rw (bytes_is, at_is, line_is) at s);
  stops = λ why place s. past_space at b place bs why space (rw (bytes_is, at_is) at s);
}

pub reads_comment : (at line : ℕ) (bytes : List ℕ) (rest : Rest) → is_comment bytes ≡ true → rest.bytes.now ≡ drop (comment_length bytes) bytes → rest.at ≡ at + comment_length bytes → rest.line ≡ line → Reads at line bytes [] rest
reads_comment at line bytes rest comment bytes_is at_is line_is = record {
  spells = λ ts s. after_comment at line bytes ts comment (rw (bytes_is, at_is, line_is) at s);
  stops = λ why place s. past_comment at place bytes why comment (rw (bytes_is, at_is) at s);
}

abbrev token_between : ℕ → ℕ → ℕ → TokenKind → Token
token_between start end line kind = record { kind = kind; span = record { start = start; end = end }; line = line }

pub reads_token : (at line n : ℕ) (bytes : List ℕ) (kind : TokenKind) (rest : Rest) → IsAtToken bytes → token_at bytes ≡ Ok (kind, n) → rest.bytes.now ≡ drop n bytes → rest.at ≡ at + n → rest.line ≡ line → Reads at line bytes (token_between at rest.at line kind ∷ []) rest
reads_token at line n bytes kind rest there e bytes_is at_is line_is = record {
  spells = λ ts s. subst (λ end. Spells at line bytes (token_between at end line kind ∷ ts)) (sym at_is) (token at line n bytes kind ts there.no_space there.no_comment e (rw (bytes_is, at_is, line_is) at s));
  stops = λ why place s. past_token at n place bytes kind why there.no_space there.no_comment e (rw (bytes_is, at_is) at s);
}

pub reads_on : {at line : ℕ} {bytes : List ℕ} {xs ys : List Token} {mid rest : Rest} → Reads at line bytes xs mid → Reads mid.at mid.line mid.bytes.now ys rest → Reads at line bytes (xs ++ ys) rest
reads_on {at = at} {line = line} {bytes = bytes} {xs = xs} {ys = ys} r s = record {
  spells = λ ts e. subst (Spells at line bytes) (sym (append_assoc xs ys ts)) (r.spells (ys ++ ts) (s.spells ts e));
  stops = λ why place e. r.stops why place (s.stops why place e);
}

pub reads_to_end : (at line : ℕ) (bytes : List ℕ) (ts : List Token) (rest : Rest) → Reads at line bytes ts rest → rest.bytes.now ≡ [] → Spells at line bytes ts
reads_to_end at line bytes ts rest r e = subst (Spells at line bytes) (append-nil ts) (r.spells [] (subst (λ bs. Spells rest.at rest.line bs []) (sym e) (at_end rest.at rest.line)))

pub stops_here : (at : ℕ) (bytes : List ℕ) (fault : LexFault) → 0 < length bytes → IsAtToken bytes → IsFaultAt at (token_at bytes) fault → StopsWith at bytes fault
stops_here at [] fault some there e = absurd (omega arith)
stops_here at (b ∷ bs) (BadByte place) some there e = subst (Stops at (b ∷ bs) _) (sym e.1) (here at b bs _ there.no_space there.no_comment e.0)
stops_here at (b ∷ bs) (LongName place) some there e = subst (Stops at (b ∷ bs) _) (sym e.1) (here at b bs _ there.no_space there.no_comment e.0)
stops_here at (b ∷ bs) (BadNumber place) some there e = subst (Stops at (b ∷ bs) _) (sym e.1) (here at b bs _ there.no_space there.no_comment e.0)
stops_here at (b ∷ bs) Memory some there e = tt

pub stops_later : (at line : ℕ) (bytes : List ℕ) (ts : List Token) (rest : Rest) (fault : LexFault) → Reads at line bytes ts rest → StopsWith rest.at rest.bytes.now fault → StopsWith at bytes fault
stops_later at line bytes ts rest (BadByte place) r e = r.stops _ place e
stops_later at line bytes ts rest (LongName place) r e = r.stops _ place e
stops_later at line bytes ts rest (BadNumber place) r e = r.stops _ place e
stops_later at line bytes ts rest Memory r e = tt
