-- What a reader sees at the front of tokens.
use Rattle.std.specs.Prelude.{ℕ, ◌+◌, List, [], ◌∷◌}
use Rattle.plc_lex.specs.declared.token.TokenKind.{TokenKind}
use Rattle.plc_lex.specs.declared.token.TokenKind.TheVariants.{Word, Name, Number, Symbol}
use Rattle.plc_syntax.specs.declared.front.Front.{Front}
use Rattle.plc_syntax.specs.declared.front.Front.TheVariants as fronts

-- the tokens, of those after the first
abbrev pub front_then : Front → List TokenKind → List TokenKind
front_then (fronts.Word w) ts = Word w ∷ ts
front_then (fronts.Name n) ts = Name n.now ∷ ts
front_then (fronts.Number n) ts = Number n ∷ ts
front_then (fronts.Symbol s) ts = Symbol s ∷ ts
front_then fronts.End ts = []

-- how many tokens stand before what is after the first
abbrev pub front_end : Front → ℕ → ℕ
front_end (fronts.Word w) at = at + 1
front_end (fronts.Name n) at = at + 1
front_end (fronts.Number n) at = at + 1
front_end (fronts.Symbol s) at = at + 1
front_end fronts.End at = at
