-- The text of each word and symbol.
use Rattle.std.specs.Prelude.{if◌then◌else◌, Bool, ℕ, List, [], ◌∷◌}
use denote.Enum.Bare.{sameb}
use Rattle.plc_lex.specs.contracts.token.Keyword as keyword
use Rattle.plc_lex.specs.contracts.token.Symbol as symbol
use Rattle.plc_lex.specs.declared.token.Keyword.{Keyword}
use Rattle.plc_lex.specs.declared.token.Symbol.{Symbol}
use Rattle.plc_lex.specs.Characters.{keywords, symbols_longest_first}

-- whether two keywords are one
abbrev pub same_word : Keyword → Keyword → Bool
same_word a b = sameb keyword.the_type a b

-- whether two symbols are one
abbrev pub same_symbol : Symbol → Symbol → Bool
same_symbol a b = sameb symbol.the_type a b

-- the text with which an entry stands in a table, or nothing where it isn't there
abbrev pub text_in : {A : Type 0} → (A → A → Bool) → List (List ℕ × A) → A → List ℕ
text_in same [] x = []
text_in same (entry ∷ more) x = if same entry.1 x then entry.0 else text_in same more x

-- the letters of a keyword
abbrev pub word_text : Keyword → List ℕ
word_text word = text_in same_word keywords word

-- the characters of a symbol
abbrev pub symbol_text : Symbol → List ℕ
symbol_text symbol = text_in same_symbol symbols_longest_first symbol
