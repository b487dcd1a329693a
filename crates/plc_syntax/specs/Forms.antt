-- What is read at the front of tokens: a tree, the place after it and the tokens from there on, or the place of the
-- first token that doesn't fit. Each form decides by its first token, and gives its names and numbers the places at
-- which they are read. A list is read for `plc_tree`, whose forms hold them: a number ends its recursion, and makes no
-- difference where it is above that of the tokens.
use Rattle.std.specs.Prelude.{ℕ, ◌+◌, zero, suc, Bool, true, false, cond, if◌then◌else◌, Option, Some, None, List, []}
use Rattle.std.specs.Prelude.{◌∷◌, Result, Ok, Err}
use denote.Enum.Bare.{sameb}
use Rattle.plc_lex.specs.contracts.token.Symbol as punctuation
use Rattle.plc_lex.specs.contracts.token.Keyword as keyword
use Rattle.plc_lex.specs.declared.token.TokenKind.{TokenKind}
use Rattle.plc_lex.specs.declared.token.TokenKind.TheVariants.{Word, Name, Number, Symbol}
use Rattle.plc_lex.specs.declared.token.Keyword.{Keyword}
use Rattle.plc_lex.specs.declared.token.Keyword.TheVariants.{Ptr, Data, Shared, Call, Use, Hazard, Epoch, Ghost, Skip}
use Rattle.plc_lex.specs.declared.token.Keyword.TheVariants.{Or, During, Active, Assume, New, Null, Cas, Depth, All}
use Rattle.plc_lex.specs.declared.token.Keyword.TheVariants.{Not, Retired, Me, None as NoneWord, Mark, Unmark, Marked}
use Rattle.plc_lex.specs.declared.token.Keyword.TheVariants.{Unmarked}
use Rattle.plc_lex.specs.declared.token.Symbol.{Symbol as Punctuation}
use Rattle.plc_lex.specs.declared.token.Symbol.TheVariants.{Assign, Refresh, Equal, Unequal, AtLeast, OpenParen}
use Rattle.plc_lex.specs.declared.token.Symbol.TheVariants.{CloseParen, Semicolon, Comma, Dot, Colon, Less}
use Rattle.plc_syntax.specs.Trees.{Text, Placed, FieldTree, PointerField, DataField, FunctionTree, Declares, WatchTree}
use Rattle.plc_syntax.specs.Trees.{UseHazard, UseEpoch, PlaceTree, PlaceOf, AtomTree, NullAtom, NumberAtom, NameAtom}
use Rattle.plc_syntax.specs.Trees.{ValueTree, NullValue, NewValue, NumberValue, MarkValue, UnmarkValue, PlaceValue}
use Rattle.plc_syntax.specs.Trees.{SetTree, SetName, SetField, RefreshName, RefreshField, GhostValueTree, NameGhost}
use Rattle.plc_syntax.specs.Trees.{MeGhost, NoneGhost, GhostSetTree, SetGhost, InitialTree, InitialSet, InitialGhost}
use Rattle.plc_syntax.specs.Trees.{Comparison, SameAs, OtherThan, LessThan, NotLessThan, TestTree, MarkedTest}
use Rattle.plc_syntax.specs.Trees.{UnmarkedTest, Compares, ConditionTree, TestCondition, RefreshCondition, CasCondition}
use Rattle.plc_syntax.specs.Trees.{PrimitiveTree, SetPrimitive, RefreshPrimitive, GhostPrimitive, ActivePrimitive}
use Rattle.plc_syntax.specs.Trees.{AssumePrimitive, SkipPrimitive, ArgumentTree, NoArgument, NullArgument, NameArgument}
use Rattle.plc_syntax.specs.Trees.{ActiveArgument, TermTree, PlaceTerm, NullTerm, NumberTerm, MeTerm, NoneTerm}
use Rattle.plc_syntax.specs.Trees.{FlagTree, RetiredFlag, MarkedFlag, LiteralTree, FlagLiteral, NotLiteral}
use Rattle.plc_syntax.specs.Trees.{EqualityLiteral, BoundTree, NoBound, AllOf}

-- what was read, the place after it and the tokens from there on, or the place of the fault
abbrev pub Read : Type 0 → Type 0
Read X = Result (X × ℕ × List TokenKind) ℕ

-- what reads a form, from a place and the tokens from there on
abbrev pub Reader : Type 0 → Type 0
Reader X = ℕ → List TokenKind → Read X

-- a place and the tokens from there on, or the place of the fault
abbrev pub Pass : Type 0
Pass = Result (ℕ × List TokenKind) ℕ

infixl 10 ◌>>=◌
-- what is read after what was read, if no fault came
abbrev pub ◌>>=◌ : {A B : Type 0} → Read A → (A → Reader B) → Read B
(Ok x) >>= next = next x.0 x.1 x.2
(Err at) >>= next = Err at

infixl 10 ◌>>◌
-- what is read after a token that was passed
abbrev pub ◌>>◌ : {B : Type 0} → Pass → Reader B → Read B
(Ok a) >> next = next a.0 a.1
(Err at) >> next = Err at

-- what is read after a first token at a place, none where the token doesn't begin it
abbrev pub Next : Type 0 → Type 0
Next X = ℕ → TokenKind → Option (Reader X)

-- what is read after the first token, and something else where it begins nothing
abbrev pub chosen : {X : Type 0} → Option (Reader X) → Read X → Reader X
chosen None other at ts = other
chosen (Some next) other at ts = next at ts

-- what the first token decides, and something else where there is none or it begins nothing
abbrev pub led : {X : Type 0} → Next X → Read X → Reader X
led next other at [] = other
led next other at (t ∷ ts) = chosen (next at t) other (at + 1) ts

-- the first token alone is read
abbrev pub alone : {X : Type 0} → X → Option (Reader X)
alone x = Some (λ at ts. Ok (x, at, ts))

-- what stands at a place
abbrev pub at_place : {X : Type 0} → ℕ → X → Placed X
at_place place x = record { at = place; value = x }

-- a form at its place
abbrev pub placed_of : {X : Type 0} → Reader X → Reader (Placed X)
placed_of form place ts = form place ts >>= λ x at ts. Ok (at_place place x, at, ts)

-- whether a first token is one of those that begin something
abbrev pub first_is : (TokenKind → Bool) → List TokenKind → Bool
first_is begins [] = false
first_is begins (t ∷ ts) = begins t

-- items while one begins; at most so many
unfoldable pub list_of : {X : Type 0} → (TokenKind → Bool) → (ℕ → Reader X) → ℕ → Reader (List X)
list_of begins item zero at ts = Err at
list_of begins item (suc n) at ts = cond (first_is begins ts)
    (item n at ts >>= λ x at ts. list_of begins item n at ts >>= λ xs at ts. Ok (x ∷ xs, at, ts)) (Ok ([], at, ts))

-- ---- single tokens

abbrev pub word_of : Keyword → ℕ → List TokenKind → Pass
word_of word at (Word found ∷ ts) = if sameb keyword.the_type found word then Ok (at + 1, ts) else Err at
word_of word at ts = Err at

abbrev pub symbol_of : Punctuation → ℕ → List TokenKind → Pass
symbol_of symbol at (Symbol found ∷ ts) = if sameb punctuation.the_type found symbol then Ok (at + 1, ts) else Err at
symbol_of symbol at ts = Err at

-- a form and the symbol that ends it
abbrev pub ended_by : {X : Type 0} → Punctuation → Reader X → Reader X
ended_by end form at ts = form at ts >>= λ x at ts. symbol_of end at ts >> λ at ts. Ok (x, at, ts)

abbrev pub word_if_next : Keyword → Next Bool
word_if_next word place (Word found) = if sameb keyword.the_type found word then alone true else None
word_if_next word place _ = None

-- whether the word stands there, which may be left out
abbrev pub word_if_of : Keyword → Reader Bool
word_if_of word at ts = led (word_if_next word) (Ok (false, at, ts)) at ts

abbrev pub name_next : Next (Placed Text)
name_next place (Name n) = alone (at_place place n)
name_next place _ = None

abbrev pub name_of : Reader (Placed Text)
name_of at ts = led name_next (Err at) at ts

-- a name and the symbol after it
abbrev pub name_and : Punctuation → Reader (Placed Text)
name_and symbol at ts = ended_by symbol name_of at ts

abbrev pub number_next : Next (Placed ℕ)
number_next place (Number n) = alone (at_place place n)
number_next place _ = None

abbrev pub number_of : Reader (Placed ℕ)
number_of at ts = led number_next (Err at) at ts

-- ---- names after a comma

abbrev pub comma_name_next : Next (Placed Text)
comma_name_next place (Symbol Comma) = Some (λ at ts. name_of at ts)
comma_name_next place _ = None

abbrev pub comma_name_of : Reader (Placed Text)
comma_name_of at ts = led comma_name_next (Err at) at ts

-- ---- places and values

abbrev pub dot_next : Placed Text → Next PlaceTree
dot_next n place (Symbol Dot) = Some (λ at ts. name_of at ts >>= λ f at ts. Ok (PlaceOf n (Some f), at, ts))
dot_next n place _ = None

-- a place, from after its name
abbrev pub place_of_name : Placed Text → Reader PlaceTree
place_of_name n at ts = led (dot_next n) (Ok (PlaceOf n None, at, ts)) at ts

abbrev pub place_of : Reader PlaceTree
place_of at ts = name_of at ts >>= λ n at ts. place_of_name n at ts

abbrev pub value_next : Next ValueTree
value_next place (Word Null) = alone (NullValue place)
value_next place (Word New) = alone (NewValue place)
value_next place (Number k) = alone (NumberValue (at_place place k))
value_next place (Word Mark) = Some (λ at ts. name_of at ts >>= λ n at ts. Ok (MarkValue place n, at, ts))
value_next place (Word Unmark) = Some (λ at ts. name_of at ts >>= λ n at ts. Ok (UnmarkValue place n, at, ts))
value_next place (Name n) =
    Some (λ at ts. place_of_name (at_place place n) at ts >>= λ p at ts. Ok (PlaceValue p, at, ts))
value_next place _ = None

abbrev pub value_of : Reader ValueTree
value_of at ts = led value_next (Err at) at ts

abbrev pub atom_next : Next AtomTree
atom_next place (Word Null) = alone (NullAtom place)
atom_next place (Number k) = alone (NumberAtom (at_place place k))
atom_next place (Name n) = alone (NameAtom (at_place place n))
atom_next place _ = None

abbrev pub atom_of : Reader AtomTree
atom_of at ts = led atom_next (Err at) at ts

abbrev pub ghost_value_next : Next GhostValueTree
ghost_value_next place (Name n) = alone (NameGhost (at_place place n))
ghost_value_next place (Word Me) = alone (MeGhost place)
ghost_value_next place (Word NoneWord) = alone (NoneGhost place)
ghost_value_next place _ = None

abbrev pub ghost_value_of : Reader GhostValueTree
ghost_value_of at ts = led ghost_value_next (Err at) at ts

-- ---- tests and conditions

abbrev pub comparison_next : Next Comparison
comparison_next place (Symbol Equal) = alone SameAs
comparison_next place (Symbol Unequal) = alone OtherThan
comparison_next place (Symbol Less) = alone LessThan
comparison_next place (Symbol AtLeast) = alone NotLessThan
comparison_next place _ = None

abbrev pub comparison_of : Reader Comparison
comparison_of at ts = led comparison_next (Err at) at ts

-- a comparison, from after its name
abbrev pub compared_of : Placed Text → Reader TestTree
compared_of n at ts =
    placed_of comparison_of at ts >>= λ c at ts. atom_of at ts >>= λ a at ts. Ok (Compares n c a, at, ts)

abbrev pub test_next : Next TestTree
test_next place (Word Marked) = Some (λ at ts. name_of at ts >>= λ n at ts. Ok (MarkedTest n, at, ts))
test_next place (Word Unmarked) = Some (λ at ts. name_of at ts >>= λ n at ts. Ok (UnmarkedTest n, at, ts))
test_next place (Name n) = Some (λ at ts. compared_of (at_place place n) at ts)
test_next place _ = None

abbrev pub test_of : Reader TestTree
test_of at ts = led test_next (Err at) at ts

abbrev pub name_or_null_next : Next (Option (Placed Text))
name_or_null_next place (Name n) = alone (Some (at_place place n))
name_or_null_next place (Word Null) = alone None
name_or_null_next place _ = None

abbrev pub name_or_null_of : Reader (Option (Placed Text))
name_or_null_of at ts = led name_or_null_next (Err at) at ts

-- the three pointers of a cas and the parenthesis after them
abbrev pub cas_of : Bool → Reader ConditionTree
cas_of is_active at ts = name_and Comma at ts >>= λ n at ts. name_or_null_of at ts >>= λ old at ts.
    symbol_of Comma at ts >> λ at ts. name_or_null_of at ts >>= λ new at ts.
    symbol_of CloseParen at ts >> λ at ts. Ok (CasCondition is_active n old new, at, ts)

-- a cas, from after its word
abbrev pub cas_condition_of : Reader ConditionTree
cas_condition_of at ts =
    symbol_of OpenParen at ts >> λ at ts. word_if_of Active at ts >>= λ w at ts. cas_of w at ts

abbrev pub named_condition_next : Placed Text → Next ConditionTree
named_condition_next n place (Symbol Refresh) =
    Some (λ at ts. place_of at ts >>= λ p at ts. Ok (RefreshCondition n p, at, ts))
named_condition_next n place _ = None

-- a condition, from after its name
abbrev pub named_condition_of : Placed Text → Reader ConditionTree
named_condition_of n at ts = led (named_condition_next n)
    (compared_of n at ts >>= λ t at ts. Ok (TestCondition t, at, ts)) at ts

abbrev pub condition_next : Next ConditionTree
condition_next place (Word Cas) = Some (λ at ts. cas_condition_of at ts)
condition_next place (Name n) = Some (λ at ts. named_condition_of (at_place place n) at ts)
condition_next place _ = None

abbrev pub condition_of : Reader ConditionTree
condition_of at ts = led condition_next (test_of at ts >>= λ t at ts. Ok (TestCondition t, at, ts)) at ts

-- ---- primitives

abbrev pub field_tail_next : Placed Text → Placed Text → Next PrimitiveTree
field_tail_next n f place (Symbol Assign) =
    Some (λ at ts. atom_of at ts >>= λ a at ts. Ok (SetPrimitive (SetField n f a), at, ts))
field_tail_next n f place (Symbol Refresh) =
    Some (λ at ts. name_of at ts >>= λ q at ts. Ok (RefreshPrimitive (RefreshField n f q), at, ts))
field_tail_next n f place _ = None

-- what follows a name and a dot on the left
abbrev pub field_tail_of : Placed Text → Reader PrimitiveTree
field_tail_of n at ts = name_of at ts >>= λ f at ts. led (field_tail_next n f) (Err at) at ts

abbrev pub named_tail_next : Placed Text → Next PrimitiveTree
named_tail_next n place (Symbol Assign) =
    Some (λ at ts. value_of at ts >>= λ v at ts. Ok (SetPrimitive (SetName n v), at, ts))
named_tail_next n place (Symbol Refresh) =
    Some (λ at ts. place_of at ts >>= λ p at ts. Ok (RefreshPrimitive (RefreshName n p), at, ts))
named_tail_next n place (Symbol Dot) = Some (λ at ts. field_tail_of n at ts)
named_tail_next n place _ = None

-- what follows a name on the left
abbrev pub named_tail_of : Placed Text → Reader PrimitiveTree
named_tail_of n at ts = led (named_tail_next n) (Err at) at ts

-- an assignment to an auxiliary field, from after its word
abbrev pub ghost_set_of : Reader GhostSetTree
ghost_set_of at ts = name_and Dot at ts >>= λ n at ts. name_and Assign at ts >>= λ g at ts.
    ghost_value_of at ts >>= λ v at ts. Ok (SetGhost n g v, at, ts)

abbrev pub primitive_next : Next PrimitiveTree
primitive_next place (Name n) = Some (λ at ts. named_tail_of (at_place place n) at ts)
primitive_next place (Word Ghost) = Some (λ at ts. ghost_set_of at ts >>= λ g at ts. Ok (GhostPrimitive g, at, ts))
primitive_next place (Word Active) = Some (λ at ts. name_of at ts >>= λ n at ts. Ok (ActivePrimitive n, at, ts))
primitive_next place (Word Assume) = Some (λ at ts. test_of at ts >>= λ t at ts. Ok (AssumePrimitive t, at, ts))
primitive_next place (Word Skip) = alone SkipPrimitive
primitive_next place _ = None

abbrev pub primitive_of : Reader PrimitiveTree
primitive_of at ts = led primitive_next (Err at) at ts

abbrev pub primitive_line_of : Reader PrimitiveTree
primitive_line_of at ts = ended_by Semicolon primitive_of at ts

-- ---- the assignments of `init`

-- an assignment to a field, from after the dot
abbrev pub set_field_of : Placed Text → Reader SetTree
set_field_of n at ts = name_and Assign at ts >>= λ f at ts. atom_of at ts >>= λ a at ts. Ok (SetField n f a, at, ts)

abbrev pub set_next : Placed Text → Next SetTree
set_next n place (Symbol Assign) = Some (λ at ts. value_of at ts >>= λ v at ts. Ok (SetName n v, at, ts))
set_next n place (Symbol Dot) = Some (λ at ts. set_field_of n at ts)
set_next n place _ = None

-- an assignment, from after its first name
abbrev pub set_of_name : Placed Text → Reader SetTree
set_of_name n at ts = led (set_next n) (Err at) at ts

abbrev pub initial_next : Next InitialTree
initial_next place (Name n) = Some (λ at ts. set_of_name (at_place place n) at ts >>= λ s at ts.
    symbol_of Semicolon at ts >> λ at ts. Ok (InitialSet s, at, ts))
initial_next place (Word Ghost) = Some (λ at ts. ghost_set_of at ts >>= λ g at ts.
    symbol_of Semicolon at ts >> λ at ts. Ok (InitialGhost g, at, ts))
initial_next place _ = None

abbrev pub initial_of : Reader InitialTree
initial_of at ts = led initial_next (Err at) at ts

-- ---- calls

abbrev pub argument_next : Next ArgumentTree
argument_next place (Word Null) = alone NullArgument
argument_next place (Name n) = alone (NameArgument (at_place place n))
argument_next place (Word Active) = Some (λ at ts. name_of at ts >>= λ n at ts. Ok (ActiveArgument n, at, ts))
argument_next place _ = None

abbrev pub argument_of : Reader ArgumentTree
argument_of at ts = led argument_next (Ok (NoArgument, at, ts)) at ts

abbrev pub during_next : Next (Option (Placed Text))
during_next place (Word During) = Some (λ at ts. name_of at ts >>= λ n at ts. Ok (Some n, at, ts))
during_next place _ = None

-- "during" and a label, which may be left out
abbrev pub during_of : Reader (Option (Placed Text))
during_of at ts = led during_next (Ok (None, at, ts)) at ts

-- ---- declarations

abbrev pub field_next : Next FieldTree
field_next place (Word Ptr) = Some (λ at ts. name_and Semicolon at ts >>= λ n at ts. Ok (PointerField n, at, ts))
field_next place (Word Data) = Some (λ at ts. name_and Semicolon at ts >>= λ n at ts. Ok (DataField n, at, ts))
field_next place _ = None

abbrev pub field_of : Reader FieldTree
field_of at ts = led field_next (Err at) at ts

abbrev pub shared_of : Reader (Placed Text)
shared_of at ts = word_of Shared at ts >> λ at ts. name_and Semicolon at ts

abbrev pub function_of : Reader FunctionTree
function_of at ts = word_of Call at ts >> λ at ts. name_and OpenParen at ts >>= λ n at ts.
    word_if_of Ptr at ts >>= λ w at ts.
    symbol_of CloseParen at ts >> λ at ts. symbol_of Semicolon at ts >> λ at ts. Ok (Declares n w, at, ts)

-- a function of hazard pointers, from after its word
abbrev pub hazard_of : Reader WatchTree
hazard_of at ts = symbol_of OpenParen at ts >> λ at ts. name_and CloseParen at ts >>= λ f at ts.
    symbol_of Semicolon at ts >> λ at ts. Ok (UseHazard f, at, ts)

-- two functions of epochs, from after the word
abbrev pub epoch_of : Reader WatchTree
epoch_of at ts = symbol_of OpenParen at ts >> λ at ts. name_and Comma at ts >>= λ e at ts.
    name_and CloseParen at ts >>= λ l at ts. symbol_of Semicolon at ts >> λ at ts. Ok (UseEpoch e l, at, ts)

abbrev pub scheme_next : Next WatchTree
scheme_next place (Word Hazard) = Some (λ at ts. hazard_of at ts)
scheme_next place (Word Epoch) = Some (λ at ts. epoch_of at ts)
scheme_next place _ = None

abbrev pub scheme_of : Reader WatchTree
scheme_of at ts = led scheme_next (Err at) at ts

abbrev pub watch_next : Next (Option WatchTree)
watch_next place (Word Use) = Some (λ at ts. scheme_of at ts >>= λ w at ts. Ok (Some w, at, ts))
watch_next place _ = None

-- what the reclaimer watches, which may be left out
abbrev pub watch_of : Reader (Option WatchTree)
watch_of at ts = led watch_next (Ok (None, at, ts)) at ts

-- ---- clauses of an outline

abbrev pub term_next : Next TermTree
term_next place (Word Null) = alone (NullTerm place)
term_next place (Number k) = alone (NumberTerm (at_place place k))
term_next place (Word Me) = alone (MeTerm place)
term_next place (Word NoneWord) = alone (NoneTerm place)
term_next place (Name n) =
    Some (λ at ts. place_of_name (at_place place n) at ts >>= λ p at ts. Ok (PlaceTerm p, at, ts))
term_next place _ = None

abbrev pub term_of : Reader TermTree
term_of at ts = led term_next (Err at) at ts

abbrev pub equality_next : Next Bool
equality_next place (Symbol Equal) = alone true
equality_next place (Symbol Unequal) = alone false
equality_next place _ = None

abbrev pub equality_of : Reader Bool
equality_of at ts = led equality_next (Err at) at ts

-- "retired" of a name, from after its word
abbrev pub retired_of : Reader FlagTree
retired_of at ts = symbol_of OpenParen at ts >> λ at ts.
    name_and CloseParen at ts >>= λ n at ts. Ok (RetiredFlag n, at, ts)

-- "marked" of a place, from after its word
abbrev pub marked_of : Reader FlagTree
marked_of at ts = symbol_of OpenParen at ts >> λ at ts. place_of at ts >>= λ p at ts.
    symbol_of CloseParen at ts >> λ at ts. Ok (MarkedFlag p, at, ts)

abbrev pub flag_next : Next FlagTree
flag_next place (Word Retired) = Some (λ at ts. retired_of at ts)
flag_next place (Word Marked) = Some (λ at ts. marked_of at ts)
flag_next place _ = None

abbrev pub flag_of : Reader FlagTree
flag_of at ts = led flag_next (Err at) at ts

abbrev pub equation_of : Reader LiteralTree
equation_of at ts = term_of at ts >>= λ a at ts. equality_of at ts >>= λ e at ts.
    term_of at ts >>= λ b at ts. Ok (EqualityLiteral a e b, at, ts)

abbrev pub literal_next : Next LiteralTree
literal_next place (Word Not) = Some (λ at ts. flag_of at ts >>= λ f at ts. Ok (NotLiteral f, at, ts))
literal_next place (Word Retired) = Some (λ at ts. retired_of at ts >>= λ f at ts. Ok (FlagLiteral f, at, ts))
literal_next place (Word Marked) = Some (λ at ts. marked_of at ts >>= λ f at ts. Ok (FlagLiteral f, at, ts))
literal_next place _ = None

abbrev pub literal_of : Reader LiteralTree
literal_of at ts = led literal_next (equation_of at ts) at ts

abbrev pub or_literal_of : Reader (Placed LiteralTree)
or_literal_of at ts = word_of Or at ts >> λ at ts. placed_of literal_of at ts

abbrev pub second_next : Next (Option (Placed Text))
second_next place (Symbol Comma) = Some (λ at ts. name_of at ts >>= λ n at ts. Ok (Some n, at, ts))
second_next place _ = None

-- a second quantified name, which may be left out
abbrev pub second_of : Reader (Option (Placed Text))
second_of at ts = led second_next (Ok (None, at, ts)) at ts

-- one or two quantified names, from after "all"
abbrev pub all_of : Reader BoundTree
all_of at ts = name_of at ts >>= λ n at ts. second_of at ts >>= λ k at ts.
    symbol_of Colon at ts >> λ at ts. Ok (AllOf n k, at, ts)

abbrev pub bound_next : Next BoundTree
bound_next place (Word All) = Some (λ at ts. all_of at ts)
bound_next place _ = None

abbrev pub bound_of : Reader BoundTree
bound_of at ts = led bound_next (Ok (NoBound, at, ts)) at ts

-- ---- the depth of an outline

abbrev pub depth_next : Next (Option (Placed ℕ))
depth_next place (Word Depth) = Some (λ at ts. number_of at ts >>= λ d at ts.
    symbol_of Semicolon at ts >> λ at ts. Ok (Some d, at, ts))
depth_next place _ = None

-- the depth, which may be left out
abbrev pub depth_of : Reader (Option (Placed ℕ))
depth_of at ts = led depth_next (Ok (None, at, ts)) at ts
