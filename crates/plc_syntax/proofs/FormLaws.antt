-- The law of each form that holds no list, by its reader's shape: what is read of it are the tokens of its tree, or the
-- beginning of one.
use Rattle.std.proofs.Common.{◌≡◌, ℕ, Bool, true, false, cond, Option, None, [], ◌∷◌, refl, sym, ap, rules}
use denote.Enum.Bare.{sameb, same_true}
use Rattle.plc_lex.specs.contracts.token.Keyword as keyword
use Rattle.plc_lex.specs.declared.token.TokenKind.{TokenKind}
use Rattle.plc_lex.specs.declared.token.TokenKind.TheVariants.{Word, Name, Number, Symbol}
use Rattle.plc_lex.specs.declared.token.Keyword.{Keyword}
use Rattle.plc_lex.specs.declared.token.Keyword.TheVariants.{Ptr, Data, Shared, Call, Use, Hazard, Epoch, Ghost, Skip}
use Rattle.plc_lex.specs.declared.token.Keyword.TheVariants.{Or, During, Active, Assume, New, Null, Cas, Depth, All}
use Rattle.plc_lex.specs.declared.token.Keyword.TheVariants.{Not, Retired, Me, None as NoneWord, Mark, Unmark, Marked}
use Rattle.plc_lex.specs.declared.token.Keyword.TheVariants.{Unmarked}
use Rattle.plc_lex.specs.declared.token.Symbol.TheVariants.{Assign, Refresh, Equal, Unequal, AtLeast, OpenParen}
use Rattle.plc_lex.specs.declared.token.Symbol.TheVariants.{CloseParen, Semicolon, Comma, Dot, Colon, Less}
use Rattle.plc_syntax.specs.Trees as trees
use Rattle.plc_syntax.specs.Trees.{Text, Placed, Pieces, word, word_at, symbol, name, maybe_then, word_if_then}
use Rattle.plc_syntax.specs.Syntax.{Spelling}
use Rattle.plc_syntax.specs.Forms as forms
use Rattle.plc_syntax.specs.Forms.{at_place}
use Rattle.plc_syntax.proofs.Combinators.{same, Law, Choice, takes, takes_at, leaves, last, fault, led_law, then_form}
use Rattle.plc_syntax.proofs.Combinators.{then_whole, within, then_symbol, then_word, a_name, a_name_fits, name_law}
use Rattle.plc_syntax.proofs.Combinators.{ended_by_law, name_and_law, number_law, placed_law}

-- ---- places and values

dot_choice : {n : ℕ} (k : Placed Text) (at : ℕ) (t : TokenKind)
    → Choice n trees.place_then (λ q. name k ∷ q) (λ m. forms.dot_next k) at t
dot_choice k at (Symbol Dot) = takes _ (λ m. refl) (then_form name_law (λ f. last (λ q. refl)))
dot_choice k at _ = leaves (λ m. refl)

place_of_name_law : {n : ℕ} (k : Placed Text)
    → Law n trees.place_then (λ q. name k ∷ q) (λ m at ts. forms.place_of_name k at ts)
place_of_name_law k = led_law (dot_choice k) (last (λ q. refl))

place_law : {n : ℕ} → Law n trees.place_then same (λ m at ts. forms.place_of at ts)
place_law = then_form name_law (λ k. place_of_name_law k)

value_choice : {n : ℕ} (at : ℕ) (t : TokenKind) → Choice n trees.value_then same (λ m. forms.value_next) at t
value_choice at (Word Null) = takes_at _ (λ m. refl) (last (λ q. refl))
value_choice at (Word New) = takes_at _ (λ m. refl) (last (λ q. refl))
value_choice at (Number k) = takes_at _ (λ m. refl) (last (λ q. refl))
value_choice at (Word Mark) = takes_at _ (λ m. refl) (then_form name_law (λ k. last (λ q. refl)))
value_choice at (Word Unmark) = takes_at _ (λ m. refl) (then_form name_law (λ k. last (λ q. refl)))
value_choice at (Name k) = takes_at _ (λ m. refl)
    (then_whole (place_of_name_law (at_place at k)) (λ p. last (λ q. refl)))
value_choice at _ = leaves (λ m. refl)

value_law : {n : ℕ} → Law n trees.value_then same (λ m at ts. forms.value_of at ts)
value_law = led_law value_choice (fault (trees.NullValue 0) (word_at 0 Null ∷ []) (tt, tt) (λ q. refl))

atom_choice : {n : ℕ} (at : ℕ) (t : TokenKind) → Choice n trees.atom_then same (λ m. forms.atom_next) at t
atom_choice at (Word Null) = takes_at _ (λ m. refl) (last (λ q. refl))
atom_choice at (Number k) = takes_at _ (λ m. refl) (last (λ q. refl))
atom_choice at (Name k) = takes_at _ (λ m. refl) (last (λ q. refl))
atom_choice at _ = leaves (λ m. refl)

atom_law : {n : ℕ} → Law n trees.atom_then same (λ m at ts. forms.atom_of at ts)
atom_law = led_law atom_choice (fault (trees.NullAtom 0) (word_at 0 Null ∷ []) (tt, tt) (λ q. refl))

ghost_value_choice : {n : ℕ} (at : ℕ) (t : TokenKind) → Choice n trees.ghost_value_then same
    (λ m. forms.ghost_value_next) at t
ghost_value_choice at (Name k) = takes_at _ (λ m. refl) (last (λ q. refl))
ghost_value_choice at (Word Me) = takes_at _ (λ m. refl) (last (λ q. refl))
ghost_value_choice at (Word NoneWord) = takes_at _ (λ m. refl) (last (λ q. refl))
ghost_value_choice at _ = leaves (λ m. refl)

ghost_value_law : {n : ℕ} → Law n trees.ghost_value_then same (λ m at ts. forms.ghost_value_of at ts)
ghost_value_law = led_law ghost_value_choice (fault (trees.MeGhost 0) (word_at 0 Me ∷ []) (tt, tt) (λ q. refl))

-- ---- a word that may be left out

word_if_by : {n : ℕ} (k j : Keyword) (at : ℕ) (b : Bool) → sameb keyword.the_type j k ≡ b
    → Choice n (word_if_then k) same (λ m. forms.word_if_next k) at (Word j)
word_if_by k j at true e = takes _ (λ m. ap (λ b. cond b (forms.alone true) None) e)
    (last (λ q. ap (λ w. word w ∷ q) (sym (same_true keyword.the_type (search rules) j k e))))
word_if_by k j at false e = leaves (λ m. ap (λ b. cond b (forms.alone true) None) e)

word_if_choice : {n : ℕ} (k : Keyword) (at : ℕ) (t : TokenKind)
    → Choice n (word_if_then k) same (λ m. forms.word_if_next k) at t
word_if_choice k at (Word j) = word_if_by k j at (sameb keyword.the_type j k) refl
word_if_choice k at _ = leaves (λ m. refl)

word_if_law : {n : ℕ} (k : Keyword) → Law n (word_if_then k) same (λ m at ts. forms.word_if_of k at ts)
word_if_law k = led_law (word_if_choice k) (last (λ q. refl))

-- ---- tests and conditions

abbrev comparison_then : Spelling trees.Comparison
comparison_then c q = symbol (trees.comparison_symbol c) ∷ q

comparison_choice : {n : ℕ} (at : ℕ) (t : TokenKind) → Choice n comparison_then same (λ m. forms.comparison_next) at t
comparison_choice at (Symbol Equal) = takes _ (λ m. refl) (last {x = trees.SameAs} (λ q. refl))
comparison_choice at (Symbol Unequal) = takes _ (λ m. refl) (last {x = trees.OtherThan} (λ q. refl))
comparison_choice at (Symbol Less) = takes _ (λ m. refl) (last {x = trees.LessThan} (λ q. refl))
comparison_choice at (Symbol AtLeast) = takes _ (λ m. refl) (last {x = trees.NotLessThan} (λ q. refl))
comparison_choice at _ = leaves (λ m. refl)

comparison_law : {n : ℕ} → Law n comparison_then same (λ m at ts. forms.comparison_of at ts)
comparison_law = led_law comparison_choice (fault trees.SameAs (symbol Equal ∷ []) (tt, tt) (λ q. refl))

compared_law : {n : ℕ} (k : Placed Text) → Law n trees.test_then (λ q. name k ∷ q)
    (λ m at ts. forms.compared_of k at ts)
compared_law k = then_form (placed_law (λ c q e. cc) comparison_law) (λ c. then_form atom_law (λ a. last (λ q. refl)))

test_choice : {n : ℕ} (at : ℕ) (t : TokenKind) → Choice n trees.test_then same (λ m. forms.test_next) at t
test_choice at (Word Marked) = takes _ (λ m. refl) (then_form name_law (λ k. last (λ q. refl)))
test_choice at (Word Unmarked) = takes _ (λ m. refl) (then_form name_law (λ k. last (λ q. refl)))
test_choice at (Name k) = takes_at _ (λ m. refl) (compared_law (at_place at k))
test_choice at _ = leaves (λ m. refl)

test_law : {n : ℕ} → Law n trees.test_then same (λ m at ts. forms.test_of at ts)
test_law = led_law test_choice
    (fault (trees.MarkedTest a_name) (word Marked ∷ name a_name ∷ []) (tt, (a_name_fits, tt)) (λ q. refl))

name_or_null_choice : {n : ℕ} (at : ℕ) (t : TokenKind)
    → Choice n trees.name_or_null_then same (λ m. forms.name_or_null_next) at t
name_or_null_choice at (Name k) = takes_at _ (λ m. refl) (last (λ q. refl))
name_or_null_choice at (Word Null) = takes _ (λ m. refl) (last (λ q. refl))
name_or_null_choice at _ = leaves (λ m. refl)

name_or_null_law : {n : ℕ} → Law n trees.name_or_null_then same (λ m at ts. forms.name_or_null_of at ts)
name_or_null_law = led_law name_or_null_choice (fault None (word Null ∷ []) (tt, tt) (λ q. refl))

cas_law : {n : ℕ} (w : Bool)
    → Law n trees.condition_then (λ q. word Cas ∷ symbol OpenParen ∷ word_if_then Active w q)
    (λ m at ts. forms.cas_of w at ts)
cas_law w = then_form (name_and_law Comma) (λ k. then_form name_or_null_law (λ old.
    then_symbol Comma (then_form name_or_null_law (λ new. then_symbol CloseParen (last (λ q. refl))))))

cas_condition_law : {n : ℕ}
    → Law n trees.condition_then (λ q. word Cas ∷ q) (λ m at ts. forms.cas_condition_of at ts)
cas_condition_law = then_symbol OpenParen (then_form (word_if_law Active) (λ w. cas_law w))

named_condition_choice : {n : ℕ} (k : Placed Text) (at : ℕ) (t : TokenKind)
    → Choice n trees.condition_then (λ q. name k ∷ q) (λ m. forms.named_condition_next k) at t
named_condition_choice k at (Symbol Refresh) = takes _ (λ m. refl) (then_form place_law (λ p. last (λ q. refl)))
named_condition_choice k at _ = leaves (λ m. refl)

named_condition_law : {n : ℕ} (k : Placed Text)
    → Law n trees.condition_then (λ q. name k ∷ q) (λ m at ts. forms.named_condition_of k at ts)
named_condition_law k = led_law (named_condition_choice k) (then_whole (compared_law k) (λ t. last (λ q. refl)))

condition_choice : {n : ℕ} (at : ℕ) (t : TokenKind) → Choice n trees.condition_then same
    (λ m. forms.condition_next) at t
condition_choice at (Word Cas) = takes _ (λ m. refl) cas_condition_law
condition_choice at (Name k) = takes_at _ (λ m. refl) (named_condition_law (at_place at k))
condition_choice at _ = leaves (λ m. refl)

pub condition_law : {n : ℕ} → Law n trees.condition_then same (λ m at ts. forms.condition_of at ts)
condition_law = led_law condition_choice (then_form test_law (λ t. last (λ q. refl)))

-- ---- primitives

field_tail_choice : {n : ℕ} (k f : Placed Text) (at : ℕ) (t : TokenKind)
    → Choice n trees.primitive_then (λ q. name k ∷ symbol Dot ∷ name f ∷ q) (λ m. forms.field_tail_next k f) at t
field_tail_choice k f at (Symbol Assign) = takes _ (λ m. refl) (then_form atom_law (λ a. last (λ q. refl)))
field_tail_choice k f at (Symbol Refresh) = takes _ (λ m. refl) (then_form name_law (λ a. last (λ q. refl)))
field_tail_choice k f at _ = leaves (λ m. refl)

field_tail_law : {n : ℕ} (k : Placed Text)
    → Law n trees.primitive_then (λ q. name k ∷ symbol Dot ∷ q) (λ m at ts. forms.field_tail_of k at ts)
field_tail_law k = then_form name_law (λ f. led_law (field_tail_choice k f)
    (fault (trees.SetPrimitive (trees.SetField k f (trees.NullAtom 0))) (symbol Assign ∷ word_at 0 Null ∷ [])
    (tt, (tt, tt))
    (λ q. refl)))

named_tail_choice : {n : ℕ} (k : Placed Text) (at : ℕ) (t : TokenKind)
    → Choice n trees.primitive_then (λ q. name k ∷ q) (λ m. forms.named_tail_next k) at t
named_tail_choice k at (Symbol Assign) = takes _ (λ m. refl) (then_form value_law (λ v. last (λ q. refl)))
named_tail_choice k at (Symbol Refresh) = takes _ (λ m. refl) (then_form place_law (λ p. last (λ q. refl)))
named_tail_choice k at (Symbol Dot) = takes _ (λ m. refl) (field_tail_law k)
named_tail_choice k at _ = leaves (λ m. refl)

pub named_tail_law : {n : ℕ} (k : Placed Text)
    → Law n trees.primitive_then (λ q. name k ∷ q) (λ m at ts. forms.named_tail_of k at ts)
named_tail_law k = led_law (named_tail_choice k)
    (fault (trees.SetPrimitive (trees.SetName k (trees.NullValue 0))) (symbol Assign ∷ word_at 0 Null ∷ [])
    (tt, (tt, tt))
    (λ q. refl))

ghost_set_law : {n : ℕ} → Law n trees.ghost_set_then (λ q. word Ghost ∷ q) (λ m at ts. forms.ghost_set_of at ts)
ghost_set_law = then_form (name_and_law Dot) (λ k. then_form (name_and_law Assign) (λ g.
    then_form ghost_value_law (λ v. last (λ q. refl))))

primitive_choice : {n : ℕ} (at : ℕ) (t : TokenKind) → Choice n trees.primitive_then same
    (λ m. forms.primitive_next) at t
primitive_choice at (Name k) = takes_at _ (λ m. refl) (named_tail_law (at_place at k))
primitive_choice at (Word Ghost) = takes _ (λ m. refl) (then_whole ghost_set_law (λ g. last (λ q. refl)))
primitive_choice at (Word Active) = takes _ (λ m. refl) (then_form name_law (λ k. last (λ q. refl)))
primitive_choice at (Word Assume) = takes _ (λ m. refl) (then_form test_law (λ t. last (λ q. refl)))
primitive_choice at (Word Skip) = takes _ (λ m. refl) (last (λ q. refl))
primitive_choice at _ = leaves (λ m. refl)

primitive_law : {n : ℕ} → Law n trees.primitive_then same (λ m at ts. forms.primitive_of at ts)
primitive_law = led_law primitive_choice (fault trees.SkipPrimitive (word Skip ∷ []) (tt, tt) (λ q. refl))

pub primitive_line_law : (n : ℕ) → Law n trees.primitive_line_then same (λ m at ts. forms.primitive_line_of at ts)
primitive_line_law n = ended_by_law Semicolon primitive_law

-- ---- the assignments of `init`

set_field_law : {n : ℕ} (k : Placed Text)
    → Law n trees.set_then (λ q. name k ∷ symbol Dot ∷ q) (λ m at ts. forms.set_field_of k at ts)
set_field_law k = then_form (name_and_law Assign) (λ f. then_form atom_law (λ a. last (λ q. refl)))

set_choice : {n : ℕ} (k : Placed Text) (at : ℕ) (t : TokenKind) → Choice n trees.set_then (λ q. name k ∷ q)
    (λ m. forms.set_next k) at t
set_choice k at (Symbol Assign) = takes _ (λ m. refl) (then_form value_law (λ v. last (λ q. refl)))
set_choice k at (Symbol Dot) = takes _ (λ m. refl) (set_field_law k)
set_choice k at _ = leaves (λ m. refl)

set_law : {n : ℕ} (k : Placed Text) → Law n trees.set_then (λ q. name k ∷ q) (λ m at ts. forms.set_of_name k at ts)
set_law k = led_law (set_choice k)
    (fault (trees.SetName k (trees.NullValue 0)) (symbol Assign ∷ word_at 0 Null ∷ []) (tt, (tt, tt)) (λ q. refl))

initial_choice : {n : ℕ} (at : ℕ) (t : TokenKind) → Choice n trees.initial_then same (λ m. forms.initial_next) at t
initial_choice at (Name k) = takes_at _ (λ m. refl)
    (then_whole (set_law (at_place at k)) (λ s. then_symbol Semicolon (last (λ q. refl))))
initial_choice at (Word Ghost) =
    takes _ (λ m. refl) (then_whole ghost_set_law (λ g. then_symbol Semicolon (last (λ q. refl))))
initial_choice at _ = leaves (λ m. refl)

pub initial_law : (n : ℕ) → Law n trees.initial_then same (λ m at ts. forms.initial_of at ts)
initial_law n = led_law initial_choice
    (fault (trees.InitialSet (trees.SetName a_name (trees.NullValue 0)))
    (name a_name ∷ symbol Assign ∷ word_at 0 Null ∷ symbol Semicolon ∷ []) (a_name_fits, (tt, (tt, (tt, tt))))
    (λ q. refl))

-- ---- calls

argument_choice : {n : ℕ} (at : ℕ) (t : TokenKind) → Choice n trees.argument_then same (λ m. forms.argument_next) at t
argument_choice at (Word Null) = takes _ (λ m. refl) (last (λ q. refl))
argument_choice at (Name k) = takes_at _ (λ m. refl) (last (λ q. refl))
argument_choice at (Word Active) = takes _ (λ m. refl) (then_form name_law (λ k. last (λ q. refl)))
argument_choice at _ = leaves (λ m. refl)

pub argument_law : {n : ℕ} → Law n trees.argument_then same (λ m at ts. forms.argument_of at ts)
argument_law = led_law argument_choice (last (λ q. refl))

abbrev pub label_then : Spelling (Option (Placed Text))
label_then d q = maybe_then trees.during_then d q

during_choice : {n : ℕ} (at : ℕ) (t : TokenKind) → Choice n label_then same (λ m. forms.during_next) at t
during_choice at (Word During) = takes _ (λ m. refl) (then_form name_law (λ k. last (λ q. refl)))
during_choice at _ = leaves (λ m. refl)

pub during_law : {n : ℕ} → Law n label_then same (λ m at ts. forms.during_of at ts)
during_law = led_law during_choice (last (λ q. refl))

-- ---- names after a comma

comma_name_choice : {n : ℕ} (at : ℕ) (t : TokenKind) → Choice n trees.comma_name_then same
    (λ m. forms.comma_name_next) at t
comma_name_choice at (Symbol Comma) = takes _ (λ m. refl) (within (λ q. symbol Comma ∷ q) name_law)
comma_name_choice at _ = leaves (λ m. refl)

pub comma_name_law : (n : ℕ) → Law n trees.comma_name_then same (λ m at ts. forms.comma_name_of at ts)
comma_name_law n = led_law comma_name_choice
    (fault a_name (symbol Comma ∷ name a_name ∷ []) (tt, (a_name_fits, tt)) (λ q. refl))

-- ---- declarations

field_choice : {n : ℕ} (at : ℕ) (t : TokenKind) → Choice n trees.field_then same (λ m. forms.field_next) at t
field_choice at (Word Ptr) = takes _ (λ m. refl) (then_form (name_and_law Semicolon) (λ k. last (λ q. refl)))
field_choice at (Word Data) = takes _ (λ m. refl) (then_form (name_and_law Semicolon) (λ k. last (λ q. refl)))
field_choice at _ = leaves (λ m. refl)

pub field_law : (n : ℕ) → Law n trees.field_then same (λ m at ts. forms.field_of at ts)
field_law n = led_law field_choice
    (fault (trees.PointerField a_name) (word Ptr ∷ name a_name ∷ symbol Semicolon ∷ [])
    (tt, (a_name_fits, (tt, tt))) (λ q. refl))

pub shared_law : (n : ℕ) → Law n trees.shared_then same (λ m at ts. forms.shared_of at ts)
shared_law n = then_word Shared (within (λ q. word Shared ∷ q) (name_and_law Semicolon))

pub function_law : (n : ℕ) → Law n trees.function_then same (λ m at ts. forms.function_of at ts)
function_law n = then_word Call (then_form (name_and_law OpenParen) (λ k. then_form (word_if_law Ptr) (λ w.
    then_symbol CloseParen (then_symbol Semicolon (last (λ q. refl))))))

hazard_law : {n : ℕ} → Law n trees.scheme_then (λ q. word Hazard ∷ q) (λ m at ts. forms.hazard_of at ts)
hazard_law = then_symbol OpenParen (then_form (name_and_law CloseParen) (λ f. then_symbol Semicolon
    (last (λ q. refl))))

epoch_law : {n : ℕ} → Law n trees.scheme_then (λ q. word Epoch ∷ q) (λ m at ts. forms.epoch_of at ts)
epoch_law = then_symbol OpenParen (then_form (name_and_law Comma) (λ e. then_form (name_and_law CloseParen) (λ l.
    then_symbol Semicolon (last (λ q. refl)))))

scheme_choice : {n : ℕ} (at : ℕ) (t : TokenKind) → Choice n trees.scheme_then same (λ m. forms.scheme_next) at t
scheme_choice at (Word Hazard) = takes _ (λ m. refl) hazard_law
scheme_choice at (Word Epoch) = takes _ (λ m. refl) epoch_law
scheme_choice at _ = leaves (λ m. refl)

scheme_law : {n : ℕ} → Law n trees.scheme_then same (λ m at ts. forms.scheme_of at ts)
scheme_law = led_law scheme_choice
    (fault (trees.UseHazard a_name)
    (word Hazard ∷ symbol OpenParen ∷ name a_name ∷ symbol CloseParen ∷ symbol Semicolon ∷ [])
    (tt, (tt, (a_name_fits, (tt, (tt, tt))))) (λ q. refl))

abbrev pub watched_then : Spelling (Option trees.WatchTree)
watched_then w q = maybe_then trees.watch_then w q

watch_choice : {n : ℕ} (at : ℕ) (t : TokenKind) → Choice n watched_then same (λ m. forms.watch_next) at t
watch_choice at (Word Use) = takes _ (λ m. refl) (then_form scheme_law (λ w. last (λ q. refl)))
watch_choice at _ = leaves (λ m. refl)

pub watch_law : {n : ℕ} → Law n watched_then same (λ m at ts. forms.watch_of at ts)
watch_law = led_law watch_choice (last (λ q. refl))

-- ---- clauses of an outline

term_choice : {n : ℕ} (at : ℕ) (t : TokenKind) → Choice n trees.term_then same (λ m. forms.term_next) at t
term_choice at (Word Null) = takes_at _ (λ m. refl) (last (λ q. refl))
term_choice at (Number k) = takes_at _ (λ m. refl) (last (λ q. refl))
term_choice at (Word Me) = takes_at _ (λ m. refl) (last (λ q. refl))
term_choice at (Word NoneWord) = takes_at _ (λ m. refl) (last (λ q. refl))
term_choice at (Name k) = takes_at _ (λ m. refl)
    (then_whole (place_of_name_law (at_place at k)) (λ p. last (λ q. refl)))
term_choice at _ = leaves (λ m. refl)

term_law : {n : ℕ} → Law n trees.term_then same (λ m at ts. forms.term_of at ts)
term_law = led_law term_choice (fault (trees.NullTerm 0) (word_at 0 Null ∷ []) (tt, tt) (λ q. refl))

abbrev equality_then : Spelling Bool
equality_then e q = symbol (trees.equality_symbol e) ∷ q

equality_choice : {n : ℕ} (at : ℕ) (t : TokenKind) → Choice n equality_then same (λ m. forms.equality_next) at t
equality_choice at (Symbol Equal) = takes _ (λ m. refl) (last {x = true} (λ q. refl))
equality_choice at (Symbol Unequal) = takes _ (λ m. refl) (last {x = false} (λ q. refl))
equality_choice at _ = leaves (λ m. refl)

equality_law : {n : ℕ} → Law n equality_then same (λ m at ts. forms.equality_of at ts)
equality_law = led_law equality_choice (fault true (symbol Equal ∷ []) (tt, tt) (λ q. refl))

retired_law : {n : ℕ} → Law n trees.flag_then (λ q. word Retired ∷ q) (λ m at ts. forms.retired_of at ts)
retired_law = then_symbol OpenParen (then_form (name_and_law CloseParen) (λ k. last (λ q. refl)))

marked_law : {n : ℕ} → Law n trees.flag_then (λ q. word Marked ∷ q) (λ m at ts. forms.marked_of at ts)
marked_law = then_symbol OpenParen (then_form place_law (λ p. then_symbol CloseParen (last (λ q. refl))))

flag_choice : {n : ℕ} (at : ℕ) (t : TokenKind) → Choice n trees.flag_then same (λ m. forms.flag_next) at t
flag_choice at (Word Retired) = takes _ (λ m. refl) retired_law
flag_choice at (Word Marked) = takes _ (λ m. refl) marked_law
flag_choice at _ = leaves (λ m. refl)

flag_law : {n : ℕ} → Law n trees.flag_then same (λ m at ts. forms.flag_of at ts)
flag_law = led_law flag_choice
    (fault (trees.RetiredFlag a_name) (word Retired ∷ symbol OpenParen ∷ name a_name ∷ symbol CloseParen ∷ [])
    (tt, (tt, (a_name_fits, (tt, tt)))) (λ q. refl))

equation_law : {n : ℕ} → Law n trees.literal_then same (λ m at ts. forms.equation_of at ts)
equation_law = then_form term_law (λ a. then_form equality_law (λ e. then_form term_law (λ b. last (λ q. refl))))

literal_choice : {n : ℕ} (at : ℕ) (t : TokenKind) → Choice n trees.literal_then same (λ m. forms.literal_next) at t
literal_choice at (Word Not) = takes _ (λ m. refl) (then_form flag_law (λ f. last (λ q. refl)))
literal_choice at (Word Retired) = takes _ (λ m. refl) (then_whole retired_law (λ f. last (λ q. refl)))
literal_choice at (Word Marked) = takes _ (λ m. refl) (then_whole marked_law (λ f. last (λ q. refl)))
literal_choice at _ = leaves (λ m. refl)

pub literal_law : {n : ℕ} → Law n trees.literal_then same (λ m at ts. forms.literal_of at ts)
literal_law = led_law literal_choice equation_law

-- a literal has a token
pub some_literal : (l : trees.LiteralTree) (q : Pieces) → trees.literal_then l q ≡ [] → ⊥
some_literal (trees.FlagLiteral (trees.RetiredFlag k)) q e = cc
some_literal (trees.FlagLiteral (trees.MarkedFlag p)) q e = cc
some_literal (trees.NotLiteral f) q e = cc
some_literal (trees.EqualityLiteral (trees.PlaceTerm (trees.PlaceOf k f)) w b) q e = cc
some_literal (trees.EqualityLiteral (trees.NullTerm at) w b) q e = cc
some_literal (trees.EqualityLiteral (trees.NumberTerm k) w b) q e = cc
some_literal (trees.EqualityLiteral (trees.MeTerm at) w b) q e = cc
some_literal (trees.EqualityLiteral (trees.NoneTerm at) w b) q e = cc

pub or_literal_law : (n : ℕ) → Law n trees.or_literal_then same (λ m at ts. forms.or_literal_of at ts)
or_literal_law n = then_word Or (within (λ q. word Or ∷ q) (placed_law some_literal literal_law))

abbrev second_then : Spelling (Option (Placed Text))
second_then k q = maybe_then trees.comma_name_then k q

second_choice : {n : ℕ} (at : ℕ) (t : TokenKind) → Choice n second_then same (λ m. forms.second_next) at t
second_choice at (Symbol Comma) = takes _ (λ m. refl) (then_form name_law (λ k. last (λ q. refl)))
second_choice at _ = leaves (λ m. refl)

second_law : {n : ℕ} → Law n second_then same (λ m at ts. forms.second_of at ts)
second_law = led_law second_choice (last (λ q. refl))

all_law : {n : ℕ} → Law n trees.bound_then (λ q. word All ∷ q) (λ m at ts. forms.all_of at ts)
all_law = then_form name_law (λ k. then_form second_law (λ j. then_symbol Colon (last (λ q. refl))))

bound_choice : {n : ℕ} (at : ℕ) (t : TokenKind) → Choice n trees.bound_then same (λ m. forms.bound_next) at t
bound_choice at (Word All) = takes _ (λ m. refl) all_law
bound_choice at _ = leaves (λ m. refl)

pub bound_law : {n : ℕ} → Law n trees.bound_then same (λ m at ts. forms.bound_of at ts)
bound_law = led_law bound_choice (last (λ q. refl))

-- ---- the depth of an outline

abbrev pub depth_then : Spelling (Option (Placed ℕ))
depth_then d q = maybe_then trees.depth_then d q

depth_choice : {n : ℕ} (at : ℕ) (t : TokenKind) → Choice n depth_then same (λ m. forms.depth_next) at t
depth_choice at (Word Depth) = takes _ (λ m. refl)
    (then_form number_law (λ d. then_symbol Semicolon (last (λ q. refl))))
depth_choice at _ = leaves (λ m. refl)

pub depth_law : {n : ℕ} → Law n depth_then same (λ m at ts. forms.depth_of at ts)
depth_law = led_law depth_choice (last (λ q. refl))
