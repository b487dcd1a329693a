-- Tokens after a form are those of the form with nothing after it, and then these; so is their text.
use Rattle.std.proofs.Common.{◌≡◌, ◌+◌, ◌<◌, ◌++◌, ◌∷◌, [], List, length, map, drop, get_or, Option, Some, None, Bool, true, false, ℕ, refl, ap, sym, ◌∙◌, append_assoc}
use Rattle.plc_lex.specs.declared.token.TokenKind.{TokenKind}
use Rattle.plc_lex.specs.declared.token.TokenKind.TheVariants.{Word, Name, Symbol}
use Rattle.plc_lex.specs.declared.token.Keyword.TheVariants.{Struct, Ghost, Init, Op, Atomic, If, Else, Loop, Choose, Or, Active, Cas, Inv, Over, At, Not, Marked}
use Rattle.plc_lex.specs.declared.token.Symbol.TheVariants.{OpenBrace, CloseBrace, OpenParen, CloseParen, Semicolon, Comma, Colon}
use Rattle.plc_syntax.specs.Forms.{at_place}
use Rattle.plc_syntax.proofs.Pieces.{from_kinds}
use Rattle.plc_syntax.specs.Trees.{Pieces, Piece, Placed, kinds_of, from_place, plain, word, symbol, name, placed_then, each_then, maybe_then, word_if_then, comma_name_then, FieldTree, PointerField, DataField, field_then, struct_then, shared_then, FunctionTree, Declares, function_then, WatchTree, UseHazard, UseEpoch, watch_then, GhostKindTree, OneOf, OfThreads, ghost_kind_then, GhostTree, Auxiliary, ghost_then, Text, PlaceTree, PlaceOf, place_then, AtomTree, NullAtom, NumberAtom, NameAtom, atom_then, ValueTree, NullValue, NewValue, NumberValue, MarkValue, UnmarkValue, PlaceValue, value_then, SetTree, SetName, SetField, set_then, RefreshTree, RefreshName, RefreshField, refresh_then, GhostValueTree, NameGhost, MeGhost, NoneGhost, ghost_value_then, GhostSetTree, SetGhost, ghost_set_then, InitialTree, InitialSet, InitialGhost, initial_then, init_then, TestTree, MarkedTest, UnmarkedTest, Compares, test_then, name_or_null_then, ConditionTree, TestCondition, RefreshCondition, CasCondition, condition_then, PrimitiveTree, SetPrimitive, RefreshPrimitive, GhostPrimitive, ActivePrimitive, AssumePrimitive, SkipPrimitive, primitive_then, primitive_line_then, ArgumentTree, NoArgument, NullArgument, NameArgument, ActiveArgument, argument_then, during_then, StatementTree, PrimitiveStatement, AtomicStatement, CallStatement, IfStatement, ChooseStatement, LoopStatement, BreakStatement, ReturnStatement, LabelStatement, BlockTree, NoStatement, Then as ThenStatement, ElseTree, NoElse, ElseBlock, OrTree, NoOr, OrBlock, statement_then, statements_then, else_then, or_then, parameters_then, OpTree, Operates, op_then, TermTree, PlaceTerm, NullTerm, NumberTerm, MeTerm, NoneTerm, term_then, FlagTree, RetiredFlag, MarkedFlag, flag_then, equality_symbol, LiteralTree, FlagLiteral, NotLiteral, EqualityLiteral, literal_then, or_literal_then, BoundTree, NoBound, AllOf, bound_then, ClauseTree, Claims, clause_then, ItemTree, InvariantItem, OverItem, AtItem, item_then, depth_then}
use Rattle.plc_print.specs.Text.{token_text, after, text_of}
use Rattle.plc_print.proofs.Items.{copy_left, item_left}

-- what a form adds stands before what is after it
abbrev pub Leads : (Pieces → Pieces) → Type 0
Leads form = (rest : Pieces) → kinds_of (form rest) ≡ kinds_of (form []) ++ kinds_of rest

-- the text of tokens one after the other
pub text_both : (xs ys : List TokenKind) → text_of (xs ++ ys) ≡ text_of xs ++ text_of ys
text_both [] ys = refl
text_both (x ∷ xs) ys = rw (text_both xs ys) (sym (append_assoc (token_text x) (after x ∷ text_of xs) (text_of ys)))

-- the text of a form and of what is after it
text_leads : (form : Pieces → Pieces) → Leads form → (rest : Pieces) → text_of (kinds_of (form rest)) ≡ text_of (kinds_of (form [])) ++ text_of (kinds_of rest)
text_leads form leads rest = ap text_of (leads rest) ∙ text_both (kinds_of (form [])) (kinds_of rest)

-- a form after what was printed before, and then what is after it
pub then_prints : (form : Pieces → Pieces) → Leads form → (rest : Pieces) → (old : List ℕ) → {mid new : List ℕ} → mid ≡ old ++ text_of (kinds_of (form [])) → new ≡ mid ++ text_of (kinds_of rest) → new ≡ old ++ text_of (kinds_of (form rest))
then_prints form leads rest old e f = f ∙ ap (λ x. x ++ text_of (kinds_of rest)) e ∙ append_assoc old (text_of (kinds_of (form []))) (text_of (kinds_of rest)) ∙ ap (λ x. old ++ x) (sym (text_leads form leads rest))

-- a form that was left to print has been printed
then_left : (form : Pieces → Pieces) → Leads form → (rest : Pieces) → (mid : List ℕ) → {new whole : List ℕ} → mid ++ text_of (kinds_of (form rest)) ≡ whole → new ≡ mid ++ text_of (kinds_of (form [])) → new ++ text_of (kinds_of rest) ≡ whole
then_left form leads rest mid left e = ap (λ x. x ++ text_of (kinds_of rest)) e ∙ append_assoc mid (text_of (kinds_of (form []))) (text_of (kinds_of rest)) ∙ ap (λ x. mid ++ x) (sym (text_leads form leads rest)) ∙ left

-- the same of the form of an item, where items were left to print
item_first : {A : Type 0} → (form : A → Pieces → Pieces) → ((x : A) → Leads (form x)) → (tokens : List A → Pieces) → ((x : A) (others : List A) → tokens (x ∷ others) ≡ form x (tokens others))
    → (now others : List A) (x : A) → now ≡ x ∷ others → (mid : List ℕ) → {new whole : List ℕ} → mid ++ text_of (kinds_of (tokens now)) ≡ whole → new ≡ mid ++ text_of (kinds_of (form x [])) → new ++ text_of (kinds_of (tokens others)) ≡ whole
item_first form leads tokens first now others x split mid left e =
    then_left (form x) (leads x) (tokens others) mid (ap (λ ts. mid ++ text_of (kinds_of ts)) (sym (first x others)) ∙ ap (λ ys. mid ++ text_of (kinds_of (tokens ys))) (sym split) ∙ left) e

-- in a loop over items
pub item_printed : {A : Type 0} → (form : A → Pieces → Pieces) → ((x : A) → Leads (form x)) → (tokens : List A → Pieces) → ((x : A) (others : List A) → tokens (x ∷ others) ≡ form x (tokens others))
    → (xs : List A) (i : ℕ) (x : A) → i < length xs → x ≡ get_or xs i x
    → (mid : List ℕ) → {new whole : List ℕ} → mid ++ text_of (kinds_of (tokens (drop i xs))) ≡ whole → new ≡ mid ++ text_of (kinds_of (form x [])) → new ++ text_of (kinds_of (tokens (drop (i + 1) xs))) ≡ whole
item_printed form leads tokens first xs i x within is = item_first form leads tokens first (drop i xs) (drop (i + 1) xs) x (item_left xs i x within is)

-- in a loop over items that have trees
pub each_printed : {A B : Type 0} → (form : B → Pieces → Pieces) → ((b : B) → Leads (form b)) → (tree : A → B)
    → (xs : List A) (i : ℕ) (x : A) → i < length xs → x ≡ get_or xs i x
    → (mid : List ℕ) → {new whole : List ℕ} → mid ++ text_of (kinds_of (each_then form (map tree (drop i xs)) [])) ≡ whole → new ≡ mid ++ text_of (kinds_of (form (tree x) [])) → new ++ text_of (kinds_of (each_then form (map tree (drop (i + 1) xs)) [])) ≡ whole
each_printed {A = A} form leads tree =
    item_printed (λ (x : A). form (tree x)) (λ x. leads (tree x)) (λ (xs : List A). each_then form (map tree xs) []) (λ x others. refl)

-- in a loop over items that are copied
pub copy_printed : {A : Type 0} → (form : A → Pieces → Pieces) → ((x : A) → Leads (form x)) → (tokens : List A → Pieces) → ((x : A) (others : List A) → tokens (x ∷ others) ≡ form x (tokens others))
    → (xs : List A) (i : ℕ) (d : A) → i < length xs
    → (mid : List ℕ) → {new whole : List ℕ} → mid ++ text_of (kinds_of (tokens (drop i xs))) ≡ whole → new ≡ mid ++ text_of (kinds_of (form (get_or xs i d) [])) → new ++ text_of (kinds_of (tokens (drop (i + 1) xs))) ≡ whole
copy_printed form leads tokens first xs i d within = item_first form leads tokens first (drop i xs) (drop (i + 1) xs) (get_or xs i d) (copy_left xs i d within)

pub place_leads : (p : PlaceTree) → Leads (place_then p)
place_leads (PlaceOf n None) rest = refl
place_leads (PlaceOf n (Some f)) rest = refl

pub value_leads : (v : ValueTree) → Leads (value_then v)
value_leads (NullValue at) rest = refl
value_leads (NewValue at) rest = refl
value_leads (NumberValue n) rest = refl
value_leads (MarkValue at n) rest = refl
value_leads (UnmarkValue at n) rest = refl
value_leads (PlaceValue p) rest = place_leads p rest

pub atom_leads : (a : AtomTree) → Leads (atom_then a)
atom_leads (NullAtom at) rest = refl
atom_leads (NumberAtom n) rest = refl
atom_leads (NameAtom n) rest = refl

pub set_leads : (s : SetTree) → Leads (set_then s)
set_leads (SetName n v) rest = rw (value_leads v rest) refl
set_leads (SetField n f a) rest = rw (atom_leads a rest) refl

pub refresh_leads : (r : RefreshTree) → Leads (refresh_then r)
refresh_leads (RefreshName n p) rest = rw (place_leads p rest) refl
refresh_leads (RefreshField n f q) rest = refl

pub ghost_value_leads : (v : GhostValueTree) → Leads (ghost_value_then v)
ghost_value_leads (NameGhost n) rest = refl
ghost_value_leads (MeGhost at) rest = refl
ghost_value_leads (NoneGhost at) rest = refl

pub ghost_set_leads : (g : GhostSetTree) → Leads (ghost_set_then g)
ghost_set_leads (SetGhost n g v) rest = rw (ghost_value_leads v rest) refl

pub test_leads : (t : TestTree) → Leads (test_then t)
test_leads (MarkedTest n) rest = refl
test_leads (UnmarkedTest n) rest = refl
test_leads (Compares n c a) rest = rw (atom_leads a rest) refl

pub primitive_leads : (p : PrimitiveTree) → Leads (primitive_then p)
primitive_leads (SetPrimitive s) rest = set_leads s rest
primitive_leads (RefreshPrimitive r) rest = refresh_leads r rest
primitive_leads (GhostPrimitive g) rest = ghost_set_leads g rest
primitive_leads (ActivePrimitive n) rest = refl
primitive_leads (AssumePrimitive t) rest = rw (test_leads t rest) refl
primitive_leads SkipPrimitive rest = refl

-- ---- forms one after the other

leads_then : (first second : Pieces → Pieces) → Leads first → Leads second → Leads (λ rest. first (second rest))
leads_then first second f s rest =
    f (second rest) ∙ ap (λ ts. kinds_of (first []) ++ ts) (s rest)
    ∙ sym (append_assoc (kinds_of (first [])) (kinds_of (second [])) (kinds_of rest))
    ∙ ap (λ ts. ts ++ kinds_of rest) (sym (f (second [])))

-- a form at its place
pub at_leads : (at : ℕ) (form : Pieces → Pieces) → Leads form → Leads (λ rest. from_place at (form rest))
at_leads at form f rest =
    from_kinds at (form rest) ∙ f rest ∙ ap (λ ts. ts ++ kinds_of rest) (sym (from_kinds at (form [])))

-- what a form prints, it prints at its place
pub printed_at : (at : ℕ) (form : Pieces → Pieces) → (mid : List ℕ) → {new : List ℕ} → new ≡ mid ++ text_of (kinds_of (form [])) → new ≡ mid ++ text_of (kinds_of (from_place at (form [])))
printed_at at form mid e = e ∙ ap (λ ts. mid ++ text_of ts) (sym (from_kinds at (form [])))

pub placed_leads : {A : Type 0} → (x_then : A → Pieces → Pieces) → ((x : A) → Leads (x_then x)) → (x : Placed A) → Leads (placed_then x_then x)
placed_leads x_then f x = at_leads x.at (x_then x.value) (f x.value)

before : (form : Pieces → Pieces) (t : Piece) → Leads form → Leads (λ rest. form (t ∷ rest))
before form t f = leads_then form (λ rest. t ∷ rest) f (λ rest. refl)

pub each_leads : {A : Type 0} → (x_then : A → Pieces → Pieces) → ((x : A) → Leads (x_then x)) → (xs : List A) → Leads (each_then x_then xs)
each_leads x_then f [] rest = refl
each_leads x_then f (x ∷ xs) rest = leads_then (x_then x) (each_then x_then xs) (f x) (each_leads x_then f xs) rest

-- items one after the other
pub each_then_both : {A : Type 0} → (x_then : A → Pieces → Pieces) (xs ys : List A) (rest : Pieces) → each_then x_then (xs ++ ys) rest ≡ each_then x_then xs (each_then x_then ys rest)
each_then_both x_then [] ys rest = refl
each_then_both x_then (x ∷ xs) ys rest = ap (x_then x) (each_then_both x_then xs ys rest)

pub maybe_leads : {A : Type 0} → (x_then : A → Pieces → Pieces) → ((x : A) → Leads (x_then x)) → (x : Option A) → Leads (maybe_then x_then x)
maybe_leads x_then f None rest = refl
maybe_leads x_then f (Some x) rest = f x rest

pub line_leads : (p : PrimitiveTree) → Leads (primitive_line_then p)
line_leads p = before (primitive_then p) (symbol Semicolon) (primitive_leads p)

pub lines_leads : (ps : List (Placed PrimitiveTree)) → Leads (each_then (placed_then primitive_line_then) ps)
lines_leads = each_leads (placed_then primitive_line_then) (placed_leads primitive_line_then line_leads)

-- ---- conditions

pub name_or_null_leads : (n : Option (Placed Text)) → Leads (name_or_null_then n)
name_or_null_leads None rest = refl
name_or_null_leads (Some n) rest = refl

pub cas_leads : (n : Placed Text) (old new : Option (Placed Text)) → Leads (λ rest. name n ∷ symbol Comma ∷ name_or_null_then old (symbol Comma ∷ name_or_null_then new (symbol CloseParen ∷ rest)))
cas_leads n None None rest = refl
cas_leads n None (Some q) rest = refl
cas_leads n (Some p) None rest = refl
cas_leads n (Some p) (Some q) rest = refl

pub condition_leads : (c : ConditionTree) → Leads (condition_then c)
condition_leads (TestCondition t) rest = test_leads t rest
condition_leads (RefreshCondition n p) rest = rw (place_leads p rest) refl
condition_leads (CasCondition true n old new) rest = ap (λ ts. Word Cas ∷ Symbol OpenParen ∷ Word Active ∷ ts) (cas_leads n old new rest)
condition_leads (CasCondition false n old new) rest = ap (λ ts. Word Cas ∷ Symbol OpenParen ∷ ts) (cas_leads n old new rest)

-- a name or null that is one token
null_token : (n : Option (Placed Text)) (k : TokenKind) → kinds_of (name_or_null_then n []) ≡ k ∷ [] → (rest : Pieces) → kinds_of (name_or_null_then n rest) ≡ k ∷ kinds_of rest
null_token n k e rest = name_or_null_leads n rest ∙ ap (λ ts. ts ++ kinds_of rest) e

cas_tokens : (active : Bool) (n : Placed Text) (old new : Option (Placed Text)) (k l : TokenKind) → kinds_of (name_or_null_then old []) ≡ k ∷ [] → kinds_of (name_or_null_then new []) ≡ l ∷ []
    → kinds_of (condition_then (CasCondition active n old new) []) ≡ kinds_of (word Cas ∷ symbol OpenParen ∷ word_if_then Active active (name n ∷ symbol Comma ∷ plain k ∷ symbol Comma ∷ plain l ∷ symbol CloseParen ∷ []))
cas_tokens true n old new k l e f =
    ap (λ ts. Word Cas ∷ Symbol OpenParen ∷ Word Active ∷ Name n.value ∷ Symbol Comma ∷ ts) (null_token old k e (symbol Comma ∷ name_or_null_then new (symbol CloseParen ∷ []))
    ∙ ap (λ ts. k ∷ Symbol Comma ∷ ts) (null_token new l f (symbol CloseParen ∷ [])))
cas_tokens false n old new k l e f =
    ap (λ ts. Word Cas ∷ Symbol OpenParen ∷ Name n.value ∷ Symbol Comma ∷ ts) (null_token old k e (symbol Comma ∷ name_or_null_then new (symbol CloseParen ∷ []))
    ∙ ap (λ ts. k ∷ Symbol Comma ∷ ts) (null_token new l f (symbol CloseParen ∷ [])))

-- the text of a `cas`, with or without `active`
pub cas_text : (shown given : Bool) (n : TokenKind) (called : Text) (old new : Option (Placed Text)) (k l : TokenKind) → kinds_of (name_or_null_then old []) ≡ k ∷ [] → kinds_of (name_or_null_then new []) ≡ l ∷ [] → n ≡ Name called → given ≡ shown
    → text_of (kinds_of (word Cas ∷ symbol OpenParen ∷ word_if_then Active shown (plain n ∷ symbol Comma ∷ plain k ∷ symbol Comma ∷ plain l ∷ symbol CloseParen ∷ [])))
    ≡ text_of (kinds_of (condition_then (CasCondition given (at_place 0 called) old new) []))
cas_text true given n called old new k l e f same chosen =
    ap (λ m. text_of (kinds_of (word Cas ∷ symbol OpenParen ∷ word Active ∷ plain m ∷ symbol Comma ∷ plain k ∷ symbol Comma ∷ plain l ∷ symbol CloseParen ∷ []))) same
    ∙ sym (ap text_of (cas_tokens true (at_place 0 called) old new k l e f))
    ∙ ap (λ (a : Bool). text_of (kinds_of (condition_then (CasCondition a (at_place 0 called) old new) []))) (sym chosen)
cas_text false given n called old new k l e f same chosen =
    ap (λ m. text_of (kinds_of (word Cas ∷ symbol OpenParen ∷ plain m ∷ symbol Comma ∷ plain k ∷ symbol Comma ∷ plain l ∷ symbol CloseParen ∷ []))) same
    ∙ sym (ap text_of (cas_tokens false (at_place 0 called) old new k l e f))
    ∙ ap (λ (a : Bool). text_of (kinds_of (condition_then (CasCondition a (at_place 0 called) old new) []))) (sym chosen)

-- ---- statements

pub argument_leads : (a : ArgumentTree) → Leads (argument_then a)
argument_leads NoArgument rest = refl
argument_leads NullArgument rest = refl
argument_leads (NameArgument n) rest = refl
argument_leads (ActiveArgument n) rest = refl

pub during_leads : (d : Option (Placed Text)) → Leads (maybe_then during_then d)
during_leads None rest = refl
during_leads (Some n) rest = refl

pub call_end_leads : (d : Option (Placed Text)) → Leads (λ rest. symbol CloseParen ∷ maybe_then during_then d (symbol Semicolon ∷ rest))
call_end_leads None rest = refl
call_end_leads (Some n) rest = refl

mutual
  pub statement_leads : (s : StatementTree) → Leads (statement_then s)
  statement_leads (PrimitiveStatement p) rest = line_leads p rest
  statement_leads (AtomicStatement ps) rest = ap (λ ts. Word Atomic ∷ Symbol OpenBrace ∷ ts) (before (each_then (placed_then primitive_line_then) ps) (symbol CloseBrace) (lines_leads ps) rest)
  statement_leads (CallStatement f a d) rest = ap (λ ts. Name f.value ∷ Symbol OpenParen ∷ ts) (leads_then (argument_then a) (λ r. symbol CloseParen ∷ maybe_then during_then d (symbol Semicolon ∷ r)) (argument_leads a) (call_end_leads d) rest)
  statement_leads (IfStatement c b e) rest =
      ap (λ ts. Word If ∷ Symbol OpenParen ∷ ts) (leads_then (condition_then c) (λ r. symbol CloseParen ∷ symbol OpenBrace ∷ statements_then b (symbol CloseBrace ∷ else_then e r)) (condition_leads c)
      (λ r. ap (λ ts. Symbol CloseParen ∷ Symbol OpenBrace ∷ ts) (leads_then (statements_then b) (λ q. symbol CloseBrace ∷ else_then e q) (statements_leads b) (λ q. ap (λ ts. Symbol CloseBrace ∷ ts) (else_leads e q)) r)) rest)
  statement_leads (ChooseStatement a b os) rest =
      ap (λ ts. Word Choose ∷ Symbol OpenBrace ∷ ts) (leads_then (statements_then a) (λ r. symbol CloseBrace ∷ word Or ∷ symbol OpenBrace ∷ statements_then b (symbol CloseBrace ∷ or_then os r)) (statements_leads a)
      (λ r. ap (λ ts. Symbol CloseBrace ∷ Word Or ∷ Symbol OpenBrace ∷ ts) (leads_then (statements_then b) (λ q. symbol CloseBrace ∷ or_then os q) (statements_leads b) (λ q. ap (λ ts. Symbol CloseBrace ∷ ts) (or_leads os q)) r)) rest)
  statement_leads (LoopStatement b) rest = ap (λ ts. Word Loop ∷ Symbol OpenBrace ∷ ts) (before (statements_then b) (symbol CloseBrace) (statements_leads b) rest)
  statement_leads BreakStatement rest = refl
  statement_leads ReturnStatement rest = refl
  statement_leads (LabelStatement n) rest = refl

  pub statements_leads : (b : BlockTree) → Leads (statements_then b)
  statements_leads NoStatement rest = refl
  statements_leads (ThenStatement at s b) rest = at_leads at (λ r. statement_then s (statements_then b r)) (leads_then (statement_then s) (statements_then b) (statement_leads s) (statements_leads b)) rest

  pub else_leads : (e : ElseTree) → Leads (else_then e)
  else_leads NoElse rest = refl
  else_leads (ElseBlock b) rest = ap (λ ts. Word Else ∷ Symbol OpenBrace ∷ ts) (before (statements_then b) (symbol CloseBrace) (statements_leads b) rest)

  pub or_leads : (os : OrTree) → Leads (or_then os)
  or_leads NoOr rest = refl
  or_leads (OrBlock b os) rest = ap (λ ts. Word Or ∷ Symbol OpenBrace ∷ ts) (leads_then (statements_then b) (λ r. symbol CloseBrace ∷ or_then os r) (statements_leads b) (λ r. ap (λ ts. Symbol CloseBrace ∷ ts) (or_leads os r)) rest)

-- a block in its braces
abbrev pub braces_then : BlockTree → Pieces → Pieces
braces_then b rest = symbol OpenBrace ∷ statements_then b (symbol CloseBrace ∷ rest)

pub braces_leads : (b : BlockTree) → Leads (braces_then b)
braces_leads b rest = ap (λ ts. Symbol OpenBrace ∷ ts) (before (statements_then b) (symbol CloseBrace) (statements_leads b) rest)

-- ---- declarations

pub comma_name_leads : (n : Placed Text) → Leads (comma_name_then n)
comma_name_leads n rest = refl

pub comma_names_leads : (ns : List (Placed Text)) → Leads (each_then comma_name_then ns)
comma_names_leads = each_leads comma_name_then comma_name_leads

pub field_leads : (f : FieldTree) → Leads (field_then f)
field_leads (PointerField n) rest = refl
field_leads (DataField n) rest = refl

pub fields_leads : (fs : List FieldTree) → Leads (each_then field_then fs)
fields_leads = each_leads field_then field_leads

pub struct_leads : (n : Placed Text) (fs : List FieldTree) → Leads (struct_then n fs)
struct_leads n fs rest = ap (λ ts. Word Struct ∷ Name n.value ∷ Symbol OpenBrace ∷ ts) (before (each_then field_then fs) (symbol CloseBrace) (fields_leads fs) rest)

pub shared_leads : (n : Placed Text) → Leads (shared_then n)
shared_leads n rest = refl

pub function_leads : (f : FunctionTree) → Leads (function_then f)
function_leads (Declares n true) rest = refl
function_leads (Declares n false) rest = refl

pub watch_leads : (w : WatchTree) → Leads (watch_then w)
watch_leads (UseHazard f) rest = refl
watch_leads (UseEpoch e l) rest = refl

pub kind_leads : (k : GhostKindTree) → Leads (ghost_kind_then k)
kind_leads (OneOf v vs) rest = ap (λ ts. Symbol OpenBrace ∷ Name v.value ∷ ts) (before (each_then comma_name_then vs) (symbol CloseBrace) (comma_names_leads vs) rest)
kind_leads OfThreads rest = refl

pub ghost_leads : (g : GhostTree) → Leads (ghost_then g)
ghost_leads (Auxiliary n k) rest = ap (λ ts. Word Ghost ∷ Name n.value ∷ ts) (before (ghost_kind_then k) (symbol Semicolon) (kind_leads k) rest)

pub initial_leads : (i : InitialTree) → Leads (initial_then i)
initial_leads (InitialSet s) rest = before (set_then s) (symbol Semicolon) (set_leads s) rest
initial_leads (InitialGhost g) rest = before (ghost_set_then g) (symbol Semicolon) (ghost_set_leads g) rest

pub initials_leads : (is : List (Placed InitialTree)) → Leads (each_then (placed_then initial_then) is)
initials_leads = each_leads (placed_then initial_then) (placed_leads initial_then initial_leads)

pub init_leads : (is : List (Placed InitialTree)) → Leads (init_then is)
init_leads is rest = ap (λ ts. Word Init ∷ Symbol OpenBrace ∷ ts) (before (each_then (placed_then initial_then) is) (symbol CloseBrace) (initials_leads is) rest)

pub parameters_leads : (ns : List (Placed Text)) → Leads (parameters_then ns)
parameters_leads [] rest = refl
parameters_leads (n ∷ ns) rest = ap (λ ts. Name n.value ∷ ts) (comma_names_leads ns rest)

pub op_leads : (o : OpTree) → Leads (op_then o)
op_leads (Operates n ps locals b) rest =
    ap (λ ts. Word Op ∷ Name n.value ∷ Symbol OpenParen ∷ ts) (leads_then (parameters_then ps) (λ r. symbol CloseParen ∷ symbol OpenBrace ∷ each_then field_then locals (statements_then b (symbol CloseBrace ∷ r))) (parameters_leads ps)
    (λ r. ap (λ ts. Symbol CloseParen ∷ Symbol OpenBrace ∷ ts) (leads_then (each_then field_then locals) (λ q. statements_then b (symbol CloseBrace ∷ q)) (fields_leads locals) (before (statements_then b) (symbol CloseBrace) (statements_leads b)) r)) rest)

-- ---- outlines

pub term_leads : (t : TermTree) → Leads (term_then t)
term_leads (PlaceTerm p) rest = place_leads p rest
term_leads (NullTerm at) rest = refl
term_leads (NumberTerm n) rest = refl
term_leads (MeTerm at) rest = refl
term_leads (NoneTerm at) rest = refl

pub flag_leads : (f : FlagTree) → Leads (flag_then f)
flag_leads (RetiredFlag n) rest = refl
flag_leads (MarkedFlag p) rest =
    ap (λ ts. Word Marked ∷ Symbol OpenParen ∷ ts) (before (place_then p) (symbol CloseParen) (place_leads p) rest)

pub literal_leads : (l : LiteralTree) → Leads (literal_then l)
literal_leads (FlagLiteral f) rest = flag_leads f rest
literal_leads (NotLiteral f) rest = ap (λ ts. Word Not ∷ ts) (flag_leads f rest)
literal_leads (EqualityLiteral a is_equal b) rest =
    leads_then (term_then a) (λ r. symbol (equality_symbol is_equal) ∷ term_then b r) (term_leads a) (λ r. ap (λ ts. Symbol (equality_symbol is_equal) ∷ ts) (term_leads b r)) rest

pub or_literal_leads : (l : Placed LiteralTree) → Leads (or_literal_then l)
or_literal_leads l rest = ap (λ ts. Word Or ∷ ts) (placed_leads literal_then literal_leads l rest)

pub or_literals_leads : (ls : List (Placed LiteralTree)) → Leads (each_then or_literal_then ls)
or_literals_leads = each_leads or_literal_then or_literal_leads

pub bound_leads : (b : BoundTree) → Leads (bound_then b)
bound_leads NoBound rest = refl
bound_leads (AllOf n None) rest = refl
bound_leads (AllOf n (Some m)) rest = refl

pub clause_leads : (c : ClauseTree) → Leads (clause_then c)
clause_leads (Claims b l ls) rest =
    leads_then (bound_then b) (λ r. literal_then l (each_then or_literal_then ls r)) (bound_leads b) (leads_then (literal_then l) (each_then or_literal_then ls) (literal_leads l) (or_literals_leads ls)) rest

-- a clause with its semicolon
clause_line_leads : (c : ClauseTree) → Leads (λ rest. clause_then c (symbol Semicolon ∷ rest))
clause_line_leads c = before (clause_then c) (symbol Semicolon) (clause_leads c)

pub item_leads : (i : ItemTree) → Leads (item_then i)
item_leads (InvariantItem c) rest = ap (λ ts. Word Inv ∷ ts) (clause_line_leads c rest)
item_leads (OverItem n c) rest = ap (λ ts. Word Over ∷ Name n.value ∷ Symbol Colon ∷ ts) (clause_line_leads c rest)
item_leads (AtItem n ns c) rest =
    ap (λ ts. Word At ∷ Name n.value ∷ ts) (leads_then (each_then comma_name_then ns) (λ r. symbol Colon ∷ clause_then c (symbol Semicolon ∷ r)) (comma_names_leads ns) (λ r. ap (λ ts. Symbol Colon ∷ ts) (clause_line_leads c r)) rest)

pub items_leads : (is : List ItemTree) → Leads (each_then item_then is)
items_leads = each_leads item_then item_leads

pub depth_leads : (d : Option (Placed ℕ)) → Leads (maybe_then depth_then d)
depth_leads None rest = refl
depth_leads (Some d) rest = refl
