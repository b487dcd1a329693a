-- Which tokens use marks: form by form, each form's tokens before any others.
use Rattle.std.proofs.Common.{◌≡◌, Bool, true, false, Some, None, [], ◌∷◌, ◌||◌, refl, ap, ◌∙◌}
use Rattle.std.specs.List.{list_any}
use Rattle.plc_lex.specs.declared.token.Symbol.TheVariants.{CloseBrace, Semicolon}
use Rattle.plc_syntax.specs.Trees.{Text, Placed, Pieces, kinds_of, symbol, placed_then, each_then, maybe_then}
use Rattle.plc_syntax.specs.Trees.{comma_name_then, names_then}
use Rattle.plc_syntax.specs.Trees.{PointerField, DataField, field_then, shared_then}
use Rattle.plc_syntax.specs.Trees.{Declares, function_then, UseHazard, UseEpoch, watch_then}
use Rattle.plc_syntax.specs.Trees.{OneOf, OfThreads, Auxiliary, ghost_then}
use Rattle.plc_syntax.specs.Trees.{PlaceOf, place_then, NullAtom, NumberAtom, NameAtom, atom_then}
use Rattle.plc_syntax.specs.Trees.{NullValue, NewValue, NumberValue, MarkValue, UnmarkValue, PlaceValue}
use Rattle.plc_syntax.specs.Trees.{value_then, SetName, SetField, set_then}
use Rattle.plc_syntax.specs.Trees.{RefreshName, RefreshField, refresh_then}
use Rattle.plc_syntax.specs.Trees.{NameGhost, MeGhost, NoneGhost, ghost_value_then}
use Rattle.plc_syntax.specs.Trees.{SetGhost, ghost_set_then}
use Rattle.plc_syntax.specs.Trees.{InitialSet, InitialGhost, initial_then, init_then}
use Rattle.plc_syntax.specs.Trees.{MarkedTest, UnmarkedTest, Compares, test_then, name_or_null_then}
use Rattle.plc_syntax.specs.Trees.{TestCondition, RefreshCondition, CasCondition, condition_then}
use Rattle.plc_syntax.specs.Trees.{SetPrimitive, RefreshPrimitive, GhostPrimitive, ActivePrimitive}
use Rattle.plc_syntax.specs.Trees.{AssumePrimitive, SkipPrimitive, primitive_then, primitive_line_then}
use Rattle.plc_syntax.specs.Trees.{NoArgument, NullArgument, NameArgument, ActiveArgument, argument_then}
use Rattle.plc_syntax.specs.Trees.{during_then, PrimitiveStatement, AtomicStatement, CallStatement}
use Rattle.plc_syntax.specs.Trees.{IfStatement, ChooseStatement, LoopStatement, BreakStatement, ReturnStatement}
use Rattle.plc_syntax.specs.Trees.{LabelStatement, NoStatement, Then, NoElse, ElseBlock}
use Rattle.plc_syntax.specs.Trees.{NoOr, OrBlock, statement_then, statements_then, else_then, or_then}
use Rattle.plc_syntax.specs.Trees.{parameters_then, Operates, op_then}
use Rattle.plc_syntax.specs.Trees.{PlaceTerm, NullTerm, NumberTerm, MeTerm, NoneTerm, term_then}
use Rattle.plc_syntax.specs.Trees.{RetiredFlag, MarkedFlag, flag_then, FlagLiteral, NotLiteral, EqualityLiteral}
use Rattle.plc_syntax.specs.Trees.{literal_then}
use Rattle.plc_syntax.specs.Trees.{NoBound, AllOf, bound_then, or_literal_then, Claims}
use Rattle.plc_syntax.specs.Trees.{clause_then, InvariantItem, OverItem, AtItem, item_then, depth_then}
use Rattle.plc_syntax.specs.Trees.{Outlined, outline_then}
use Rattle.plc_syntax.proofs.Pieces.{from_kinds}
use Rattle.plc_syntax.specs.Marks.{tokens_use_marks, value_uses_marks, set_uses_marks}
use Rattle.plc_syntax.specs.Marks.{initial_uses_marks, init_uses_marks, test_uses_marks, condition_tree_uses_marks}
use Rattle.plc_syntax.specs.Marks.{primitive_uses_marks, statement_tree_uses_marks, block_uses_marks}
use Rattle.plc_syntax.specs.Marks.{else_uses_marks, or_uses_marks, op_uses_marks, flag_uses_marks}
use Rattle.plc_syntax.specs.Marks.{literal_tree_uses_marks, clause_tree_uses_marks, item_tree_uses_marks}
use Rattle.plc_syntax.specs.Marks.{outline_tree_uses_marks, outlined_uses_marks, file_tree_uses_marks}
use Rattle.plc_syntax.specs.Marks.{TreesSpellTheirMarks}

-- ---- forms that never use marks

-- the tokens of a tree use none
abbrev Plain : {X : Type 0} → (X → Pieces → Pieces) → Type 0
Plain {X} x_then = (x : X) (rest : Pieces) → tokens_use_marks (kinds_of (x_then x rest)) ≡ tokens_use_marks
    (kinds_of rest)

each_plain : {X : Type 0} (x_then : X → Pieces → Pieces) → Plain x_then → Plain (each_then x_then)
each_plain x_then one [] r = refl
each_plain x_then one (x ∷ xs) r = one x (each_then x_then xs r) ∙ each_plain x_then one xs r

maybe_plain : {X : Type 0} (x_then : X → Pieces → Pieces) → Plain x_then → Plain (maybe_then x_then)
maybe_plain x_then one None r = refl
maybe_plain x_then one (Some x) r = one x r

names_plain : (n : Placed Text) → Plain (names_then n)
names_plain n ns r = each_plain comma_name_then (λ m rest. refl) ns r

place_plain : Plain place_then
place_plain (PlaceOf n None) r = refl
place_plain (PlaceOf n (Some f)) r = refl

field_plain : Plain field_then
field_plain (PointerField n) r = refl
field_plain (DataField n) r = refl

function_plain : Plain function_then
function_plain (Declares n true) r = refl
function_plain (Declares n false) r = refl

watch_plain : Plain watch_then
watch_plain (UseHazard f) r = refl
watch_plain (UseEpoch e l) r = refl

ghost_plain : Plain ghost_then
ghost_plain (Auxiliary n (OneOf v vs)) r = names_plain v vs (symbol CloseBrace ∷ symbol Semicolon ∷ r)
ghost_plain (Auxiliary n OfThreads) r = refl

atom_plain : Plain atom_then
atom_plain (NullAtom at) r = refl
atom_plain (NumberAtom n) r = refl
atom_plain (NameAtom n) r = refl

refresh_plain : Plain refresh_then
refresh_plain (RefreshName n p) r = place_plain p r
refresh_plain (RefreshField n f q) r = refl

ghost_value_plain : Plain ghost_value_then
ghost_value_plain (NameGhost n) r = refl
ghost_value_plain (MeGhost at) r = refl
ghost_value_plain (NoneGhost at) r = refl

ghost_set_plain : Plain ghost_set_then
ghost_set_plain (SetGhost n g v) r = ghost_value_plain v r

name_or_null_plain : Plain name_or_null_then
name_or_null_plain None r = refl
name_or_null_plain (Some n) r = refl

argument_plain : Plain argument_then
argument_plain NoArgument r = refl
argument_plain NullArgument r = refl
argument_plain (NameArgument n) r = refl
argument_plain (ActiveArgument n) r = refl

parameters_plain : Plain parameters_then
parameters_plain [] r = refl
parameters_plain (n ∷ ns) r = names_plain n ns r

term_plain : Plain term_then
term_plain (PlaceTerm p) r = place_plain p r
term_plain (NullTerm at) r = refl
term_plain (NumberTerm n) r = refl
term_plain (MeTerm at) r = refl
term_plain (NoneTerm at) r = refl

bound_plain : Plain bound_then
bound_plain NoBound r = refl
bound_plain (AllOf n None) r = refl
bound_plain (AllOf n (Some m)) r = refl

-- ---- forms that may use them

-- the tokens of a tree use marks where this says so
abbrev Spells : {X : Type 0} → (X → Pieces → Pieces) → (X → Bool) → Type 0
Spells {X} x_then uses = (x : X) (r : Pieces) →
    tokens_use_marks (kinds_of (x_then x r)) ≡ (uses x || tokens_use_marks (kinds_of r))

-- two trees, one after the other
joined : (a b c d e : Bool) → c ≡ (a || d) → d ≡ (b || e) → c ≡ (a || b || e)
joined true b c d e p q = p
joined false b c d e p q = p ∙ q

each_spells : {X : Type 0} (x_then : X → Pieces → Pieces) (uses : X → Bool) → Spells x_then uses
    → Spells (each_then x_then) (list_any uses)
each_spells x_then uses one [] r = refl
each_spells x_then uses one (x ∷ xs) r =
    joined (uses x) (list_any uses xs) _ _ _ (one x (each_then x_then xs r)) (each_spells x_then uses one xs r)

-- a form at its place
placed_spells : {X : Type 0} (x_then : X → Pieces → Pieces) (uses : X → Bool) → Spells x_then uses
    → Spells (placed_then x_then) (λ x. uses x.value)
placed_spells x_then uses one x r = ap tokens_use_marks (from_kinds x.at (x_then x.value r)) ∙ one x.value r

value_spells : Spells value_then value_uses_marks
value_spells (MarkValue at n) r = refl
value_spells (UnmarkValue at n) r = refl
value_spells (NullValue at) r = refl
value_spells (NewValue at) r = refl
value_spells (NumberValue n) r = refl
value_spells (PlaceValue p) r = place_plain p r

set_spells : Spells set_then set_uses_marks
set_spells (SetName n v) r = value_spells v r
set_spells (SetField n f a) r = atom_plain a r

initial_spells : Spells initial_then initial_uses_marks
initial_spells (InitialSet s) r = set_spells s (symbol Semicolon ∷ r)
initial_spells (InitialGhost g) r = ghost_set_plain g (symbol Semicolon ∷ r)

init_spells : Spells (maybe_then init_then) init_uses_marks
init_spells None r = refl
init_spells (Some sets) r = each_spells (placed_then initial_then) (λ i. initial_uses_marks i.value)
    (placed_spells initial_then initial_uses_marks initial_spells) sets (symbol CloseBrace ∷ r)

test_spells : Spells test_then test_uses_marks
test_spells (MarkedTest n) r = refl
test_spells (UnmarkedTest n) r = refl
test_spells (Compares n c a) r = atom_plain a r

condition_spells : Spells condition_then condition_tree_uses_marks
condition_spells (TestCondition t) r = test_spells t r
condition_spells (RefreshCondition n p) r = place_plain p r
condition_spells (CasCondition true n old new) r = name_or_null_plain old _ ∙ name_or_null_plain new _
condition_spells (CasCondition false n old new) r = name_or_null_plain old _ ∙ name_or_null_plain new _

primitive_spells : Spells primitive_then primitive_uses_marks
primitive_spells (SetPrimitive s) r = set_spells s r
primitive_spells (RefreshPrimitive x) r = refresh_plain x r
primitive_spells (GhostPrimitive g) r = ghost_set_plain g r
primitive_spells (ActivePrimitive n) r = refl
primitive_spells (AssumePrimitive t) r = test_spells t r
primitive_spells SkipPrimitive r = refl

primitive_line_spells : Spells primitive_line_then primitive_uses_marks
primitive_line_spells p r = primitive_spells p (symbol Semicolon ∷ r)

mutual
  statement_spells : Spells statement_then statement_tree_uses_marks
  statement_spells (PrimitiveStatement p) r = primitive_spells p (symbol Semicolon ∷ r)
  statement_spells (AtomicStatement ps) r =
      each_spells (placed_then primitive_line_then) (λ p. primitive_uses_marks p.value)
      (placed_spells primitive_line_then primitive_uses_marks primitive_line_spells) ps (symbol CloseBrace ∷ r)
  statement_spells (CallStatement f a d) r =
      argument_plain a _ ∙ maybe_plain during_then (λ n rest. refl) d (symbol Semicolon ∷ r)
  statement_spells (IfStatement c b e) r =
      joined (condition_tree_uses_marks c || block_uses_marks b) (else_uses_marks e) _ _ _
      (joined (condition_tree_uses_marks c) (block_uses_marks b) _ _ _ (condition_spells c _) (block_spells b _))
      (else_spells e r)
  statement_spells (ChooseStatement a b os) r =
      joined (block_uses_marks a) (block_uses_marks b || or_uses_marks os) _ _ _ (block_spells a _)
      (joined (block_uses_marks b) (or_uses_marks os) _ _ _ (block_spells b _) (or_spells os r))
  statement_spells (LoopStatement b) r = block_spells b (symbol CloseBrace ∷ r)
  statement_spells BreakStatement r = refl
  statement_spells ReturnStatement r = refl
  statement_spells (LabelStatement n) r = refl

  block_spells : Spells statements_then block_uses_marks
  block_spells NoStatement r = refl
  block_spells (Then at s b) r =
      ap tokens_use_marks (from_kinds at (statement_then s (statements_then b r)))
      ∙ joined (statement_tree_uses_marks s) (block_uses_marks b) _ _ _ (statement_spells s _) (block_spells b r)

  else_spells : Spells else_then else_uses_marks
  else_spells NoElse r = refl
  else_spells (ElseBlock b) r = block_spells b (symbol CloseBrace ∷ r)

  or_spells : Spells or_then or_uses_marks
  or_spells NoOr r = refl
  or_spells (OrBlock b os) r =
      joined (block_uses_marks b) (or_uses_marks os) _ _ _ (block_spells b _) (or_spells os r)

op_spells : Spells op_then op_uses_marks
op_spells (Operates n ps locals b) r =
    parameters_plain ps _ ∙ (each_plain field_then field_plain locals _ ∙ block_spells b (symbol CloseBrace ∷ r))

flag_spells : Spells flag_then flag_uses_marks
flag_spells (RetiredFlag n) r = refl
flag_spells (MarkedFlag p) r = refl

literal_spells : Spells literal_then literal_tree_uses_marks
literal_spells (FlagLiteral f) r = flag_spells f r
literal_spells (NotLiteral f) r = flag_spells f r
literal_spells (EqualityLiteral a true b) r = term_plain a _ ∙ term_plain b r
literal_spells (EqualityLiteral a false b) r = term_plain a _ ∙ term_plain b r

or_literal_spells : Spells or_literal_then (λ l. literal_tree_uses_marks l.value)
or_literal_spells l r = placed_spells literal_then literal_tree_uses_marks literal_spells l r

clause_spells : Spells clause_then clause_tree_uses_marks
clause_spells (Claims b l ls) r =
    bound_plain b _ ∙ joined (literal_tree_uses_marks l) (list_any (λ l. literal_tree_uses_marks l.value) ls) _ _ _
    (literal_spells l _) (each_spells or_literal_then (λ l. literal_tree_uses_marks l.value) or_literal_spells ls r)

item_spells : Spells item_then item_tree_uses_marks
item_spells (InvariantItem c) r = clause_spells c (symbol Semicolon ∷ r)
item_spells (OverItem n c) r = clause_spells c (symbol Semicolon ∷ r)
item_spells (AtItem n ns c) r = names_plain n ns _ ∙ clause_spells c (symbol Semicolon ∷ r)

outline_spells : Spells outline_then outline_tree_uses_marks
outline_spells (Outlined d items) r = maybe_plain depth_then (λ n rest. refl) d _
    ∙ each_spells item_then item_tree_uses_marks item_spells items (symbol CloseBrace ∷ r)

outlined_spells : Spells (maybe_then outline_then) outlined_uses_marks
outlined_spells None r = refl
outlined_spells (Some o) r = outline_spells o r

-- nothing comes after a file
ends : (b : Bool) → (b || false) ≡ b
ends true = refl
ends false = refl

pub marks_spelled : TreesSpellTheirMarks
marks_spelled f =
    each_plain field_then field_plain f.fields _
    ∙ (each_plain shared_then (λ n rest. refl) f.pointers _
    ∙ (each_plain function_then function_plain f.functions _
    ∙ (maybe_plain watch_then watch_plain f.watched _
    ∙ (each_plain ghost_then ghost_plain f.ghosts _
    ∙ (joined (init_uses_marks f.starts || list_any (λ o. op_uses_marks o.value) f.ops)
    (outlined_uses_marks f.outlined) _ _ _
    (joined (init_uses_marks f.starts) (list_any (λ o. op_uses_marks o.value) f.ops) _ _ _ (init_spells f.starts _)
    (each_spells (placed_then op_then) (λ o. op_uses_marks o.value)
    (placed_spells op_then op_uses_marks op_spells) f.ops _))
    (outlined_spells f.outlined [])
    ∙ ends (file_tree_uses_marks f))))))
