-- What the trees of an outline mean. Names are looked up from left to right, and a fault is told at the name, word or
-- number that is at fault, so the first fault is the one at the least token.
use Rattle.std.specs.Prelude.{◌==◌, ◌||◌, ℕ, Bool, true, false, if◌then◌else◌, List, [], ◌∷◌, ◌++◌, length, Option}
use Rattle.std.specs.Prelude.{Some, None, Result, Ok, Err}
use Rattle.std.specs.List.{position_from}
use Rattle.plc_base.specs.Names.{NameList, place_of}
use Rattle.plc_base.specs.declared.limits.What1.TheVariants as limits
use Rattle.plc_base.specs.Limits.{most_bound}
use Rattle.plc_lang.specs.declared.syntax.Local.{Local}
use Rattle.plc_lang.specs.declared.syntax.Op.{Op}
use Rattle.plc_lang.specs.Locals.{locals_of}
use Rattle.plc_syntax.specs.Trees.{Text, Placed, PlaceTree, PlaceOf, TermTree, PlaceTerm, NullTerm, NumberTerm, MeTerm}
use Rattle.plc_syntax.specs.Trees.{NoneTerm, FlagTree, RetiredFlag, MarkedFlag, LiteralTree, FlagLiteral, NotLiteral}
use Rattle.plc_syntax.specs.Trees.{EqualityLiteral, BoundTree, NoBound, AllOf, ClauseTree, Claims, ItemTree}
use Rattle.plc_syntax.specs.Trees.{InvariantItem, OverItem, AtItem, OutlineTree, Outlined}
use Rattle.plc_scope.specs.declared.fault.ParseFault.{ParseFault}
use Rattle.plc_scope.specs.declared.fault.ParseFault.TheVariants as faults
use Rattle.plc_scope.specs.declared.scope.Scope.{Scope}
use Rattle.plc_scope.specs.Limits.{within_limit, stands_at}
use Rattle.plc_scope.specs.Scope.{◌>>=◌, known, if_fits, if_new, with_last}
use Rattle.plc_logic.specs.declared.clause.Base.{Base}
use Rattle.plc_logic.specs.declared.clause.Term.{Term}
use Rattle.plc_logic.specs.declared.clause.Term.TheVariants as terms
use Rattle.plc_logic.specs.declared.clause.Literal.{Literal}
use Rattle.plc_logic.specs.declared.clause.Literal.TheVariants.{Same, Retired, Marked}
use Rattle.plc_logic.specs.declared.clause.Clause.{Clause}
use Rattle.plc_logic.specs.declared.clause.Site.TheVariants.{Over, At}
use Rattle.plc_logic.specs.declared.clause.Item.{Item}
use Rattle.plc_logic.specs.declared.clause.Outline.{Outline}
use Rattle.plc_logic.specs.declared.clause.Sort.{Sort}
use Rattle.plc_logic.specs.declared.clause.Sort.TheVariants as sorts
use Rattle.plc_logic.specs.Sorts.{same_sort}
use Rattle.plc_outparse.specs.declared.kind.Kind.{Kind}
use Rattle.plc_outparse.specs.Reach.{Reach, declared_kind, kind_at, base_at, as_term, as_field, as_pointer}
use Rattle.plc_outparse.specs.Reach.{as_pointer_field}
use Rattle.plc_lang.specs.Labels.{labels_by_op, op_of_label}

-- parts in order, each added to what was made of those before
abbrev pub in_turn : {S X : Type 0} → (S → X → Result S ParseFault) → S → List X → Result S ParseFault
in_turn step s [] = Ok s
in_turn step s (x ∷ xs) = step s x >>= λ t. in_turn step t xs

-- ---- terms

-- what is wanted of a name alone, or of a field of a base
abbrev pub wanted_of : {A : Type 0} → Reach → (Kind → Option A) → (Base → Kind → Option A) → PlaceTree
    → Result A ParseFault
wanted_of r alone after (PlaceOf n None) = kind_at r n >>= λ k. if_fits n.at (alone k)
wanted_of r alone after (PlaceOf n (Some f)) = do
  b ← base_at r n
  k ← kind_at r f
  if_fits f.at (after b k)

-- the thread that is in the operation, which an invariant lacks
abbrev pub me_means : Bool → ℕ → Result (Term × Sort) ParseFault
me_means true at = Ok (terms.Me, sorts.Thread)
me_means false at = Err (faults.WrongSort at)

-- a term with its sort
unfoldable pub term_means : Reach → TermTree → Result (Term × Sort) ParseFault
term_means r (PlaceTerm p) = wanted_of r as_term as_field p
term_means r (NullTerm at) = Ok (terms.Null, sorts.Node)
term_means r (NumberTerm n) = Ok (terms.Number n.value, sorts.Number)
term_means r (MeTerm at) = me_means r.in_operation at
term_means r (NoneTerm at) = Ok (terms.Nobody, sorts.Thread)

-- the token by which a term has its sort: the name after the dot, else the first
abbrev pub sort_place : TermTree → ℕ
sort_place (PlaceTerm (PlaceOf n None)) = n.at
sort_place (PlaceTerm (PlaceOf n (Some f))) = f.at
sort_place (NullTerm at) = at
sort_place (NumberTerm n) = n.at
sort_place (MeTerm at) = at
sort_place (NoneTerm at) = at

-- a term of the wanted sort
abbrev pub if_same_sort : Sort → TermTree → Term × Sort → Result Term ParseFault
if_same_sort wanted tree t = if same_sort t.1 wanted then Ok t.0 else Err (faults.WrongSort (sort_place tree))

-- the second term of a literal has the sort of the first
unfoldable pub second_means : Reach → Sort → TermTree → Result Term ParseFault
second_means r wanted t = term_means r t >>= λ b. if_same_sort wanted t b

-- ---- literals

-- a place that holds a pointer: a shared pointer or a pointer local, or a pointer field of a base
abbrev pub pointer_means : Reach → PlaceTree → Result Term ParseFault
pointer_means r p = wanted_of r as_pointer as_pointer_field p

-- a base, or a place that has a mark
abbrev pub flag_means : Reach → Bool → FlagTree → Result Literal ParseFault
flag_means r is_so (RetiredFlag n) = base_at r n >>= λ b. Ok (Retired b is_so)
flag_means r is_so (MarkedFlag p) = pointer_means r p >>= λ t. Ok (Marked t is_so)

-- the sides from left to right
unfoldable pub literal_means : Reach → LiteralTree → Result Literal ParseFault
literal_means r (FlagLiteral f) = flag_means r true f
literal_means r (NotLiteral f) = flag_means r false f
literal_means r (EqualityLiteral a is_equal b) = do
  x ← term_means r a
  y ← second_means r x.1 b
  Ok (Same x.0 y is_equal)

-- a literal at a place, with n before it; past the limit only a fault of its first token goes first
abbrev pub counted : ℕ → ℕ → Result Literal ParseFault → Result Literal ParseFault
counted n at (Ok l) = within_limit n limits.Literals (Ok l)
counted n at (Err e) = if stands_at at e then Err e else within_limit n limits.Literals (Err e)

-- a further literal after those so far
unfoldable pub literal_step : Reach → List Literal → Placed LiteralTree → Result (List Literal) ParseFault
literal_step r ls l = counted (length ls) l.at (literal_means r l.value) >>= λ x. Ok (ls ++ x ∷ [])

-- ---- clauses

-- no quantified names yet
abbrev pub none_bound : NameList
none_bound = record { names = []; limit = most_bound }

-- a name that has no declaration in reach
abbrev pub if_free : {A : Type 0} → ℕ → Option Kind → Result A ParseFault → Result A ParseFault
if_free at None next = next
if_free at (Some k) next = Err (faults.Duplicate at)

-- a quantified name differs from all names in reach and from the one before it
unfoldable pub bound_with : Scope → List Local → NameList → Placed Text → Result NameList ParseFault
bound_with s ls bound n = if_free n.at (declared_kind s ls n.value)
    (if_new (place_of n.value bound.names) n.at (with_last bound n.value))

-- the second name, if there is one
abbrev pub second_bound : Scope → List Local → NameList → Option (Placed Text) → Result NameList ParseFault
second_bound s ls bound None = Ok bound
second_bound s ls bound (Some m) = bound_with s ls bound m

-- the quantified names of a clause
unfoldable pub bound_means : Scope → List Local → BoundTree → Result NameList ParseFault
bound_means s ls NoBound = Ok none_bound
bound_means s ls (AllOf n m) = bound_with s ls none_bound n >>= λ first. second_bound s ls first m

-- what stands in a clause of an operation or of an invariant, under these quantified names
abbrev pub reach : Scope → List Local → Bool → NameList → Reach
reach s ls in_operation bound = record { scope = s; locals = ls; in_operation = in_operation; bound = bound }

-- the literals under their quantified names
unfoldable pub clause_means : Scope → List Local → Bool → ClauseTree → Result Clause ParseFault
clause_means s ls in_operation (Claims b l others) = do
  bound ← bound_means s ls b
  first ← literal_means (reach s ls in_operation bound) l
  all ← in_turn (literal_step (reach s ls in_operation bound)) (first ∷ []) others
  Ok (record { bound = bound; literals = all })

-- ---- sites

-- the operation with a name's number
abbrev pub op_named : List Op → Option ℕ → Option ℕ
op_named ops None = None
op_named ops (Some i) = position_from (λ (o : Op). o.name == i) 0 ops

-- the operation that a name is; no local is in reach there
unfoldable pub op_at : Scope → List Op → Placed Text → Result ℕ ParseFault
op_at s ops n =
    known n.at (declared_kind s [] n.value) >>= λ k. if_fits n.at (op_named ops (place_of n.value s.names.names))

-- the label with a name's number
abbrev pub label_named : List ℕ → Option ℕ → Option ℕ
label_named labels None = None
label_named labels (Some i) = position_from (λ (n : ℕ). n == i) 0 labels

-- a label and the operation in which it stands
abbrev pub with_op : List (List ℕ) → ℕ → ℕ → Result (ℕ × ℕ) ParseFault
with_op by_op at label = if_fits at (op_of_label by_op label) >>= λ o. Ok (label, o)

-- the label that a name is, with its operation
unfoldable pub label_at : Scope → List (List ℕ) → Placed Text → Result (ℕ × ℕ) ParseFault
label_at s by_op n = do
  k ← known n.at (declared_kind s [] n.value)
  l ← if_fits n.at (label_named s.labels (place_of n.value s.names.names))
  with_op by_op n.at l

-- a label of the same operation
abbrev pub if_same_op : ℕ → ℕ → ℕ × ℕ → Result ℕ ParseFault
if_same_op o at l = if l.1 == o then Ok l.0 else Err (faults.WrongSort at)

-- a further label after those so far stands in the operation of the first
unfoldable pub label_step : Scope → List (List ℕ) → ℕ → List ℕ → Placed Text → Result (List ℕ) ParseFault
label_step s by_op o labels n = do
  l ← label_at s by_op n
  k ← if_same_op o n.at l
  Ok (labels ++ k ∷ [])

-- labels, with the operation in which all of them stand
unfoldable pub labels_mean : Scope → List (List ℕ) → Placed Text → List (Placed Text) → Result (List ℕ × ℕ) ParseFault
labels_mean s by_op n names = do
  l ← label_at s by_op n
  ls ← in_turn (label_step s by_op l.1) (l.0 ∷ []) names
  Ok (ls, l.1)

-- ---- items and the outline

-- the invariants and the other items so far
abbrev pub Parts : Type 0
Parts = List Clause × List Item

-- an item with those before it; an invariant names no local and no thread
unfoldable pub item_step : Scope → List Op → List (List ℕ) → Parts → ItemTree → Result Parts ParseFault
item_step s ops by_op st (InvariantItem c) = within_limit (length st.0) limits.Invariants (do
  k ← clause_means s [] false c
  Ok (st.0 ++ k ∷ [], st.1))
item_step s ops by_op st (OverItem name c) = within_limit (length st.1) limits.Items (do
  o ← op_at s ops name
  k ← clause_means s (locals_of ops o) true c
  Ok (st.0, st.1 ++ record { site = Over (record { 0 = o }); clause = k } ∷ []))
item_step s ops by_op st (AtItem name names c) = within_limit (length st.1) limits.Items (do
  ls ← labels_mean s by_op name names
  k ← clause_means s (locals_of ops ls.1) true c
  Ok (st.0, st.1 ++ record { site = At ls.0; clause = k } ∷ []))

-- 0 where it is left out
abbrev pub depth_means : Option (Placed ℕ) → Result ℕ ParseFault
depth_means None = Ok 0
depth_means (Some d) = if d.value == 0 || d.value == 1 then Ok d.value else Err (faults.WrongSort d.at)

-- the parts of an outline in order
unfoldable pub outline_means : Scope → List Op → OutlineTree → Result Outline ParseFault
outline_means s ops (Outlined d items) = do
  depth ← depth_means d
  all ← in_turn (item_step s ops (labels_by_op ops)) ([], []) items
  Ok (record { depth = depth; invariants = all.0; items = all.1 })
