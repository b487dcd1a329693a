-- The text of a file whose outline doesn't hold: the obligation, then each term of its ground set with its class. Each
-- line ends with a line feed.
use Rattle.std.specs.Prelude.{ℕ, ◌+◌, List, [], ◌∷◌, ◌++◌, Option}
use Rattle.std.specs.Prelude.{Some, None, fold, get_or, slice_get, codes, decimal}
use Rattle.plc_lang.specs.declared.syntax.Local.{Local}
use Rattle.plc_lang.specs.declared.syntax.File.{File}
use Rattle.plc_lang.specs.Names.{auxiliary_name, field_name, local_name, operation_name, shared_name, value_name}
use Rattle.plc_lang.specs.Numbering.{value_at}
use Rattle.plc_flow.specs.declared.flow.Flow.{Flow}
use Rattle.plc_ground.specs.declared.terms.Symbol.{Symbol}
use Rattle.plc_ground.specs.declared.terms.Symbol.TheVariants.{Null, Shared, Mine, Theirs, New, Bound, Loaded}
use Rattle.plc_ground.specs.declared.terms.Symbol.TheVariants.{Yes, No, Nobody, Me, You, Value, Number}
use Rattle.plc_ground.specs.declared.terms.Symbol.TheVariants.{MarkShared, MarkMine, MarkTheirs, MarkLoaded}
use Rattle.plc_ground.specs.declared.terms.Map.{Map}
use Rattle.plc_ground.specs.declared.terms.Map.TheVariants.{Field, Ghost, Retired, FieldMark}
use Rattle.plc_ground.specs.declared.terms.GroundTerm.{GroundTerm}
use Rattle.plc_ground.specs.declared.terms.GroundTerm.TheVariants.{Const, App}
use Rattle.plc_ground.specs.declared.terms.GroundSet.{GroundSet}
use Rattle.plc_vocabulary.specs.declared.obligations.Obligation.{Obligation}
use Rattle.plc_vocabulary.specs.declared.obligations.Obligation.TheVariants.{Start, Enter, Own, Other, Claim}
use Rattle.plc_vocabulary.specs.Parts.{acting_locals, owner_locals}
use Rattle.plc_answers.specs.Steps.{step_line}

-- ---- the obligation

-- S line N
abbrev pub step_text : Flow → ℕ → List ℕ
step_text flow k = decimal k ++ codes " line " ++ decimal (step_line (slice_get flow.steps k))

-- S prim K line N
abbrev pub claim_text : Flow → ℕ → ℕ → List ℕ
claim_text flow k i =
    decimal k ++ codes " prim " ++ decimal i ++ codes " line " ++ decimal (step_line (slice_get flow.steps k))

-- start clause C; enter OP clause C; own step S line N clause C; other step S line N point P clause C; claim step S
-- prim K line N
abbrev pub obligation_text : Flow → Obligation → List ℕ
obligation_text flow (Start c) = codes "start clause " ++ decimal c
obligation_text flow (Enter o c) = codes "enter " ++ operation_name flow.file o ++ codes " clause " ++ decimal c
obligation_text flow (Own k c) = codes "own step " ++ step_text flow k.0 ++ codes " clause " ++ decimal c
obligation_text flow (Other k p c) =
    codes "other step " ++ step_text flow k.0 ++ codes " point " ++ decimal p.0 ++ codes " clause " ++ decimal c
obligation_text flow (Claim k i) = codes "claim step " ++ claim_text flow k.0 i

-- ---- terms, where the locals of the acting thread and those of the owner are told

-- a value by its field and its number there
abbrev pub value_in : File → Option (ℕ × ℕ) → List ℕ
value_in file None = []
value_in file (Some v) = value_name file v.0 v.1

-- mark(TEXT)
abbrev pub mark_text : List ℕ → List ℕ
mark_text text = codes "mark(" ++ text ++ codes ")"

-- a constant; that of a mark has the text of the pointer's constant within
abbrev pub symbol_text : File → List Local → List Local → Symbol → List ℕ
symbol_text file mine theirs Null = codes "null"
symbol_text file mine theirs (Shared i) = codes "s:" ++ shared_name file i
symbol_text file mine theirs (Mine v) = codes "a:" ++ local_name file mine v
symbol_text file mine theirs (Theirs v) = codes "b:" ++ local_name file theirs v
symbol_text file mine theirs New = codes "new"
symbol_text file mine theirs (Bound c) = codes "c" ++ decimal c
symbol_text file mine theirs (Loaded r) = codes "r" ++ decimal r
symbol_text file mine theirs Yes = codes "yes"
symbol_text file mine theirs No = codes "no"
symbol_text file mine theirs Nobody = codes "none"
symbol_text file mine theirs Me = codes "me"
symbol_text file mine theirs You = codes "you"
symbol_text file mine theirs (Value v) = value_in file (value_at file.ghosts v)
symbol_text file mine theirs (Number n) = decimal n
symbol_text file mine theirs (MarkShared i) = mark_text (codes "s:" ++ shared_name file i)
symbol_text file mine theirs (MarkMine v) = mark_text (codes "a:" ++ local_name file mine v)
symbol_text file mine theirs (MarkTheirs v) = mark_text (codes "b:" ++ local_name file theirs v)
symbol_text file mine theirs (MarkLoaded r) = mark_text (codes "r" ++ decimal r)

-- NAME, and NAME.mark for the mark in a field
abbrev pub map_name : File → Map → List ℕ
map_name file (Field f) = field_name file f
map_name file (Ghost g) = auxiliary_name file g
map_name file Retired = codes "retired"
map_name file (FieldMark f) = field_name file f ++ codes ".mark"

-- a constant, or NAME.v(TEXT), where the texts of the terms before are these
abbrev pub term_text : File → List Local → List Local → List (List ℕ) → GroundTerm → List ℕ
term_text file mine theirs before (Const s) = symbol_text file mine theirs s
term_text file mine theirs before (App m v a) =
    map_name file m ++ codes "." ++ decimal v ++ codes "(" ++ get_or before a [] ++ codes ")"

-- the texts of terms in order, each from those of the terms before it, among which its argument stands
abbrev pub term_texts : File → List Local → List Local → List GroundTerm → List (List ℕ)
term_texts file mine theirs terms = fold (λ before t. before ++ term_text file mine theirs before t ∷ []) [] terms

-- ---- the whole text

-- term I TEXT class C
abbrev pub term_line : ℕ → List ℕ → ℕ → List ℕ
term_line i text class =
    codes "term " ++ decimal i ++ codes " " ++ text ++ codes " class " ++ decimal class ++ codes "\n"

-- a line for each term that has a class, from term i on
abbrev pub term_lines : ℕ → List (List ℕ) → List ℕ → List ℕ
term_lines i (t ∷ ts) (c ∷ cs) = term_line i t c ++ term_lines (i + 1) ts cs
term_lines i [] cs = []
term_lines i (t ∷ ts) [] = []

-- the obligation's line, then those of the terms
abbrev pub unproved_text : Flow → Obligation → GroundSet → List ℕ → List ℕ
unproved_text flow o set class =
    codes "unproved " ++ obligation_text flow o ++ codes "\n"
    ++ term_lines 0 (term_texts flow.file (acting_locals flow o) (owner_locals flow o) set.terms) class
