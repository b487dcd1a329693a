-- Lists of location claims, as tokens spell them for a file: { "at" LABEL VAR "{" { LOC }* "}" }*, where LOC is
-- NAME [ "." NAME ]. A LABEL is a label of the file, a VAR a pointer local of the label's operation, and a LOC the name
-- of a location of the file's observer.
use Rattle.std.specs.Prelude.{◌≡◌, ◌==◌, ℕ, ◌+◌, ◌<◌, ◌≤◌, if◌then◌else◌, List, [], ◌∷◌, ◌++◌, length, map, take, fold}
use Rattle.std.specs.Prelude.{Option, Some, None, All, count_by, get_or}
use Rattle.plc_base.specs.Mask.{no_members, single, union}
use Rattle.plc_lex.specs.declared.token.TokenKind.{TokenKind}
use Rattle.plc_lex.specs.declared.token.TokenKind.TheVariants.{Word, Name, Symbol}
use Rattle.plc_lex.specs.declared.token.Keyword.TheVariants.{At}
use Rattle.plc_lex.specs.declared.token.Symbol.TheVariants.{OpenBrace, CloseBrace, Dot}
use Rattle.plc_lang.specs.declared.syntax.Local.{Local}
use Rattle.plc_lang.specs.Labels.{labels_by_op, op_of_label}
use Rattle.plc_lang.specs.Locals.{is_pointer, locals_of}
use Rattle.plc_lang.specs.Names.{label_name, pointer_name}
use Rattle.plc_flow.specs.declared.flow.Flow.{Flow}
use Rattle.plc_auto.specs.declared.observer.Observer.{Observer}
use Rattle.plc_auto.specs.Table.{names_of, count_of}
use Rattle.plc_at.specs.declared.claim.LocationClaim.{LocationClaim}

-- ---- what a claim may name

-- the locals of an operation, if there is one
abbrev pub locals_or_none : Flow → Option ℕ → List Local
locals_or_none flow None = []
locals_or_none flow (Some op) = locals_of flow.file.ops op

-- the locals of the operation in which a label stands
unfoldable pub locals_by_label : Flow → ℕ → List Local
locals_by_label flow label = locals_or_none flow (op_of_label (labels_by_op flow.file.ops) label)

-- how many of them are pointers, by whose numbers claims count
abbrev pub pointers_by_label : Flow → ℕ → ℕ
pointers_by_label flow label = count_by is_pointer (locals_by_label flow label)

-- a claim in the text: the number of its label, that of its pointer local, and those of its locations as they follow
pub record Written : Type 0 where
  pub label : ℕ
  pub local : ℕ
  pub locations : List ℕ

-- the label, the local and the locations that it names exist
pub record NamesWhatIsThere (flow : Flow) (o : Observer) (c : Written) : Type 0 where
  pub label : c.label < length flow.file.labels
  pub local : c.local < pointers_by_label flow c.label
  pub locations : All (λ l. l < count_of o) c.locations

-- ---- its tokens

-- the part of a name before its first dot
abbrev pub before_dot : List ℕ → List ℕ
before_dot [] = []
before_dot (b ∷ bs) = if b == 46 then [] else b ∷ before_dot bs

-- the part after it, if it has one
abbrev pub after_dot : List ℕ → Option (List ℕ)
after_dot [] = None
after_dot (b ∷ bs) = if b == 46 then Some bs else after_dot bs

-- { x }*
abbrev pub each_then : {A : Type 0} → (A → List TokenKind → List TokenKind) → List A → List TokenKind → List TokenKind
each_then x_then [] rest = rest
each_then x_then (x ∷ xs) rest = x_then x (each_then x_then xs rest)

-- [ "." NAME ]
abbrev pub dot_then : Option (List ℕ) → List TokenKind → List TokenKind
dot_then None rest = rest
dot_then (Some name) rest = Symbol Dot ∷ Name name ∷ rest

-- LOC := NAME [ "." NAME ], the name of a location
abbrev pub location_then : Observer → ℕ → List TokenKind → List TokenKind
location_then o l rest =
    let name = get_or (names_of o) l [] in Name (before_dot name) ∷ dot_then (after_dot name) rest

-- "at" LABEL VAR "{" { LOC }* "}"
abbrev pub claim_then : Flow → Observer → Written → List TokenKind → List TokenKind
claim_then flow o c rest =
    Word At ∷ Name (label_name flow.file c.label)
    ∷ Name (pointer_name flow.file (locals_by_label flow c.label) c.local)
    ∷ Symbol OpenBrace ∷ each_then (location_then o) c.locations (Symbol CloseBrace ∷ rest)

-- { claim }*
abbrev pub claims_tokens : Flow → Observer → List Written → List TokenKind
claims_tokens flow o cs = each_then (claim_then flow o) cs []

-- ---- what they stand for

-- a set of locations
abbrev pub set_of : List ℕ → ℕ
set_of locations = fold (λ set l. union set (single l)) no_members locations

-- a claim
abbrev pub located : Written → LocationClaim
located c = record { label = c.label; local = c.local; set = set_of c.locations }

-- the tokens spell these claims
pub record SpellClaims (flow : Flow) (o : Observer) (ts : List TokenKind) (claims : List LocationClaim) : Type 0 where
  pub written : List Written
  pub there : All (NamesWhatIsThere flow o) written
  pub tokens : ts ≡ claims_tokens flow o written
  pub claims_are : claims ≡ map located written

-- some list of claims begins with these tokens
abbrev pub BeginClaims : Flow → Observer → List TokenKind → Type 0
BeginClaims flow o ts = (rest : List TokenKind) × (claims : List LocationClaim) × SpellClaims flow o (ts ++ rest) claims

-- the least place with whose token no list of claims begins any more, or the end where the tokens begin one and are
-- none
pub record ClaimsStopAt (flow : Flow) (o : Observer) (ts : List TokenKind) (place : ℕ) : Type 0 where
  pub within : place ≤ length ts
  pub goes_on : BeginClaims flow o (take place ts)
  pub stops : place < length ts → BeginClaims flow o (take (place + 1) ts) → ⊥
  pub unfinished : place ≡ length ts → (claims : List LocationClaim) → SpellClaims flow o ts claims → ⊥

-- ---- what follows of claims that were read

-- its label and its pointer local exist
pub record ClaimFits (flow : Flow) (c : LocationClaim) : Type 0 where
  pub label : c.label < length flow.file.labels
  pub local : c.local < pointers_by_label flow c.label
