-- Words of private functions: what is due next while claims are read, which tokens may follow then, and what the tables
-- of names answer.
use Rattle.std.specs.Prelude.{◌≡◌, ◌<◌, ℕ, List, [], ◌∷◌, ◌++◌, length, map, fold, get_or, slice_get}
use Rattle.std.specs.Prelude.{Option, Some, None, All, count_by}
use Rattle.plc_base.specs.Mask.{single, union}
use Rattle.plc_lex.specs.declared.token.TokenKind.{TokenKind}
use Rattle.plc_lex.specs.declared.token.TokenKind.TheVariants.{Word, Name, Symbol}
use Rattle.plc_lex.specs.declared.token.Keyword.TheVariants.{At}
use Rattle.plc_lex.specs.declared.token.Symbol.TheVariants.{OpenBrace, CloseBrace, Dot}
use Rattle.plc_lang.specs.declared.syntax.Local.{Local}
use Rattle.plc_lang.specs.declared.syntax.File.{File}
use Rattle.plc_lang.specs.Labels.{labels_by_op, op_of_label}
use Rattle.plc_lang.specs.Locals.{is_pointer}
use Rattle.plc_lang.specs.Names.{label_name, pointer_name}
use Rattle.plc_flow.specs.declared.flow.Flow.{Flow}
use Rattle.plc_auto.specs.declared.observer.Observer.{Observer}
use Rattle.plc_auto.specs.Table.{names_of, count_of}
use Rattle.plc_at.specs.declared.claim.LocationClaim.{LocationClaim}
use Rattle.plc_at.specs.declared.reading.Due.{Due}
use Rattle.plc_at.specs.declared.reading.Due.TheVariants as due
use Rattle.plc_at.specs.Claims.{locals_by_label, pointers_by_label, Written, NamesWhatIsThere, before_dot, after_dot}
use Rattle.plc_at.specs.Claims.{each_then, location_then, claims_tokens, located, SpellClaims, ClaimFits}

-- ---- tables of names

-- these are the operations of so many labels
pub record AreOpsAmong (by_op : List (List ℕ)) (labels : ℕ) (ops : List (Option ℕ)) : Type 0 where
  pub count : length ops ≡ labels
  pub each : (l : ℕ) → l < labels → slice_get ops l ≡ Some (op_of_label by_op l)

-- the operations of all labels
abbrev pub AreOps : Flow → List (Option ℕ) → Type 0
AreOps flow ops = AreOpsAmong (labels_by_op flow.file.ops) (length flow.file.labels) ops

-- a label of the file, and a pointer local of its operation
pub record IsPointerAt (flow : Flow) (label local : ℕ) : Type 0 where
  pub label_there : label < length flow.file.labels
  pub local_there : local < pointers_by_label flow label

-- a pointer local of this name
pub record IsLocalNamed (file : File) (locals : List Local) (name : List ℕ) (local : ℕ) : Type 0 where
  pub there : local < count_by is_pointer locals
  pub named : pointer_name file locals local ≡ name

-- a label of this name whose operation has a pointer local
pub record IsLabelNamed (flow : Flow) (name : List ℕ) (label : ℕ) : Type 0 where
  pub there : IsPointerAt flow label 0
  pub named : label_name flow.file label ≡ name

-- a label and a pointer local of its operation that have these names
pub record AreNamed (flow : Flow) (label_text local_text : List ℕ) (label local : ℕ) : Type 0 where
  pub there : IsPointerAt flow label local
  pub label_named : label_name flow.file label ≡ label_text
  pub local_named : pointer_name flow.file (locals_by_label flow label) local ≡ local_text

-- the name of a location
abbrev pub location_name : Observer → ℕ → List ℕ
location_name o l = get_or (names_of o) l []

-- a location whose name begins with this part
pub record BeginsWith (o : Observer) (first : List ℕ) (l : ℕ) : Type 0 where
  pub there : l < count_of o
  pub begins : before_dot (location_name o l) ≡ first

-- a location whose name is these two parts with a dot between
pub record HasParts (o : Observer) (first second : List ℕ) (l : ℕ) : Type 0 where
  pub front : BeginsWith o first l
  pub back : after_dot (location_name o l) ≡ Some second

-- ---- what may follow

-- a claim of one more location
abbrev pub with_location : LocationClaim → ℕ → LocationClaim
with_location c l = record { label = c.label; local = c.local; set = union c.set (single l) }

-- a claim of several more locations
abbrev pub with_locations : LocationClaim → List ℕ → LocationClaim
with_locations c locations =
    record { label = c.label; local = c.local; set = fold (λ set l. union set (single l)) c.set locations }

-- tokens end the claim whose braces are open, and then spell claims
pub record EndClaim (flow : Flow) (o : Observer) (c : LocationClaim) (ts : List TokenKind) (claims : List LocationClaim)
    : Type 0 where
  pub locations : List ℕ
  pub are_there : All (λ l. l < count_of o) locations
  pub written : List Written
  pub there : All (NamesWhatIsThere flow o) written
  pub tokens : ts ≡ each_then (location_then o) locations (Symbol CloseBrace ∷ claims_tokens flow o written)
  pub claims_are : claims ≡ with_locations c locations ∷ map located written

-- an opening brace is before these tokens
pub record OpenClaim
    (flow : Flow) (o : Observer) (c : LocationClaim) (ts : List TokenKind) (claims : List LocationClaim)
    : Type 0 where
  pub after : List TokenKind
  pub tokens : ts ≡ Symbol OpenBrace ∷ after
  pub ends : EndClaim flow o c after claims

-- tokens may follow where this is due, and spell these claims with what stands before them
abbrev pub MayFollow : Flow → Observer → Due → List TokenKind → List LocationClaim → Type 0
MayFollow flow o (due.Claim last) ts claims = SpellClaims flow o ts claims
MayFollow flow o due.Label ts claims = SpellClaims flow o (Word At ∷ ts) claims
MayFollow flow o (due.Local l) ts claims = SpellClaims flow o (Word At ∷ Name (label_name flow.file l) ∷ ts) claims
MayFollow flow o (due.Opening c) ts claims = OpenClaim flow o c ts claims
MayFollow flow o (due.Location c) ts claims = EndClaim flow o c ts claims
MayFollow flow o (due.Dot c l) ts claims = EndClaim flow o c (Name (before_dot (location_name o l)) ∷ ts) claims
MayFollow flow o (due.Part c l) ts claims =
    EndClaim flow o c (Name (before_dot (location_name o l)) ∷ Symbol Dot ∷ ts) claims

-- some tokens may
abbrev pub MayGoOn : Flow → Observer → Due → List TokenKind → Type 0
MayGoOn flow o d ts = (claims : List LocationClaim) × MayFollow flow o d ts claims

-- a location whose name has a second part
pub record HasSecondPart (o : Observer) (l : ℕ) : Type 0 where
  pub there : l < count_of o
  pub second : List ℕ
  pub parts : after_dot (location_name o l) ≡ Some second

-- some label's operation has a pointer local
abbrev pub HasPointers : Flow → Type 0
HasPointers flow = (label : ℕ) × IsPointerAt flow label 0

-- what is due names what is there
abbrev pub DueFits : Flow → Observer → Due → Type 0
DueFits flow o (due.Claim last) = Unit {0}
DueFits flow o due.Label = HasPointers flow
DueFits flow o (due.Local l) = IsPointerAt flow l 0
DueFits flow o (due.Opening c) = ClaimFits flow c
DueFits flow o (due.Location c) = ClaimFits flow c
DueFits flow o (due.Dot c l) = ClaimFits flow c × HasSecondPart o l
DueFits flow o (due.Part c l) = ClaimFits flow c × HasSecondPart o l

-- ---- steps

-- the claim that has just ended, if one has
abbrev pub ended : Due → List LocationClaim
ended (due.Claim None) = []
ended (due.Claim (Some c)) = c ∷ []
ended due.Label = []
ended (due.Local l) = []
ended (due.Opening c) = []
ended (due.Location c) = []
ended (due.Dot c l) = []
ended (due.Part c l) = []

-- after a token something else is due, and just that may follow which might have followed it
pub record Advances (flow : Flow) (o : Observer) (d : Due) (t : TokenKind) (next : Due) : Type 0 where
  pub fits : DueFits flow o next
  pub spells : (ts : List TokenKind) (claims : List LocationClaim) → MayFollow flow o next ts claims
      → MayFollow flow o d (t ∷ ts) (ended next ++ claims)
  pub goes_on : (ts : List TokenKind) → MayGoOn flow o d (t ∷ ts) → MayGoOn flow o next ts

-- the answer to a token: what is due next, or that it can't follow
abbrev pub IsStep : Flow → Observer → Due → TokenKind → Option Due → Type 0
IsStep flow o d t None = (ts : List TokenKind) → MayGoOn flow o d (t ∷ ts) → ⊥
IsStep flow o d t (Some next) = Advances flow o d t next

-- a claim is due
abbrev pub IsClaim : Due → Type 0
IsClaim d = (last : Option LocationClaim) × (d ≡ due.Claim last)
