-- A unit that was read from a text is read again from its canonical text, if the text of tokens spells those tokens.
use Rattle.std.proofs.Common.{◌≡◌, ℕ, List, [], length, Result, Ok, Err, refl, sym, ap, ◌∙◌, subst, arith}
use Rattle.std.specs.List.{AllByRecursion}
use Rattle.std.proofs.lemmas.List.Elements.{recursion_from_All, All-map, All-weaker}
use Rattle.plc_lex.specs.declared.token.Token.{Token}
use Rattle.plc_lex.specs.Spelling.{Spells}
use Rattle.plc_lex.specs.Stops.{IsKind, IsToken}
use Rattle.plc_lex.proofs.EachToken.{each_token}
use Rattle.plc_syntax.specs.Trees.{FileTree, file_tokens}
use Rattle.plc_syntax.specs.Syntax.{kinds, AreOfFile}
use Rattle.plc_syntax.specs.Nesting.{NoneTooDeep}
use Rattle.plc_parse.specs.declared.unit.Unit.{Unit as FileUnit}
use Rattle.plc_parse.specs.Meaning.{file_means}
use Rattle.plc_parse.specs.Units.{lines_of}
use Rattle.plc_print.specs.Canonical.{canonical_tree}
use Rattle.plc_print.specs.Laws.{SameUpToLines, CanonicalTreesReadBack, TextIsReadBack, CanonicalTextReadsBack}
use Rattle.plc_print.proofs.KeptNesting.{kinds_kept, nesting_kept}
use Rattle.plc_scope.specs.declared.fault.ParseFault.{ParseFault}
use Rattle.plc_scope.proofs.Alike.{Alike}
use Rattle.plc_syntax.proofs.Unplaced.{unplaced_file}
use Rattle.plc_tree.proofs.Places.{file_read}
use Rattle.plc_print.proofs.NormalTrees.{normal_file}
use Rattle.plc_print.proofs.SameUnits.{file_alike}
use Rattle.plc_print.proofs.SpelledFiles.{FileRead, file_read_again}

-- where one has a meaning the other has one that stands in the relation
related : {A B : Type 0} (R : A → B → Type 0) (r : Result A ParseFault) (q : Result B ParseFault) (x : A) → Alike R r q → r ≡ Ok x → (y : B) × (q ≡ Ok y) × R x y
related R (Ok x) (Ok y) z h e = let same : x ≡ z = cc in (y, refl, subst (λ w. R w y) same h)
related R (Err f) q z h e = absurd cc
related R (Ok x) (Err f) z h e = absurd h

means_again : (lines others : List ℕ) (f : FileTree) (u : FileUnit) → file_means lines f ≡ Ok u → (v : FileUnit) × (file_means others (canonical_tree u) ≡ Ok v) × SameUpToLines u v
means_again lines others f u e =
    let read : FileRead lines f u = file_read_again lines f u e in
    let again = related SameUpToLines (file_means lines (normal_file f)) (file_means others (unplaced_file (normal_file f))) u (file_alike lines others (normal_file f)) read.again in
    (again.0, ap (file_means others) read.tree ∙ again.1, again.2)

shallow_again : (lines : List ℕ) (f : FileTree) (u : FileUnit) → file_means lines f ≡ Ok u → NoneTooDeep (file_tokens f) → NoneTooDeep (file_tokens (canonical_tree u))
shallow_again lines f u e h = let read : FileRead lines f u = file_read_again lines f u e in subst (λ (g : FileTree). NoneTooDeep (file_tokens g)) (sym read.tree) (nesting_kept f h)

kinds_again : (lines : List ℕ) (f : FileTree) (u : FileUnit) → file_means lines f ≡ Ok u → AllByRecursion IsKind (file_tokens f) → AllByRecursion IsKind (file_tokens (canonical_tree u))
kinds_again lines f u e h = let read : FileRead lines f u = file_read_again lines f u e in subst (λ (g : FileTree). AllByRecursion IsKind (file_tokens g)) (sym read.tree) (kinds_kept f h)

pub trees_read_back : CanonicalTreesReadBack
trees_read_back = record { means = means_again; shallow = shallow_again; kinds = kinds_again }

-- what a text spells are tokens of texts
spelled_kinds : (text : List ℕ) (ts : List Token) → Spells 0 1 text ts → AllByRecursion IsKind (kinds ts)
spelled_kinds text ts s =
    recursion_from_All IsKind (kinds ts) (All-map IsKind (λ (t : Token). t.kind) ts (All-weaker (IsToken (length text)) (λ (t : Token). IsKind t.kind) (λ t h. h.kind) ts (each_token (length text) 0 1 text ts s (omega arith) (omega arith))))

-- the other way round
related_back : {A B : Type 0} (R : A → B → Type 0) (r : Result A ParseFault) (q : Result B ParseFault) (y : B) → Alike R r q → q ≡ Ok y → (x : A) × (r ≡ Ok x) × R x y
related_back R (Ok x) (Ok y) z h e = let same : y ≡ z = cc in (x, refl, subst (λ w. R x w) same h)
related_back R r (Err f) z h e = absurd cc
related_back R (Err f) (Ok y) z h e = absurd h

-- a tree that is the canonical one but for places means the unit but for lines
placed_again : (lines others : List ℕ) (c x : FileTree) (u : FileUnit) → unplaced_file x ≡ unplaced_file c → file_means lines c ≡ Ok u → (v : FileUnit) × (file_means others x ≡ Ok v) × SameUpToLines u v
placed_again lines others c x u same e =
    let bare = related SameUpToLines (file_means lines c) (file_means [] (unplaced_file c)) u (file_alike lines [] c) e in
    let placed = related_back SameUpToLines (file_means others x) (file_means [] (unplaced_file x)) bare.0 (file_alike others [] x) (ap (file_means []) same ∙ bare.1) in
    (placed.0, placed.1, bare.2 ∙ sym placed.2)

pub texts_read_back : TextIsReadBack → CanonicalTextReadsBack
texts_read_back lexed text ts u s read short =
    let f = read.means.tree in
    let tokens : file_tokens f ≡ kinds ts = sym read.means.tokens.tokens in
    let canonical = kinds_again (lines_of ts) f u read.means.is (subst (AllByRecursion IsKind) (sym tokens) (spelled_kinds text ts s)) in
    let there = lexed (file_tokens (canonical_tree u)) canonical in
    let placed = file_read (canonical_tree u) in
    let first = means_again (lines_of ts) [] f u read.means.is in
    let again = placed_again [] (lines_of there.0) (canonical_tree u) placed.0 first.0 placed.2 first.1 in
    let shallow = shallow_again (lines_of ts) f u read.means.is (subst NoneTooDeep (sym tokens) read.shallow) in (
      there.0,
      again.0,
      there.1,
      record { shallow = subst NoneTooDeep (sym there.2) shallow; means = record { tree = placed.0; tokens = subst (AreOfFile placed.0) (sym there.2) placed.1; is = again.1 } },
      first.2 ∙ again.2,
    )
