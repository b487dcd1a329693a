-- The numbering of clauses over symbolic terms: a term is listed at its first occurrence, its arguments before it,
-- left before right.
use Rattle.std.specs.Prelude.{ℕ, ◌<◌, List, [], ◌∷◌, ◌++◌, length, map, fold}
use Rattle.std.specs.List.{position_or_len}
use Rattle.indexmap.specs.IndexSet.{insert_key}
use Rattle.plc_logic.specs.declared.clause.Sort.{Sort}
use Rattle.plc_ground.specs.declared.terms.Map.TheVariants as maps
use Rattle.plc_ground.specs.declared.terms.GroundTerm.{GroundTerm}
use Rattle.plc_ground.specs.declared.terms.GroundTerm.TheVariants.{Const, App}
use Rattle.plc_ground.specs.declared.terms.Lit.{Lit}
use Rattle.plc_ground.specs.declared.terms.GroundSet.{GroundSet}
use Rattle.plc_symbolic.specs.declared.symbolic.NodeTerm.TheVariants.{At, Target}
use Rattle.plc_symbolic.specs.declared.symbolic.SymbolicTerm.{SymbolicTerm}
use Rattle.plc_symbolic.specs.declared.symbolic.SymbolicTerm.TheVariants.{Constant, Application}
use Rattle.plc_symbolic.specs.declared.symbolic.SymbolicLit.{SymbolicLit}
use Rattle.plc_symbolic.specs.Same.{same_term}
use Rattle.plc_symbolic.specs.Terms.{Clauses, term_of}

-- a term after its arguments
abbrev pub with_arguments : SymbolicTerm → List SymbolicTerm
with_arguments (Constant s) = Constant s ∷ []
with_arguments (Application m v (At s)) = Constant s ∷ Application m v (At s) ∷ []
with_arguments (Application m v (Target f s)) =
    Constant s ∷ Application (maps.Field f) 0 (At s) ∷ Application m v (Target f s) ∷ []

-- one more term, at the end where it is new
unfoldable pub put : List SymbolicTerm → SymbolicTerm → List SymbolicTerm
put ts t = insert_key same_term ts t

-- a term with its arguments, the sides of a literal, those of a clause
abbrev pub note : List SymbolicTerm → SymbolicTerm → List SymbolicTerm
note ts t = fold put ts (with_arguments t)

abbrev pub note_literal : List SymbolicTerm → SymbolicLit → List SymbolicTerm
note_literal ts l = note (note ts l.left) l.right

abbrev pub note_clause : List SymbolicTerm → List SymbolicLit → List SymbolicTerm
note_clause ts c = fold note_literal ts c

-- ---- a set while it is written

-- the terms that are listed so far, and the clauses so far
pub record Drafted : Type 0 where
  pub terms : List SymbolicTerm
  pub clauses : Clauses

-- nothing yet
abbrev pub blank : Drafted
blank = record { terms = []; clauses = [] }

-- a term is listed, and a clause is written
abbrev pub listed : Drafted → SymbolicTerm → Drafted
listed d t = record { terms = note d.terms t; clauses = d.clauses }

abbrev pub written : Drafted → List SymbolicLit → Drafted
written d c = record { terms = note_clause d.terms c; clauses = d.clauses ++ c ∷ [] }

-- several terms are listed, and several clauses are written, in order
abbrev pub listed_all : Drafted → List SymbolicTerm → Drafted
listed_all d ts = fold listed d ts

abbrev pub written_all : Drafted → Clauses → Drafted
written_all d cs = fold written d cs

-- ---- numbers

-- the place of a term, and that it has one
unfoldable pub place : List SymbolicTerm → SymbolicTerm → ℕ
place ts t = position_or_len (same_term t) ts

abbrev pub IsListed : List SymbolicTerm → SymbolicTerm → Type 0
IsListed ts t = place ts t < length ts

-- terms and literals by places
abbrev pub number : List SymbolicTerm → SymbolicTerm → GroundTerm
number ts (Constant s) = Const s
number ts (Application m v n) = App m v (place ts (term_of n))

abbrev pub number_lit : List SymbolicTerm → SymbolicLit → Lit
number_lit ts l = record { left = place ts l.left; right = place ts l.right; equal = l.equal }

-- the set of a draft, with these sorts of its terms
abbrev pub numbered : List Sort → Drafted → GroundSet
numbered sorts d = record {
  terms = map (number d.terms) d.terms;
  sorts = sorts;
  clauses = map (map (number_lit d.terms)) d.clauses;
}
