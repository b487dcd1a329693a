-- The atom of a literal, whether the literal affirms it, and the literal's negation.
use Rattle.std.specs.Prelude.{◌≡◌, Bool, not}
use Rattle.plc_logic.specs.declared.clause.Base.{Base}
use Rattle.plc_logic.specs.declared.clause.Term.{Term}
use Rattle.plc_logic.specs.declared.clause.Literal.{Literal}
use Rattle.plc_logic.specs.declared.clause.Literal.TheVariants.{Same, Retired, Marked}

-- what is so or isn't: two terms are equal, a node is retired, a pointer is marked
pub data Atom : Type 0 where
  AreEqual : Term → Term → Atom
  IsRetired : Base → Atom
  IsMarked : Term → Atom

-- what a literal is about
abbrev pub atom_of : Literal → Atom
atom_of (Same a b is_so) = AreEqual a b
atom_of (Retired x is_so) = IsRetired x
atom_of (Marked t is_so) = IsMarked t

-- whether it says that this is so
abbrev pub affirms : Literal → Bool
affirms (Same a b is_so) = is_so
affirms (Retired x is_so) = is_so
affirms (Marked t is_so) = is_so

-- the literal that an atom is so, or isn't
abbrev pub literal_of : Atom → Bool → Literal
literal_of (AreEqual a b) is_so = Same a b is_so
literal_of (IsRetired x) is_so = Retired x is_so
literal_of (IsMarked t) is_so = Marked t is_so

-- the opposite about the same terms
abbrev pub negation : Literal → Literal
negation l = literal_of (atom_of l) (not (affirms l))

-- a literal is an atom and whether it is affirmed, of which the negation turns the second; two turns are none
pub record NegationTurnsTheTruth : Type 0 where
  pub whole : (l : Literal) → literal_of (atom_of l) (affirms l) ≡ l
  pub about : (l : Literal) → atom_of (negation l) ≡ atom_of l
  pub truth : (l : Literal) → affirms (negation l) ≡ not (affirms l)
  pub twice : (l : Literal) → negation (negation l) ≡ l
