use Rattle.std.proofs.Common.{◌≡◌, Bool, true, false, not, refl, ap}
use Rattle.plc_logic.specs.declared.clause.Literal.{Literal}
use Rattle.plc_logic.specs.declared.clause.Literal.TheVariants.{Same, Retired, Marked}
use Rattle.plc_logic.specs.Negation.{atom_of, affirms, literal_of, negation}
use Rattle.plc_logic.proofs.negation.negation_turns_the_truth.Goals as goal

not_twice : (b : Bool) → not (not b) ≡ b
not_twice true = refl
not_twice false = refl

is_whole : (l : Literal) → literal_of (atom_of l) (affirms l) ≡ l
is_whole (Same a b is_so) = refl
is_whole (Retired x is_so) = refl
is_whole (Marked t is_so) = refl

same_terms : (l : Literal) → atom_of (negation l) ≡ atom_of l
same_terms (Same a b is_so) = refl
same_terms (Retired x is_so) = refl
same_terms (Marked t is_so) = refl

other_truth : (l : Literal) → affirms (negation l) ≡ not (affirms l)
other_truth (Same a b is_so) = refl
other_truth (Retired x is_so) = refl
other_truth (Marked t is_so) = refl

is_turned_back : (l : Literal) → negation (negation l) ≡ l
is_turned_back (Same a b is_so) = ap (Same a b) (not_twice is_so)
is_turned_back (Retired x is_so) = ap (Retired x) (not_twice is_so)
is_turned_back (Marked t is_so) = ap (Marked t) (not_twice is_so)

pub returns : goal.returns
returns c = record { whole = is_whole; about = same_terms; truth = other_truth; twice = is_turned_back }
