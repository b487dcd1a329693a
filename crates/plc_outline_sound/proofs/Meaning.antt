-- What constants and versions of maps stand for, and so each term.
use Rattle.std.proofs.Common.{◌≡◌, ℕ, List, [], ◌∷◌, ◌++◌, refl, inl, inr}
use Rattle.std.specs.Prelude.{◌≢◌}
use Rattle.plc_logic.specs.declared.clause.Sort.{Sort}
use Rattle.plc_ground.specs.declared.terms.Symbol.{Symbol}
use Rattle.plc_ground.specs.declared.terms.Map.{Map}
use Rattle.plc_ground.specs.declared.terms.Map.TheVariants as maps
use Rattle.plc_symbolic.specs.declared.symbolic.NodeTerm.{NodeTerm}
use Rattle.plc_symbolic.specs.declared.symbolic.NodeTerm.TheVariants.{At, Target}
use Rattle.plc_symbolic.specs.declared.symbolic.SymbolicTerm.{SymbolicTerm}
use Rattle.plc_symbolic.specs.declared.symbolic.SymbolicTerm.TheVariants.{Constant, Application}
use Rattle.plc_symbolic.specs.declared.symbolic.SymbolicLit.{SymbolicLit}
use Rattle.plc_symbolic.specs.Terms.{term_of, is, is_not}
use Rattle.plc_outline_sound.proofs.Numbering.{SomeIsTrue}

-- a sort and a value for each constant, a sort for each map, and what each version of it has at each node
pub record Meaning : Type 0 where
  pub symbol_sort : Symbol → Sort
  pub map_sort : Map → Sort
  pub symbol : Symbol → ℕ
  pub version : Map → ℕ → ℕ → ℕ

abbrev pub node_in : Meaning → NodeTerm → ℕ
node_in e (At s) = e.symbol s
node_in e (Target f s) = e.version (maps.Field f) 0 (e.symbol s)

abbrev pub value_in : Meaning → SymbolicTerm → ℕ
value_in e (Constant s) = e.symbol s
value_in e (Application m v n) = e.version m v (node_in e n)

abbrev pub sort_in : Meaning → SymbolicTerm → Sort
sort_in e (Constant s) = e.symbol_sort s
sort_in e (Application m v n) = e.map_sort m

-- a clause is true
abbrev pub IsTrueIn : Meaning → List SymbolicLit → Type 0
IsTrueIn e c = SomeIsTrue (sort_in e) (value_in e) c

pub node_value : (e : Meaning) (n : NodeTerm) → value_in e (term_of n) ≡ node_in e n
node_value e (At s) = refl
node_value e (Target f s) = refl

-- the sort of a node
abbrev pub node_sort : Meaning → NodeTerm → Sort
node_sort e n = sort_in e (term_of n)

-- ---- literals

-- two terms of one sort and one value
pub record AreOne (e : Meaning) (a b : SymbolicTerm) : Type 0 where
  pub sort : sort_in e a ≡ sort_in e b
  pub value : value_in e a ≡ value_in e b

pub equal_is_true : (e : Meaning) (a b : SymbolicTerm) (more : List SymbolicLit) → AreOne e a b
    → IsTrueIn e (is a b ∷ more)
equal_is_true e a b more h = inl (h.sort, h.value)

pub unequal_is_true : (e : Meaning) (a b : SymbolicTerm) (more : List SymbolicLit) → value_in e a ≢ value_in e b
    → IsTrueIn e (is_not a b ∷ more)
unequal_is_true e a b more h = inl h

pub later_is_true : (e : Meaning) (l : SymbolicLit) (more : List SymbolicLit) → IsTrueIn e more → IsTrueIn e (l ∷ more)
later_is_true e l more h = inr h

pub true_left : (e : Meaning) (xs ys : List SymbolicLit) → IsTrueIn e xs → IsTrueIn e (xs ++ ys)
true_left e [] ys h = absurd h
true_left e (l ∷ xs) ys (inl h) = inl h
true_left e (l ∷ xs) ys (inr h) = inr (true_left e xs ys h)

pub true_right : (e : Meaning) (xs ys : List SymbolicLit) → IsTrueIn e ys → IsTrueIn e (xs ++ ys)
true_right e [] ys h = h
true_right e (l ∷ xs) ys h = inr (true_right e xs ys h)
