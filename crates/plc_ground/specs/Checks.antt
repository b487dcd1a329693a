-- Words of private functions: what is checked of a ground set, a term or two of them at a time.
use Rattle.std.specs.Prelude.{◌≡◌, ◌<◌, ℕ, slice_get, Some}
use Rattle.plc_ground.specs.declared.terms.Map.{Map}
use Rattle.plc_ground.specs.declared.terms.GroundTerm.{GroundTerm}
use Rattle.plc_ground.specs.declared.terms.GroundTerm.TheVariants.{App}
use Rattle.plc_ground.specs.declared.terms.GroundSet.{GroundSet}

-- two places do not hold one term
abbrev pub AreDistinct : GroundSet → ℕ → ℕ → Type 0
AreDistinct s i j = (t : GroundTerm) → slice_get s.terms i ≡ Some t → slice_get s.terms j ≡ Some t → i ≡ j

-- two applications of one map have one sort
abbrev pub ShareSort : GroundSet → ℕ → ℕ → Type 0
ShareSort s i j = (m : Map) (v w a b : ℕ) → slice_get s.terms i ≡ Some (App m v a)
    → slice_get s.terms j ≡ Some (App m w b) → slice_get s.sorts i ≡ slice_get s.sorts j

-- the rule for one term: its argument stands before it
abbrev pub TermFits : GroundSet → ℕ → Type 0
TermFits s i = (m : Map) (v a : ℕ) → slice_get s.terms i ≡ Some (App m v a) → a < i

-- the rules for two terms
pub record PairFits (s : GroundSet) (i j : ℕ) : Type 0 where
  pub distinct : AreDistinct s i j
  pub share_sort : ShareSort s i j
