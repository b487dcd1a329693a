-- How a primitive of `init` is spelled.
use Rattle.std.proofs.Common.{◌≡◌, ℕ, [], refl}
use Rattle.plc_lang.specs.declared.syntax.File.{File}
use Rattle.plc_lang.specs.declared.syntax.GhostVal.{GhostVal}
use Rattle.plc_lang.specs.declared.syntax.Primitive.{Primitive}
use Rattle.plc_lang.specs.declared.syntax.Primitive.TheVariants as prims
use Rattle.plc_lang.specs.declared.syntax.Var.{Var}
use Rattle.plc_syntax.specs.Trees.{InitialSet}
use Rattle.plc_print.specs.Canonical.{initial_tree, set_tree}

-- one that writes no auxiliary field is an assignment
pub initial_set : (file : File) (k : Primitive) → ((p : Var) (g : ℕ) (v : GhostVal) → k ≡ prims.Ghost p g v → ⊥)
    → initial_tree file k ≡ InitialSet (set_tree file [] k)
initial_set file (prims.Ghost p g v) other = absurd (other p g v refl)
initial_set file k other = refl
