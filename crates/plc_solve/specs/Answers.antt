-- The answers of the solver.
use Rattle.std.specs.Prelude.{[], ◌∷◌}
use Rattle.plc_ground.specs.declared.terms.GroundSet.{GroundSet}
use Rattle.plc_solve.specs.declared.search.Answer.{Answer}
use Rattle.plc_solve.specs.declared.search.Answer.TheVariants.{Closed, Open}
use Rattle.plc_ground.specs.Model.{IsModel}
use Rattle.plc_ground.specs.Trees.{Closes, SplitsOnce}

-- the answer is Open
abbrev pub IsOpen : Answer → Type 0
IsOpen (Open model) = Unit {0}
IsOpen (Closed tree) = ⊥

-- what Open carries is a model of the set
abbrev pub CarriesModel : GroundSet → Answer → Type 0
CarriesModel s (Open model) = IsModel s model.class
CarriesModel s (Closed tree) = Unit {0}

-- the tree of Closed closes the set, and no branch of it splits one clause twice
abbrev pub CarriesTree : GroundSet → Answer → Type 0
CarriesTree s (Open model) = Unit {0}
CarriesTree s (Closed tree) = Closes s tree.nodes × SplitsOnce s ([] ∷ []) tree.nodes
