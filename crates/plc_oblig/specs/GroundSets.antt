-- The ground set of an obligation: the constants and the nodes are listed first, then the clauses are written.
use Rattle.std.specs.Prelude.{List, ◌++◌, map}
use Rattle.plc_flow.specs.declared.flow.Flow.{Flow}
use Rattle.plc_logic.specs.declared.clause.Outline.{Outline}
use Rattle.plc_logic.specs.declared.clause.Sort.{Sort}
use Rattle.plc_ground.specs.declared.terms.Symbol.{Symbol}
use Rattle.plc_ground.specs.declared.terms.GroundSet.{GroundSet}
use Rattle.plc_symbolic.specs.declared.symbolic.SymbolicTerm.{SymbolicTerm}
use Rattle.plc_symbolic.specs.declared.symbolic.SymbolicTerm.TheVariants.{Constant}
use Rattle.plc_symbolic.specs.declared.symbolic.NodeTerm.{NodeTerm}
use Rattle.plc_symbolic.specs.Numbering.{Drafted, blank, listed_all, written_all, numbered}
use Rattle.plc_symbolic.specs.Terms.{term_of}
use Rattle.plc_vocabulary.specs.declared.acts.Act.{Act}
use Rattle.plc_vocabulary.specs.declared.obligations.Obligation.{Obligation}
use Rattle.plc_vocabulary.specs.declared.setting.Setting.{Setting}
use Rattle.plc_vocabulary.specs.Setting.{setting_of, constants_of}
use Rattle.plc_vocabulary.specs.Sorts.{sort_of}
use Rattle.plc_encoding.specs.Items.{clauses_of}

-- constants as terms
abbrev pub constant_terms : List Symbol → List SymbolicTerm
constant_terms symbols = map Constant symbols

-- nodes as terms
abbrev pub node_terms : List NodeTerm → List SymbolicTerm
node_terms nodes = map term_of nodes

-- the sorts of terms, of which some are what these acts read
abbrev pub sorts_of : Flow → Obligation → List Act → List SymbolicTerm → List Sort
sorts_of flow o acts terms = map (sort_of flow o acts) terms

-- the terms that are listed first
abbrev pub listed_first : Flow → Outline → Setting → List SymbolicTerm
listed_first flow outline s = constant_terms (constants_of flow outline s) ++ node_terms s.nodes

-- these are listed, and the clauses are written
abbrev pub drafted : Flow → Outline → Setting → Obligation → Drafted
drafted flow outline s o =
    written_all (listed_all blank (listed_first flow outline s)) (clauses_of flow outline s o)

-- the ground set of an obligation
unfoldable pub ground_set : Flow → Outline → Obligation → GroundSet
ground_set flow outline o =
    let s = setting_of flow outline o in
    let d = drafted flow outline s o in
    numbered (sorts_of flow o s.acts d.terms) d
