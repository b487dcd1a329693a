-- The constants and the maps that an act names have the sorts that its row of the table asks, and what a setting
-- lists as nodes has the sort of nodes.
use Rattle.std.specs.Prelude.{◌≡◌, All}
use Rattle.plc_lang.specs.declared.syntax.File.{File}
use Rattle.plc_flow.specs.declared.flow.Flow.{Flow}
use Rattle.plc_logic.specs.declared.clause.Sort.{Sort}
use Rattle.plc_logic.specs.declared.clause.Sort.TheVariants as sorts
use Rattle.plc_logic.specs.declared.clause.Outline.{Outline}
use Rattle.plc_logic.specs.Fit.{pointer_sort}
use Rattle.plc_ground.specs.declared.terms.Symbol.{Symbol}
use Rattle.plc_ground.specs.declared.terms.Map.TheVariants as maps
use Rattle.plc_vocabulary.specs.declared.acts.Act.{Act}
use Rattle.plc_vocabulary.specs.declared.acts.Act.TheVariants.{Assign, Make, Fetch, FetchMarked, Update}
use Rattle.plc_vocabulary.specs.declared.acts.Act.TheVariants.{Test, Differ, Skip}
use Rattle.plc_vocabulary.specs.declared.obligations.Obligation.{Obligation}
use Rattle.plc_vocabulary.specs.declared.setting.Setting.{Setting}
use Rattle.plc_vocabulary.specs.declared.setting.Variables.{Variables}
use Rattle.plc_symbolic.specs.Terms.{term_of}
use Rattle.plc_vocabulary.specs.Fit.{Fits}
use Rattle.plc_vocabulary.specs.Acts.{mark_of}
use Rattle.plc_vocabulary.specs.Setting.{setting_of}
use Rattle.plc_vocabulary.specs.Sorts.{map_sort, symbol_sort, sort_of}

-- an act, by the sorts of its constants and of its map
abbrev pub ActFits : File → (Symbol → Sort) → Act → Type 0
ActFits file sort (Assign p e) = sort p ≡ sort e
ActFits file sort (Make p) = sort p ≡ sorts.Node
ActFits file sort (Fetch p q f pointer) = (sort q ≡ sorts.Node) × (sort p ≡ pointer_sort pointer)
    × (map_sort file (maps.Field f) ≡ pointer_sort pointer)
ActFits file sort (FetchMarked p q f) = (sort q ≡ sorts.Node) × (sort p ≡ sorts.Node)
    × (sort (mark_of p) ≡ sorts.Truth) × (map_sort file (maps.Field f) ≡ sorts.Node)
ActFits file sort (Update checked m p e) = (sort p ≡ sorts.Node) × (sort e ≡ map_sort file m)
ActFits file sort (Test a b equal) = sort a ≡ sort b
ActFits file sort (Differ a b) = (sort a ≡ sort b) × (sort (mark_of a) ≡ sort (mark_of b))
ActFits file sort Skip = Unit {0}

-- every act of an obligation is such
abbrev pub ActsFit : Flow → Outline → Obligation → Type 0
ActsFit flow outline o =
    let acts = (setting_of flow outline o).acts in
    All (ActFits flow.file (symbol_sort flow o acts)) acts

-- the constants of a thread's locals: nodes and numbers
pub record VariablesFit (sort : Symbol → Sort) (v : Variables) : Type 0 where
  pub pointers : All (λ s. sort s ≡ sorts.Node) v.pointers
  pub values : All (λ s. sort s ≡ sorts.Number) v.values

-- the variables, the nodes and the pointer fields of a setting
pub record NodesFit (flow : Flow) (o : Obligation) (s : Setting) : Type 0 where
  pub mine : VariablesFit (symbol_sort flow o s.acts) s.mine
  pub theirs : VariablesFit (symbol_sort flow o s.acts) s.theirs
  pub pointers : All (λ c. symbol_sort flow o s.acts c ≡ sorts.Node) s.pointers
  pub constants : All (λ c. symbol_sort flow o s.acts c ≡ sorts.Node) s.constants
  pub nodes : All (λ n. sort_of flow o s.acts (term_of n) ≡ sorts.Node) s.nodes
  pub instances : All (λ n. sort_of flow o s.acts (term_of n) ≡ sorts.Node) s.instances
  pub fields : All (λ f. map_sort flow.file (maps.Field f) ≡ sorts.Node) s.fields
  pub marks : All (λ c. symbol_sort flow o s.acts c ≡ sorts.Truth) s.marks

-- the acts, and the setting, of every flow, outline and obligation are well-sorted
abbrev pub AllActsFit : Type 0
AllActsFit = (flow : Flow) (outline : Outline) (o : Obligation) → Fits flow outline → ActsFit flow outline o

abbrev pub AllNodesFit : Type 0
AllNodesFit = (flow : Flow) (outline : Outline) (o : Obligation) → NodesFit flow o (setting_of flow outline o)
