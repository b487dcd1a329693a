-- The trees of auxiliary fields, of the init block and of what an outline is made of. Names are those of the tokens, so
-- a form stands for the tree with their bytes.
use Rattle.std.specs.Prelude.{List, map, Option, Some, None}
use Rattle.plc_syntax.specs.Trees.{Placed, GhostKindTree, OneOf, OfThreads, GhostTree, Auxiliary, ClauseTree, Claims}
use Rattle.plc_syntax.specs.Trees.{ItemTree}
use Rattle.plc_syntax.specs.Trees.{InvariantItem, OverItem, AtItem, OutlineTree, Outlined, InitialTree}
use Rattle.plc_syntax.specs.declared.form.Placed.{Placed as PlacedForm}
use Rattle.plc_syntax.specs.declared.form.Initial.{Initial}
use Rattle.plc_syntax.specs.Views.{placed_as, name_tree, number_or_none, initial_tree, literal_tree, bound_tree}
use Rattle.plc_tree.specs.declared.form.AuxiliaryKind.{AuxiliaryKind}
use Rattle.plc_tree.specs.declared.form.AuxiliaryKind.TheVariants as kinds
use Rattle.plc_tree.specs.declared.form.Auxiliary.{Auxiliary as AuxiliaryForm}
use Rattle.plc_tree.specs.declared.form.Clause.{Clause}
use Rattle.plc_tree.specs.declared.form.Item.{Item}
use Rattle.plc_tree.specs.declared.form.Item.TheVariants as items
use Rattle.plc_tree.specs.declared.form.Outline.{Outline}

-- ---- declarations

abbrev pub kind_tree : AuxiliaryKind → GhostKindTree
kind_tree (kinds.OneOf v vs) = OneOf (name_tree v) (map name_tree vs)
kind_tree kinds.OfThreads = OfThreads

abbrev pub auxiliary_tree : AuxiliaryForm → GhostTree
auxiliary_tree a = Auxiliary (name_tree a.name) (kind_tree a.kind)

-- the init block, which may be left out
abbrev pub starts_tree : Option (List (PlacedForm Initial)) → Option (List (Placed InitialTree))
starts_tree None = None
starts_tree (Some is) = Some (map (placed_as initial_tree) is)

-- ---- outlines

abbrev pub clause_tree : Clause → ClauseTree
clause_tree c = Claims (bound_tree c.bound) (literal_tree c.first) (map (placed_as literal_tree) c.others)

abbrev pub item_tree : Item → ItemTree
item_tree (items.Invariant c) = InvariantItem (clause_tree c)
item_tree (items.Over n c) = OverItem (name_tree n) (clause_tree c)
item_tree (items.At n ns c) = AtItem (name_tree n) (map name_tree ns) (clause_tree c)

abbrev pub outline_tree : Outline → OutlineTree
outline_tree o = Outlined (number_or_none o.depth) (map item_tree o.items)

-- an outline, which may be left out
abbrev pub outlined_tree : Option Outline → Option OutlineTree
outlined_tree None = None
outlined_tree (Some o) = Some (outline_tree o)
