-- The trees of operations and of a file.
use Rattle.std.specs.Prelude.{List, [], ◌∷◌, map, None}
use Rattle.plc_syntax.specs.Trees.{Text, Placed, FieldTree, OpTree, Operates, FileTree}
use Rattle.plc_syntax.specs.Views.{placed_as, name_tree, field_tree, function_tree, shared_name, watched_tree}
use Rattle.plc_tree.specs.declared.operation.Parameters.{Parameters}
use Rattle.plc_tree.specs.declared.operation.Parameters.TheVariants as parameters
use Rattle.plc_tree.specs.declared.operation.Operation.{Operation}
use Rattle.plc_tree.specs.declared.file.Struct.{Struct}
use Rattle.plc_tree.specs.declared.file.Heading.{Heading}
use Rattle.plc_tree.specs.declared.file.File.{File}
use Rattle.plc_tree.specs.FormViews.{auxiliary_tree, starts_tree, outlined_tree}

-- the names of parameters
abbrev pub parameters_names : Parameters → List (Placed Text)
parameters_names parameters.None = []
parameters_names (parameters.Some n ns) = name_tree n ∷ map name_tree ns

abbrev pub operation_tree : Operation → OpTree
operation_tree o = Operates (name_tree o.name) (parameters_names o.parameters) (map field_tree o.locals) o.body

-- a struct's name and its fields
abbrev pub struct_parts : Struct → Placed Text × List FieldTree
struct_parts s = (name_tree s.name, map field_tree s.fields)

-- what stands before the operations, with none and no outline
abbrev pub heading_tree : Heading → FileTree
heading_tree h = record {
  name = name_tree h.node.name;
  fields = map field_tree h.node.fields;
  pointers = map shared_name h.pointers;
  functions = map function_tree h.functions;
  watched = watched_tree h.watched;
  ghosts = map auxiliary_tree h.auxiliaries;
  starts = starts_tree h.starts;
  ops = [];
  outlined = None;
}

abbrev pub file_tree : File → FileTree
file_tree f = record (heading_tree f.heading) {
  ops = map (placed_as operation_tree) f.operations;
  outlined = outlined_tree f.outline;
}
