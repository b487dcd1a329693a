-- The parts of a file's meaning in the groups in which the program makes them. A file means what they mean together
-- (`proofs/Grouped.antt`).
use Rattle.std.specs.Prelude.{ℕ, List, Result, Ok}
use Rattle.plc_auto.specs.declared.observer.Observer.{Observer}
use Rattle.plc_lang.specs.declared.syntax.Field.{Field}
use Rattle.plc_lang.specs.declared.syntax.Func.{Func}
use Rattle.plc_lang.specs.declared.syntax.Ghost.{Ghost}
use Rattle.plc_lang.specs.declared.syntax.Op.{Op}
use Rattle.plc_lang.specs.declared.syntax.Primitive.{Primitive}
use Rattle.plc_logic.specs.declared.clause.Outline.{Outline}
use Rattle.plc_scope.specs.declared.fault.ParseFault.{ParseFault}
use Rattle.plc_scope.specs.declared.scope.Scope.{Scope}
use Rattle.plc_scope.specs.Scope.{◌>>=◌}
use Rattle.plc_syntax.specs.Trees.{FileTree}
use Rattle.plc_parse.specs.declared.unit.Unit.{Unit as FileUnit}
use Rattle.plc_parse.specs.Meaning.{field_means, shared_means, function_means, ghost_means, listed, watch_means}
use Rattle.plc_parse.specs.Meaning.{init_means, placed_op_means, outlined_means, file_from}

-- the fields of the struct, the shared pointers and the functions
abbrev pub DeclaredParts : Type 0
DeclaredParts = List Field × List ℕ × List Func

unfoldable pub declared_mean : Scope → FileTree → Result (DeclaredParts × Scope) ParseFault
declared_mean s f = do
  fields ← listed field_means s 0 f.fields
  pointers ← listed shared_means fields.1 0 f.pointers
  functions ← listed function_means pointers.1 0 f.functions
  Ok ((fields.0, pointers.0, functions.0), functions.1)

-- what stands before the operations: the declarations, the observer, the auxiliary fields and `init`
abbrev pub FrontParts : Type 0
FrontParts = DeclaredParts × Observer × List Ghost × List Primitive

unfoldable pub front_means : Scope → FileTree → Result (FrontParts × Scope) ParseFault
front_means s f = do
  declared ← declared_mean s f
  observer ← watch_means declared.1 f.watched
  ghosts ← listed ghost_means declared.1 0 f.ghosts
  starts ← init_means ghosts.1 f.starts
  Ok ((declared.0, observer, ghosts.0, starts), ghosts.1)

-- the operations and the outline, with the scope after them
unfoldable pub body_means : List ℕ → Scope → FileTree → Result (List Op × Outline × Scope) ParseFault
body_means lines s f = do
  ops ← listed (placed_op_means lines) s 0 f.ops
  outline ← outlined_means ops.1 ops.0 f.outlined
  Ok (ops.0, outline, ops.1)

-- the parts after the struct's name
unfoldable pub parts_mean : List ℕ → Scope → FileTree → Result (FrontParts × List Op × Outline × Scope) ParseFault
parts_mean lines s f = do
  front ← front_means s f
  ended ← body_means lines front.1 f
  Ok (front.0, ended.0, ended.1, ended.2)

-- the unit of these parts
abbrev pub unit_from : FrontParts → List Op × Outline × Scope → FileUnit
unit_from f b = record {
  file = file_from f.0.0 f.0.1 f.0.2 f.2 f.3 b.0 b.2;
  observer = f.1;
  outline = b.1;
}
