-- The names of variables, as faults name them with the operation in which they are.
use Rattle.std.specs.Prelude.{ℕ, List}
use Rattle.plc_lang.specs.declared.syntax.Var.{Var}
use Rattle.plc_lang.specs.declared.syntax.File.{File}
use Rattle.plc_lang.specs.Locals.{locals_of}
use Rattle.plc_lang.specs.Names.{variable_name}

-- the name of a pointer variable of an operation
abbrev pub variable_in : File → ℕ → Var → List ℕ
variable_in file op v = variable_name file (locals_of file.ops op) v
