-- The kinds of declarations that are listed, and of forms that a step is made of.
use Rattle.std.specs.Prelude.{ℕ, Option, Result}
use Rattle.plc_base.specs.Limits.{most}
use Rattle.plc_base.specs.declared.limits.What1.TheVariants as limits
use Rattle.plc_lang.specs.declared.syntax.Field.{Field}
use Rattle.plc_lang.specs.declared.syntax.Func.{Func}
use Rattle.plc_lang.specs.declared.syntax.Ghost.{Ghost}
use Rattle.plc_lang.specs.declared.syntax.Primitive.{Primitive}
use Rattle.plc_syntax.specs.Trees.{Text, Placed, FieldTree, FunctionTree, GhostTree, PrimitiveTree, InitialTree}
use Rattle.plc_syntax.specs.declared.form.Declaration.{Declaration}
use Rattle.plc_syntax.specs.declared.form.Function.{Function}
use Rattle.plc_syntax.specs.declared.form.Initial.{Initial}
use Rattle.plc_syntax.specs.declared.form.Primitive.{Primitive as PrimitiveForm}
use Rattle.plc_syntax.specs.Views.{field_tree, function_tree, primitive_tree, initial_tree, shared_name}
use Rattle.plc_tree.specs.declared.form.Auxiliary.{Auxiliary}
use Rattle.plc_syntax.specs.declared.form.Shared.{Shared}
use Rattle.plc_tree.specs.FormViews.{auxiliary_tree}
use Rattle.plc_scope.specs.Primitives.{primitive_means, initial_means}
use Rattle.plc_scope.specs.declared.fault.ParseFault.{ParseFault}
use Rattle.plc_scope.specs.declared.scope.Scope.{Scope}
use Rattle.plc_parse.specs.Growth.{ghost_names}
use Rattle.plc_parse.specs.Meaning.{field_means, shared_means, function_means, ghost_means}

-- the tree of a declaration's form, what it means after so many, how many of its kind there may be, and how many names
-- each may declare
pub record Kind (F Y : Type 0) : Type 1 where
  pub Tree : Type 0
  pub tree : F → Tree
  pub means : Scope → ℕ → Tree → Result (Y × Scope) ParseFault
  pub limit : ℕ
  pub names : ℕ

-- a kind of which each declares one name
abbrev pub named : {F Y : Type 0} (T : Type 0) → (F → T) → (Scope → ℕ → T → Result (Y × Scope) ParseFault) → ℕ
    → Kind F Y
named T tree means limit = record { Tree = T; tree = tree; means = means; limit = limit; names = 1 }

-- the fields of the struct
abbrev pub fields : Kind Declaration Field
fields = named FieldTree field_tree field_means (most limits.Fields)

-- the shared pointers, by the numbers of their names
abbrev pub shared_pointers : Kind Shared ℕ
shared_pointers = named (Placed Text) shared_name shared_means (most limits.Shared)

-- the functions beside `retire`
abbrev pub functions : Kind Function Func
functions = named FunctionTree function_tree function_means (most limits.Calls)

-- the auxiliary fields
abbrev pub auxiliary_fields : Kind Auxiliary Ghost
auxiliary_fields = record {
  Tree = GhostTree;
  tree = auxiliary_tree;
  means = ghost_means;
  limit = most limits.Ghosts;
  names = ghost_names;
}

-- the tree of a form, and what it means
pub record FormKind (F : Type 0) : Type 1 where
  pub Tree : Type 0
  pub tree : F → Tree
  pub means : Scope → Tree → Result (Option Primitive) ParseFault

-- the forms of an atomic block
abbrev pub atomic_forms : FormKind PrimitiveForm
atomic_forms = record { Tree = PrimitiveTree; tree = primitive_tree; means = primitive_means }

-- the forms of `init`
abbrev pub initial_forms : FormKind Initial
initial_forms = record { Tree = InitialTree; tree = initial_tree; means = initial_means }
