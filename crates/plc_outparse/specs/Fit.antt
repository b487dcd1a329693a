-- What a scope says of a file whose names it has, and the law that an outline which was read fits its file.
use Rattle.std.specs.Prelude.{◌≡◌, ◌<◌, ℕ, Bool, true, false, List, [], ◌∷◌, length, slice_get, Some, Ok}
use Rattle.plc_base.specs.declared.ids.FieldId.{FieldId}
use Rattle.plc_lang.specs.declared.syntax.Field.{Field}
use Rattle.plc_lang.specs.declared.syntax.Ghost.{Ghost}
use Rattle.plc_lang.specs.declared.syntax.File.{File}
use Rattle.plc_syntax.specs.Trees.{OutlineTree}
use Rattle.plc_scope.specs.declared.scope.Scope.{Scope}
use Rattle.plc_scope.specs.declared.binding.Binding.TheVariants.{Shared, PointerField, DataField, Auxiliary, Value}
use Rattle.plc_logic.specs.declared.clause.Outline.{Outline}
use Rattle.plc_logic.specs.Fit.{OutlineFits}
use Rattle.plc_outparse.specs.Meaning.{outline_means}

-- whether an auxiliary field with these values holds threads
abbrev pub holds_threads : List ℕ → Bool
holds_threads [] = true
holds_threads (v ∷ vs) = false

-- what the names of the scope stand for is there in the file, and is what they say
pub record NamesOf (s : Scope) (file : File) : Type 0 where
  pub labels : s.labels ≡ file.labels
  pub shared : (i k : ℕ) → slice_get s.bindings i ≡ Some (Shared k) → k < length file.shared
  pub pointer_field : (i : ℕ) (f : FieldId) → slice_get s.bindings i ≡ Some (PointerField f)
      → (d : Field) × (slice_get file.fields f.0 ≡ Some d) × (d.pointer ≡ true)
  pub data_field : (i : ℕ) (f : FieldId) → slice_get s.bindings i ≡ Some (DataField f)
      → (d : Field) × (slice_get file.fields f.0 ≡ Some d) × (d.pointer ≡ false)
  pub auxiliary : (i g : ℕ) (t : Bool) → slice_get s.bindings i ≡ Some (Auxiliary g t)
      → (h : Ghost) × (slice_get file.ghosts g ≡ Some h) × (t ≡ holds_threads h.values)
  pub value : (i g v : ℕ) → slice_get s.bindings i ≡ Some (Value g v)
      → (h : Ghost) × (slice_get file.ghosts g ≡ Some h) × (v < length h.values)

-- an outline that has a meaning after the operations of a file fits the file
abbrev pub OutlinesFit : Type 0
OutlinesFit = (s : Scope) (file : File) (tree : OutlineTree) (outline : Outline) → NamesOf s file
    → outline_means s file.ops tree ≡ Ok outline → OutlineFits file outline
