-- An outline that was read fits the file that it was read with: what the names in reach after the operations stand for is there in the file.
use Rattle.std.proofs.Common.{◌≡◌, Option, Some, None, Result, Ok, Err, [], refl, arith}
use Rattle.std.proofs.lemmas.List.Elements.{All-nil}
use Rattle.plc_lang.specs.declared.syntax.File.{File}
use Rattle.plc_logic.specs.declared.clause.Outline.{Outline}
use Rattle.plc_logic.specs.Fit.{InvariantFits, ItemFits, OutlineFits}
use Rattle.plc_syntax.specs.Trees.{OutlineTree}
use Rattle.plc_scope.specs.declared.fault.ParseFault.{ParseFault}
use Rattle.plc_scope.specs.declared.scope.Scope.{Scope}
use Rattle.plc_scope.specs.declared.binding.Binding.TheVariants.{Shared, PointerField, DataField, Auxiliary, Value}
use Rattle.plc_scope.proofs.Holds.{Has}
use Rattle.plc_outparse.specs.Fit.{NamesOf}
use Rattle.plc_outparse.specs.Meaning.{outline_means}
use Rattle.plc_outparse.proofs.Fits.{outline_fits}
use Rattle.plc_parse.specs.Meaning.{outlined_means}
use Rattle.plc_parse.proofs.Reach.{bound_at}
use Rattle.plc_parse.proofs.There.{IsThere, AllThere, lists_of}

-- a file with the labels of the scope
names_of : (s : Scope) (file : File) → s.labels ≡ file.labels → AllThere (lists_of file) s → NamesOf s file
names_of s file labels h =
    let there = bound_at (IsThere (lists_of file)) s h in
    record {
      labels = labels;
      shared = λ i k e. there i (Shared k) e;
      pointer_field = λ i f e. there i (PointerField f) e;
      data_field = λ i f e. there i (DataField f) e;
      auxiliary = λ i g t e. there i (Auxiliary g t) e;
      value = λ i g v e. there i (Value g v) e;
    }

-- ---- the file

module _ (s : Scope) (file : File) (labels : s.labels ≡ file.labels) (there : AllThere (lists_of file) s) where
  nothing_said : OutlineFits file (record { depth = 0; invariants = []; items = [] })
  nothing_said = record { depth = omega arith; invariants = omega arith; each_invariant = All-nil (InvariantFits file); items = omega arith; each_item = All-nil (ItemFits file) }

  read_fits : (t : OutlineTree) (r : Result Outline ParseFault) → outline_means s file.ops t ≡ r → Has (OutlineFits file) r
  read_fits t (Ok o) e = outline_fits s file t o (names_of s file labels there) e
  read_fits t (Err e) is = tt

  pub outlined_fits : (t : Option OutlineTree) → Has (OutlineFits file) (outlined_means s file.ops t)
  outlined_fits None = nothing_said
  outlined_fits (Some t) = read_fits t (outline_means s file.ops t) refl
