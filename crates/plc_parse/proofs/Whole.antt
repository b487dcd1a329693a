-- A file with a meaning is well sorted, its observer's functions are declared, and its outline fits it: what its declarations put in reach is
-- there in the lists of the whole file.
use Rattle.std.proofs.Common.{◌≡◌, ℕ, false, Option, Some, None, Result, Ok, Err, List, [], ◌∷◌, length, slice_get}
use Rattle.std.proofs.Common.{refl, ap, ◌∙◌, arith}
use Rattle.std.specs.List.{concat}
use Rattle.plc_lang.specs.declared.syntax.Primitive.{Primitive}
use Rattle.plc_lang.specs.declared.syntax.Ghost.{Ghost}
use Rattle.plc_lang.specs.declared.syntax.File.{File}
use Rattle.plc_lang.specs.Labels.{labels_by_op}
use Rattle.plc_lang.specs.WellSorted.{is_initial, FileIsWellSorted}
use Rattle.plc_auto.specs.declared.observer.Observer.{Observer}
use Rattle.plc_auto.specs.declared.observer.Observer.TheVariants.{Plain, Hazard, Epoch}
use Rattle.plc_logic.specs.Fit.{OutlineFits}
use Rattle.plc_syntax.specs.Trees.{Placed, InitialTree, WatchTree, UseHazard, UseEpoch, FileTree}
use Rattle.plc_scope.specs.declared.fault.ParseFault.{ParseFault}
use Rattle.plc_scope.specs.declared.scope.Scope.{Scope}
use Rattle.plc_scope.specs.declared.binding.Binding.TheVariants.{Taken}
use Rattle.plc_scope.specs.Scope.{first_scope, declared, role_as, as_protecting, as_without_pointer}
use Rattle.plc_scope.specs.Primitives.{initial_means}
use Rattle.plc_scope.proofs.Holds.{Has, has_along, next}
use Rattle.plc_outparse.proofs.Fits.{at_start}
use Rattle.plc_parse.specs.declared.unit.Unit.{Unit as FileUnit}
use Rattle.plc_parse.specs.Growth.{KeepsLists}
use Rattle.plc_parse.specs.Fit.{WatchesDeclared}
use Rattle.plc_parse.specs.Meaning.{field_means, shared_means, function_means, ghost_means, listed, forms_mean}
use Rattle.plc_parse.specs.Meaning.{watch_means, init_means, placed_op_means, outlined_means, file_means, file_from}
use Rattle.plc_parse.specs.Meaning.{retire}
use Rattle.plc_parse.proofs.Holds.{EachOn, each_on}
use Rattle.plc_parse.proofs.There.{Lists, AllThere, EachThere, each_there, kept_then, Named, named, FieldThere}
use Rattle.plc_parse.proofs.There.{field_there, SharedThere, shared_there, FunctionThere, function_there, after_retire}
use Rattle.plc_parse.proofs.There.{GhostThere, ghost_there, first_there}
use Rattle.plc_parse.proofs.Numbering.{Numbered, nothing, numbered_range}
use Rattle.plc_parse.proofs.Sorted.{IsProtecting, IsWithoutPointer, protecting_there, without_pointer_there}
use Rattle.plc_parse.proofs.Sorted.{initial_sorted}
use Rattle.plc_parse.proofs.SortedBlocks.{Step, forms_sorted, each_sorted, none_other, With, there_with, OpSorted}
use Rattle.plc_parse.proofs.SortedBlocks.{AfterOps, op_sorted}
use Rattle.plc_parse.proofs.Outlined.{outlined_fits}

-- ---- the observer and `init`

-- an observer's functions are there
abbrev IsWatched : Lists → Observer → Type 0
IsWatched d Plain = Unit {0}
IsWatched d (Hazard f) = IsProtecting d f
IsWatched d (Epoch e l) = IsWithoutPointer d e × IsWithoutPointer d l

watch_there : (d : Lists) (s : Scope) (w : Option WatchTree) → AllThere d s → Has (IsWatched d) (watch_means s w)
watch_there d s None h = tt
watch_there d s (Some (UseHazard f)) h = next (IsProtecting d) (IsWatched d) (role_as as_protecting s f) _ (protecting_there d s h f) (λ g a. a)
watch_there d s (Some (UseEpoch e l)) h = next (IsWithoutPointer d) (IsWatched d) (role_as as_without_pointer s e) _ (without_pointer_there d s h e) (λ f a.
    next (IsWithoutPointer d) (IsWatched d) (role_as as_without_pointer s l) _ (without_pointer_there d s h l) (λ g b. (a, b)))

-- whatever else is declared
declared_in : (file : File) (d : Lists) (o : Observer) → file.funcs ≡ d.funcs → IsWatched d o → WatchesDeclared file o
declared_in file d Plain e h = tt
declared_in file d (Hazard f) e h = (h.0, ap (λ fs. slice_get fs f.0) e ∙ h.1, h.2)
declared_in file d (Epoch f g) e h = ((h.0.0, ap (λ fs. slice_get fs f.0) e ∙ h.0.1, h.0.2), (h.1.0, ap (λ fs. slice_get fs g.0) e ∙ h.1.1, h.1.2))

abbrev Starts : Lists → List Primitive → Type 0
Starts d ks = (w : With d) → Step w.0 is_initial false ks

starts_sorted : (d : Lists) (s : Scope) (starts : Option (List (Placed InitialTree))) → AllThere d s → Has (Starts d) (init_means s starts)
starts_sorted d s None h = λ w. record { each = tt; one_new = omega arith }
starts_sorted d s (Some is) h = at_once (forms_mean (initial_means s) 0 false is) (λ w. forms_sorted w.0 is_initial (initial_means s) (initial_sorted w.0 s (there_with d s w h)) 0 false is)
  where
    at_once : (r : Result (List Primitive) ParseFault) → ((w : With d) → Has (Step w.0 is_initial false) r) → Has (Starts d) r
    at_once (Ok ks) k = k
    at_once (Err e) k = tt

-- ---- the file

-- the file is well sorted, and so are its observer and its outline
pub record IsWhole (u : FileUnit) : Type 0 where
  pub sorted : FileIsWellSorted u.file
  pub watched : WatchesDeclared u.file u.observer
  pub outline : OutlineFits u.file u.outline

unit_whole : (lines : List ℕ) (f : FileTree) → Has IsWhole (file_means lines f)
unfolding file_means
unit_whole lines f =
    next (Named first_scope Taken) IsWhole (declared first_scope f.name Taken) _ (named first_scope f.name Taken) (λ s first.
    next (EachThere FieldThere s 0) IsWhole (listed field_means s 0 f.fields) _ (each_there field_means FieldThere field_there s 0 f.fields) (λ fields a.
    next (EachThere SharedThere fields.1 0) IsWhole (listed shared_means fields.1 0 f.pointers) _ (each_there shared_means SharedThere shared_there fields.1 0 f.pointers) (λ pointers b.
    next (EachThere FunctionThere pointers.1 0) IsWhole (listed function_means pointers.1 0 f.functions) _ (each_there function_means FunctionThere function_there pointers.1 0 f.functions) (λ functions c.
    let lists : List Ghost → Lists = λ gs. record { fields = fields.0; shared = pointers.0; funcs = retire ∷ functions.0; ghosts = gs } in
    let there : (gs : List Ghost) → AllThere (lists gs) functions.1 = λ gs.
    c.there (lists gs) (after_retire functions.0) (b.there (lists gs) (at_start pointers.0) (a.there (lists gs) (at_start fields.0) (first.there (lists gs) tt (first_there (lists gs) refl)))) in
    next (IsWatched (lists [])) IsWhole (watch_means functions.1 f.watched) _ (watch_there (lists []) functions.1 f.watched (there [])) (λ observer watched.
    next (EachThere GhostThere functions.1 0) IsWhole (listed ghost_means functions.1 0 f.ghosts) _ (each_there ghost_means GhostThere ghost_there functions.1 0 f.ghosts) (λ ghosts g.
    let d : Lists = lists ghosts.0 in
    let all : AllThere d ghosts.1 = g.there d (at_start ghosts.0) (there ghosts.0) in
    let kept : KeepsLists first_scope ghosts.1 = kept_then first.keeps (kept_then a.keeps (kept_then b.keeps (kept_then c.keeps g.keeps))) in
    let none : Numbered 0 (length ghosts.1.labels) [] = rw kept.labels nothing in
    next (Starts d) IsWhole (init_means ghosts.1 f.starts) _ (starts_sorted d ghosts.1 f.starts all) (λ starts i.
    next (EachOn (OpSorted d) (AfterOps d) []) IsWhole (listed (placed_op_means lines) ghosts.1 0 f.ops) _
    (each_on (placed_op_means lines) (OpSorted d) (AfterOps d) (op_sorted d lines) [] ghosts.1 0 f.ops (record { there = all; locals = kept.locals; numbered = none })) (λ ops o.
    let file : File = file_from fields.0 pointers.0 functions.0 ghosts.0 starts ops.0 ops.1 in
    let w : With d = (file, refl) in
    next (OutlineFits file) IsWhole (outlined_means ops.1 ops.0 f.outlined) _ (outlined_fits ops.1 file refl o.state.there f.outlined) (λ outline fits.
    record {
      sorted = record {
        retires = (retire, refl, refl);
        init = record { each = each_sorted file is_initial starts (i w).each; one_new = omega (arith, (i w).one_new); initial = none_other file is_initial starts (i w).each };
        each_op = λ k x e. o.each k x e w;
        labels = numbered_range (length ops.1.labels) (concat (labels_by_op ops.0)) o.state.numbered;
      };
      watched = declared_in file (lists []) observer refl watched;
      outline = fits;
    })))))))))

pub file_whole : (lines : List ℕ) (f : FileTree) (u : FileUnit) → file_means lines f ≡ Ok u → IsWhole u
file_whole lines f u e = has_along IsWhole (file_means lines f) u e (unit_whole lines f)
