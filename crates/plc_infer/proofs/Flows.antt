-- A well-formed flow's skeleton is a program.
use Rattle.std.proofs.Common.{◌≡◌, ℕ, ◌-◌, ◌<◌, List, [], ◌∷◌, length, get_or, map, Option, Some, refl, sym, ap, subst, ◌∙◌, arith}
use Rattle.std.specs.Prelude.{slice_get, option_map}
use Rattle.std.proofs.lemmas.List.{length-map}
use Rattle.std.proofs.lemmas.Option.{slice_get-map, slice_get-get_or, get_or_from_slice_get}
use Rattle.plc_flow.specs.declared.flow.Step.{Step}
use Rattle.plc_flow.specs.declared.flow.Gate.{Gate}
use Rattle.plc_flow.specs.declared.flow.Flow.{Flow}
use Rattle.plc_flow.specs.WellFormed.{IsWellFormed}
use Rattle.plc_lang.specs.Skeleton.{Skeleton, Passage, locals_at}
use Rattle.plc_flow.specs.Skeleton.{skeleton_of, passage_of, pointers_by_point}
use Rattle.plc_infer.specs.declared.flow_lists.FlowLists.{FlowLists}
use Rattle.plc_infer.specs.Programs.{edge_of, passage_at, some_passage, number_of, IsProgram}
use Rattle.plc_infer.specs.FlowLists.{listed}
use Rattle.plc_infer.proofs.Points.{entries_within}
use Rattle.plc_flow.proofs.Gates.{point_count}
use Rattle.plc_flow.proofs.Ends.{Ends, ends_of}

pub passage_is : (flow : Flow) (k : ℕ) (s : Step) → slice_get flow.steps k ≡ Some s → passage_at (skeleton_of flow) k ≡ passage_of s
passage_is flow k s e = get_or_from_slice_get (map passage_of flow.steps) k (passage_of s) some_passage (slice_get-map passage_of flow.steps k ∙ ap (λ (o : Option Step). option_map passage_of o) e)

pub passages_length : (flow : Flow) → length (skeleton_of flow).passages ≡ length flow.steps
passages_length flow = length-map flow.steps passage_of

some_step : Step
some_step = record { op = record { 0 = 0 }; from = record { 0 = 0 }; to = record { 0 = 0 }; prims = []; line = 0 }

abbrev step_at : Flow → ℕ → Step
step_at flow k = get_or flow.steps k some_step

-- what inference asks of a program
pub flow_is_program : (flow : Flow) → IsWellFormed flow → IsProgram (skeleton_of flow)
flow_is_program flow w = record {
  few = let points = point_count flow w in let few = w.few in omega (arith, points, few);
  few_steps = let few = w.few_steps in omega (arith, passages_length flow, few);
  short = λ k small. subst (λ (x : Passage). length x.prims < 65536) (sym (at k small).0) (let short = w.short k (step_at flow k) (there k small) in omega (arith, short));
  from_in = λ k small. subst (λ (x : Passage). x.from < length (skeleton_of flow).locals) (sym (at k small).0) ((at k small).1.from_in);
  to_in = λ k small. subst (λ (x : Passage). x.to < length (skeleton_of flow).locals) (sym (at k small).0) ((at k small).1.to_in);
  same_locals = λ k small. subst (λ (x : Passage). locals_at (skeleton_of flow) x.to ≡ locals_at (skeleton_of flow) x.from) (sym (at k small).0) ((at k small).1.same);
  entries_in = λ i p e. let points = point_count flow w in let h = (entries_within 0 flow.gates flow.points i p w.ranges e).1 in omega (arith, points, h);
}
  where
    there : (k : ℕ) → k < length (skeleton_of flow).passages → slice_get flow.steps k ≡ Some (step_at flow k)
    there k small = slice_get-get_or flow.steps k some_step (omega (arith, passages_length flow))

    at : (k : ℕ) → k < length (skeleton_of flow).passages → (passage_at (skeleton_of flow) k ≡ passage_of (step_at flow k)) × Ends flow (step_at flow k)
    at k small = (passage_is flow k (step_at flow k) (there k small), ends_of flow k (step_at flow k) w (there k small))

entries_are : (gates : List Gate) → map number_of (map (λ (g : Gate). g.entry) gates) ≡ map (λ (g : Gate). g.entry.0) gates
entries_are [] = refl
entries_are (g ∷ gs) = ap (λ (xs : List ℕ). g.entry.0 ∷ xs) (entries_are gs)

same_parts : (shared n : ℕ) (locals counts entries points : List ℕ) (steps passages : List Passage) → shared ≡ n → locals ≡ counts → entries ≡ points → steps ≡ passages
    → (let s : Skeleton = record { shared = shared; locals = locals; entries = entries; passages = steps } in s) ≡ record { shared = n; locals = counts; entries = points; passages = passages }
same_parts shared n locals counts entries points steps passages a b c d = cc

-- the lists that are read of a flow are its skeleton
pub lists_are : (flow : Flow) (l : FlowLists) → l.shared ≡ length flow.file.shared → l.locals.items ≡ pointers_by_point flow.file.ops flow.gates
    → l.entries.items ≡ map (λ (g : Gate). g.entry) flow.gates → map edge_of l.steps.items ≡ map passage_of flow.steps → listed l ≡ skeleton_of flow
lists_are flow l shared locals entries steps =
    same_parts l.shared (length flow.file.shared) l.locals.items (pointers_by_point flow.file.ops flow.gates) (map number_of l.entries.items) (map (λ (g : Gate). g.entry.0) flow.gates) (map edge_of l.steps.items) (map passage_of flow.steps)
    shared locals (ap (map number_of) entries ∙ entries_are flow.gates) steps
