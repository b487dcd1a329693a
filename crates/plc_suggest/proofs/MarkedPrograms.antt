-- The program that a trial hands to inference is the flow's, marked by the spots of the trial.
use Rattle.std.proofs.Common.{Bor, ◌≡◌, ℕ, zero, suc, ◌+◌, ◌<◌, ◌≤◌, List, [], ◌∷◌, ◌++◌, length, get_or, map, refl}
use Rattle.std.proofs.Common.{sym, ap, subst, ◌∙◌, arith, length-append}
use Rattle.std.proofs.lemmas.List.{length-map}
use Rattle.std.proofs.lemmas.Option.{slice_get-get_or}
use Rattle.plc_base.specs.declared.ids.PointId.{PointId}
use Rattle.std.specs.Prelude.{All}
use Rattle.plc_type.specs.declared.env.Env.{Env}
use Rattle.plc_lang.specs.declared.syntax.Primitive.{Primitive}
use Rattle.plc_lang.specs.Skeleton.{Skeleton, Passage, locals_at}
use Rattle.plc_flow.specs.declared.flow.Step.{Step}
use Rattle.plc_flow.specs.declared.flow.Gate.{Gate}
use Rattle.plc_flow.specs.declared.flow.Flow.{Flow}
use Rattle.plc_flow.specs.WellFormed.{IsWellFormed}
use Rattle.plc_flow.specs.Skeleton.{skeleton_of, passage_of, pointers_by_point}
use Rattle.plc_flow.specs.StepsByPoint.{IsIndexOf, first_points as firsts_of}
use Rattle.plc_infer.specs.declared.program.Edge.{Edge}
use Rattle.plc_infer.specs.declared.program.Program.{Program}
use Rattle.plc_infer.specs.Programs.{edge_of, program_of, first_points, passage_at, some_passage, number_of, IsProgram}
use Rattle.plc_infer.specs.Resuming.{IsBegun, CanResume}
use Rattle.plc_infer.proofs.Flows.{flow_is_program, passage_is}
use Rattle.plc_suggest.specs.declared.spot.Spot.{Spot}
use Rattle.plc_suggest.specs.declared.parts.Parts.{Parts}
use Rattle.plc_suggest.specs.Spots.{claims_at, with_claims, marked_from, marked}
use Rattle.plc_suggest.specs.Suggestions.{most_spots}
use Rattle.plc_suggest.specs.Marking.{lists_of, with_lists, AreMarked}
use Rattle.plc_suggest.specs.Trials.{AreParts, IsMarkedProgram}
use Rattle.plc_suggest.proofs.Listing.{flow_step}
use Rattle.plc_suggest.proofs.Claiming.{claims_few, marked_with}
use Rattle.plc_suggest.proofs.Marked.{marked_count}

-- ---- a marked flow is a program

passage_from : (spots : List Spot) (n k : ℕ) (steps : List Passage) → k < length steps
    → get_or (marked_from spots n steps) k some_passage ≡ with_claims (claims_at spots (n + k))
    (get_or steps k some_passage)
passage_from spots n k [] small = absurd (omega arith)
passage_from spots n zero (x ∷ steps) small =
    let same : n ≡ n + 0 = omega arith in ap (λ (m : ℕ). with_claims (claims_at spots m) x) same
passage_from spots n (suc k) (x ∷ steps) small =
    let same : n + 1 + k ≡ n + suc k = omega arith in
    passage_from spots (n + 1) k steps (omega arith)
    ∙ ap (λ (m : ℕ). with_claims (claims_at spots m) (get_or steps k some_passage)) same

marked_passage : (s : Skeleton) (spots : List Spot) (k : ℕ) → k < length s.passages
    → passage_at (marked spots s) k ≡ with_claims (claims_at spots k) (passage_at s k)
unfolding marked
marked_passage s spots k small =
    let same : 0 + k ≡ k = omega arith in
    passage_from spots 0 k s.passages small ∙ ap (λ (m : ℕ). with_claims (claims_at spots m) (passage_at s k)) same

step_short : (flow : Flow) (k : ℕ) → IsWellFormed flow → k < length flow.steps
    → length (passage_at (skeleton_of flow) k).prims ≤ 112
step_short flow k well small =
    let there = slice_get-get_or flow.steps k (flow_step flow k) small in
    let x = get_or flow.steps k (flow_step flow k) in
    let short = well.short k x there in
    subst (λ (y : Passage). length y.prims ≤ 112) (sym (passage_is flow k x there)) (omega (arith, short))

pub marked_is_program : (flow : Flow) (spots : List Spot) → IsWellFormed flow → length spots ≤ most_spots
    → IsProgram (marked spots (skeleton_of flow))
unfolding marked
marked_is_program flow spots well few = record {
  few = base.few;
  few_steps = let h = base.few_steps in omega (arith, h, marked_count (skeleton_of flow) spots);
  short = λ k small. subst (λ (x : Passage). length x.prims < 65536) (sym (there k small)) (short k (inside k small));
  from_in = λ k small. subst (λ (x : Passage). x.from < length (skeleton_of flow).locals) (sym (there k small))
      (base.from_in k (inside k small));
  to_in = λ k small. subst (λ (x : Passage). x.to < length (skeleton_of flow).locals) (sym (there k small))
      (base.to_in k (inside k small));
  same_locals = λ k small. subst (λ (x : Passage). locals_at (skeleton_of flow) x.to ≡ locals_at (skeleton_of flow)
      x.from) (sym (there k small)) (base.same_locals k (inside k small));
  entries_in = base.entries_in;
}
  where
    base : IsProgram (skeleton_of flow)
    base = flow_is_program flow well

    inside : (k : ℕ) → k < length (marked spots (skeleton_of flow)).passages → k < length (skeleton_of flow).passages
    inside k small = subst (λ (n : ℕ). k < n) (marked_count (skeleton_of flow) spots) small

    there : (k : ℕ) → k < length (marked spots (skeleton_of flow)).passages
        → passage_at (marked spots (skeleton_of flow)) k ≡ with_claims (claims_at spots k)
        (passage_at (skeleton_of flow) k)
    there k small = marked_passage (skeleton_of flow) spots k (inside k small)

    short : (k : ℕ) → k < length (skeleton_of flow).passages
        → length (claims_at spots k ++ (passage_at (skeleton_of flow) k).prims) < 65536
    short k small =
        let own = step_short flow k well (omega (arith, length-map flow.steps passage_of)) in
        let claims = claims_few spots k in
        omega (arith, length-append (claims_at spots k) (passage_at (skeleton_of flow) k).prims, own, claims, few)

-- ---- what inference reads

entry_points : (gates : List Gate) → map number_of (map (λ (g : Gate). g.entry) gates) ≡ map (λ (g : Gate). g.entry.0)
    gates
entry_points [] = refl
entry_points (g ∷ gs) = ap (λ (xs : List ℕ). g.entry.0 ∷ xs) (entry_points gs)

same_parts : (a b : ℕ) (c d e f : List ℕ) (x y : List Passage) → a ≡ b → c ≡ d → e ≡ f → x ≡ y
    → (let s : Skeleton = record { shared = a; locals = c; entries = e; passages = x } in s) ≡ record
    { shared = b; locals = d; entries = f; passages = y }
same_parts a b c d e f x y g h i j = cc

-- the steps that are made are marked, of lists and steps that the code reads again
pub steps_marked : {lists read : List (List Primitive)} {edges : List Edge} (flow : Flow) (spots : List Spot)
    (steps : List Edge) → lists ≡ lists_of spots 0 flow.steps → read ≡ lists
    → map edge_of edges ≡ with_lists read flow.steps → steps ≡ edges → AreMarked flow spots steps
steps_marked flow spots steps made same are again =
    ap (map edge_of) again ∙ are ∙ ap (λ (ls : List (List Primitive)). with_lists ls flow.steps) (same ∙ made)
    ∙ marked_with spots 0 flow.steps

program_is_marked : (p : Parts) (spots : List Spot) (program : Program) → AreParts p → program.shared ≡ p.shared
    → program.locals.now ≡ p.locals.now → program.entries.now ≡ p.entries.now → AreMarked p.flow.now spots program.steps.now
    → program_of program ≡ marked spots (skeleton_of p.flow.now)
unfolding marked
program_is_marked p spots program parts shared locals entries steps =
    same_parts program.shared (length p.flow.now.file.shared) program.locals.now
    (pointers_by_point p.flow.now.file.ops p.flow.now.gates)
    (map number_of program.entries.now) (map (λ (g : Gate). g.entry.0) p.flow.now.gates)
    (map edge_of program.steps.now) (marked_from spots 0 (map passage_of p.flow.now.steps))
    (shared ∙ parts.shared) (locals ∙ parts.locals)
    (ap (map number_of) (entries ∙ parts.entries) ∙ entry_points p.flow.now.gates)
    steps

edges_count : (p : Parts) (spots : List Spot) (edges : List Edge) → AreMarked p.flow.now spots edges
    → length edges ≡ length p.flow.now.steps
unfolding marked
edges_count p spots edges h =
    sym (length-map edges edge_of) ∙ ap length h ∙ marked_count (skeleton_of p.flow.now)
    spots
    ∙ length-map p.flow.now.steps passage_of

-- the steps leave the points that those of the flow leave
firsts_from : (spots : List Spot) (k : ℕ) (steps : List Step) (edges : List Edge)
    → map edge_of edges ≡ marked_from spots k (map passage_of steps)
    → map (λ (e : Edge). e.from) edges ≡ map (λ (x : Step). x.from) steps
firsts_from spots k [] [] e = refl
firsts_from spots k [] (y ∷ ys) e = absurd cc
firsts_from spots k (x ∷ xs) [] e = absurd cc
firsts_from spots k (x ∷ xs) (y ∷ ys) e =
    let head : edge_of y ≡ with_claims (claims_at spots k) (passage_of x) = cc in
    let rest : map edge_of ys ≡ marked_from spots (k + 1) (map passage_of xs) = cc in
    let from : y.from ≡ x.from = ap (λ (z : Passage). let p : PointId = record { 0 = z.from } in p) head in
    ap (λ (q : PointId). q ∷ map (λ (e : Edge). e.from) ys) from
    ∙ ap (λ (qs : List PointId). x.from ∷ qs) (firsts_from spots (k + 1) xs ys rest)

firsts_are : (p : Parts) (spots : List Spot) (program : Program) → AreMarked p.flow.now spots program.steps.now
    → first_points program ≡ firsts_of p.flow.now
firsts_are p spots program h = firsts_from spots 0 p.flow.now.steps program.steps.now h

-- the program that is handed to inference is marked
pub program_marked : (p : Parts) (spots : List Spot) (steps : Bor (List Edge)) → AreParts p
    → AreMarked p.flow.now spots steps.now
    → IsMarkedProgram p spots (record { shared = p.shared; locals = p.locals; entries = p.entries; steps = steps })
program_marked p spots steps parts marks =
    let program : Program = record { shared = p.shared; locals = p.locals; entries = p.entries; steps = steps } in
    record {
      is = program_is_marked p spots program parts refl refl refl marks;
      firsts = firsts_are p spots program marks;
      count = edges_count p spots steps.now marks;
    }

-- and inference may go on with it
pub can_resume : (p : Parts) (spots : List Spot) (program : Program) (changed : List ℕ) (envs : List Env) → AreParts p
    → length spots ≤ most_spots → IsMarkedProgram p spots program
    → All (λ (k : ℕ). k < length p.flow.now.steps) changed
    → IsBegun p.observer.now (marked spots (skeleton_of p.flow.now)) envs changed
    → CanResume p.observer.now program p.index.now changed envs
can_resume p spots program changed envs parts few h known begun = record {
  program = subst IsProgram (sym h.is) (marked_is_program p.flow.now spots parts.well few);
  index = subst (λ (ps : List PointId). IsIndexOf ps p.index.now) (sym h.firsts) parts.index;
  known = λ k d small. subst (λ (n : ℕ). get_or changed k d < n) (sym h.count) (known k d small);
  begun = subst (λ (s : Skeleton). IsBegun p.observer.now s envs changed) (sym h.is) begun;
}
