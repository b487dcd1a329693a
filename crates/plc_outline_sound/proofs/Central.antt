-- A step that breaks an obligation gives a model of its ground set.
use Rattle.std.proofs.Common.{◌≡◌, ℕ, suc, ◌+◌, ◌<◌, ◌==◌, true, false, List, map, length, Option, Some, None}
use Rattle.std.proofs.Common.{slice_get, refl, sym, ap, ◌∙◌, subst, arith, inl, inr, ◌⊎◌}
use Rattle.std.specs.List.{list_any}
use Rattle.std.proofs.Math.Path.{fun_ext}
use Rattle.std.proofs.lemmas.Bool.{cases_Bool, cases_lt}
use Rattle.plc_lang.specs.declared.syntax.Primitive.{Primitive}
use Rattle.plc_lang.specs.Allocation.{is_new}
use Rattle.plc_logic.specs.declared.clause.Clause.{Clause}
use Rattle.plc_logic.specs.declared.clause.Outline.{Outline}
use Rattle.plc_logic.specs.declared.clause.Sort.TheVariants as sorts
use Rattle.plc_ground.specs.declared.terms.Symbol.{Symbol}
use Rattle.plc_ground.specs.declared.terms.Symbol.TheVariants as symbols
use Rattle.plc_ground.specs.Trees.{HasModel}
use Rattle.plc_flow.specs.declared.flow.Flow.{Flow}
use Rattle.plc_vocabulary.specs.declared.acts.Act.{Act}
use Rattle.plc_vocabulary.specs.declared.obligations.Obligation.{Obligation}
use Rattle.plc_vocabulary.specs.declared.setting.Setting.{Setting}
use Rattle.plc_vocabulary.specs.Marks.{program_uses_marks}
use Rattle.plc_vocabulary.specs.Parts.{executed, acting_locals, has_owner, owner_locals, acting_premises, owner_premises}
use Rattle.plc_vocabulary.specs.Parts.{conclusion, claim_made}
use Rattle.plc_vocabulary.specs.Setting.{pointer_loads_from, plain_constants, bound_of, setting_of}
use Rattle.plc_vocabulary.specs.Sorts.{sort_of, loads_of, load_sort}
use Rattle.plc_encoding.specs.Execution.{start, after_all, executed_clauses}
use Rattle.plc_encoding.specs.Items.{values_from, mark_values, beginning, freshness, premises, denied, denied_clause}
use Rattle.plc_encoding.specs.Items.{denied_claim, clauses_of}
use Rattle.plc_oblig.specs.GroundSets.{listed_first, ground_set}
use Rattle.plc_symbolic.specs.declared.symbolic.SymbolicTerm.{SymbolicTerm}
use Rattle.plc_symbolic.specs.declared.symbolic.SymbolicTerm.TheVariants.{Constant, Application}
use Rattle.plc_symbolic.specs.Numbering.{blank, listed_all, written_all, numbered}
use Rattle.plc_gc.specs.State.{GcState, count}
use Rattle.plc_flow.proofs.Each.{Each, each_both, each_so}
use Rattle.plc_outline_sound.proofs.Numbering.{IsReading, true_has_model}
use Rattle.plc_outline_sound.proofs.Acts.{IsNamed, ActsRun, fetched, mark_fetched}
use Rattle.plc_outline_sound.proofs.Meaning.{Meaning, value_in, sort_in, node_sort, IsTrueIn, node_value}
use Rattle.plc_outline_sound.proofs.Future.{Foresees, load_at, map_now}
use Rattle.plc_outline_sound.proofs.Executed.{IsCurrent, IsExecuted, is_executed}
use Rattle.plc_outline_sound.proofs.Scene.{Scene, symbol_in, seen, symbol_fixed}
use Rattle.plc_outline_sound.proofs.Variables.{SortsAre}
use Rattle.plc_outline_sound.proofs.Running.{Ran, ran}
use Rattle.plc_outline_sound.proofs.Sorted.{acts_sorted}
use Rattle.plc_outline_sound.proofs.Reading.{Means}
use Rattle.plc_outline_sound.proofs.Nodes.{IsBefore, IsBelow, IsTermBelow, loads_below, each_pointer_field, pointers_below}
use Rattle.plc_outline_sound.proofs.Nodes.{constants_below, plain_below, nodes_below}
use Rattle.plc_outline_sound.proofs.Enumerated.{all_values_true, marks_true, reads_small}
use Rattle.plc_outline_sound.proofs.Freshness.{fresh_true}
use Rattle.plc_outline_sound.proofs.Premises.{instances_true}
use Rattle.plc_outline_sound.proofs.Conclusion.{clause_denied, claim_denied}
use Rattle.plc_outline_sound.proofs.Beginning.{beginning_true}
use Rattle.plc_outline_sound.proofs.Apart.{apart as symbols_apart}
use Rattle.plc_outline_sound.proofs.Silent.{obligation_is_silent}
use Rattle.plc_outline_sound.proofs.Broken.{meant_named, scene_of, acts_in, meaning_of, any_none, any_some, ClaimFails}
use Rattle.plc_outline_sound.proofs.Broken.{ClauseFails, IsBroken}

module _ (flow : Flow) (outline : Outline) (o : Obligation) (acting owner : ℕ) (bound : ℕ → ℕ) (g h : GcState)
    (broken : IsBroken flow outline o acting owner bound g h) where
  abbrev w : Scene
  w = scene_of flow o acting owner (count g) bound

  abbrev e : Meaning
  e = meaning_of flow outline o (scene_of flow o acting owner (count g) bound) g

  abbrev acts : List Act
  acts = acts_in flow outline o

  abbrev s : Setting
  s = setting_of flow outline o

  -- ---- the run

  run : Ran flow.file (program_uses_marks flow outline) w broken.ready.shape broken.ready.shaped broken.ready.apart refl
      g (executed flow o) h
  run = ran flow.file (program_uses_marks flow outline) w broken.ready.shape broken.ready.shaped broken.ready.apart refl
      (executed flow o) g h broken.ready.taken broken.ready.fields broken.ready.ranges
      (obligation_is_silent flow outline o) broken.ready.unmarked broken.ready.names broken.ready.sorted
      (λ some. refl) broken.ready.one_new

  acted : ActsRun (count g) (count h) (seen w g) acts (seen w h)
  acted = run.runs (count h) (omega arith)

  old_or_new : (n : ℕ) → n < count h → (n < count g) ⊎ ((list_any is_new (executed flow o) ≡ true) × (n ≡ count g))
  old_or_new n less = go (cases_Bool (list_any is_new (executed flow o)))
    where
      go : (list_any is_new (executed flow o) ≡ true) ⊎ (list_any is_new (executed flow o) ≡ false)
          → (n < count g) ⊎ ((list_any is_new (executed flow o) ≡ true) × (n ≡ count g))
      go (inl made) = elim (cases_lt n (count g)) [
        | inl old ↦ inl old
        | inr more ↦ inr (made, (let c = run.count_is in let one = broken.ready.one_new in omega arith))
      ]
      go (inr none) = (let c = run.count_is in let z = any_none (executed flow o) none in inl (omega arith))

  made : list_any is_new (executed flow o) ≡ true → count g < count h
  made is = (let c = run.count_is in let some = any_some (executed flow o) is in omega arith)

  bound_small : (i : ℕ) → i < bound_of (conclusion flow outline o) → (0 < bound i) × (bound i < count h)
  bound_small = go (conclusion flow outline o) broken.clause_fails
    where
      go : (c : Option Clause) → ClauseFails flow.file w h (has_owner o) c → (i : ℕ) → i < bound_of c
          → (0 < bound i) × (bound i < count h)
      go None fails i less = absurd (omega arith)
      go (Some c) fails i less = fails.named i less

  -- ---- the meaning

  sorts_are : SortsAre e flow.file (acting_locals flow o) (owner_locals flow o)
  sorts_are = record {
    null = refl;
    shared = λ i. refl;
    my = λ k. refl;
    other = λ k. refl;
    new = refl;
    bound = λ i. refl;
    yes = refl;
    no = refl;
    nobody = refl;
    me = refl;
    you = refl;
    value = λ v. refl;
    number = λ n. refl;
    maps = λ m. refl;
    shared_marks = λ i. refl;
    my_marks = λ k. refl;
    other_marks = λ k. refl;
    loaded_marks = λ j. refl;
  }

  load_sorts : (j : ℕ) → e.symbol_sort (symbols.Loaded (0 + j)) ≡ load_sort (slice_get (loads_of acts) j)
  load_sorts j = ap (λ n. load_sort (slice_get (loads_of acts) n)) (let same : 0 + j ≡ j = omega arith in same)

  foresees : Foresees e start (seen w g) acts
  foresees = record { maps = λ m k n le. refl; loads = λ j le. refl; marks = λ j le. refl }

  its_value : (c : Symbol) → IsNamed c → e.symbol c ≡ symbol_in w g c
  its_value c named =
      meant_named (load_at fetched start (seen w g) acts) (load_at mark_fetched start (seen w g) acts) w g c named

  now : IsCurrent e start (seen w g)
  now = record { value = its_value; sort = λ c. refl }

  means_before : Means e flow.file w start g
  means_before = record {
    sorts_are = sorts_are;
    ghosts = refl;
    now = now;
    entries = map_now e start (seen w g) acts foresees;
    constants = λ c at named. its_value c named;
  }

  before : IsBefore e flow.file w g (count h)
  before = record {
    means = means_before;
    ranges = broken.ready.ranges;
    node = refl;
    few = (let c = run.count_is in omega arith);
    fields = broken.ready.fields;
  }

  -- ---- nodes

  pointers : Each (IsBelow e (count g)) s.pointers
  pointers = pointers_below e flow.file w g (count h) before (length flow.file.shared)

  loads : Each (IsBelow e (count h)) (pointer_loads_from 0 acts)
  loads = loads_below e (count g) (count h) acts start (seen w g) (seen w h) foresees acted load_sorts

  constants : Each (IsBelow e (count h)) s.constants
  constants = constants_below e flow.file w g (count h) before s.pointers (pointer_loads_from 0 acts) s.makes s.bound
      pointers loads made (λ i less. (bound_small i less).1)

  nodes : Each (IsTermBelow e (count h)) s.nodes
  nodes = nodes_below e flow.file w g (count h) before s.constants (outline.depth == 1) s.constants s.fields
      (each_pointer_field flow.file) constants

  instance_nodes : Each (IsTermBelow e (count h)) s.instances
  instance_nodes = nodes_below e flow.file w g (count h) before
      (plain_constants s.pointers s.bound (pointer_loads_from 0 acts)) (outline.depth == 1) s.constants s.fields
      (each_pointer_field flow.file)
      (plain_below e flow.file w g (count h) before s.pointers (pointer_loads_from 0 acts) s.makes s.bound
      pointers loads made (λ i less. (bound_small i less).1))

  are_nodes : Each (λ t. node_sort e t ≡ sorts.Node) s.nodes
  are_nodes = each_so (IsTermBelow e (count h)) (λ t. node_sort e t ≡ sorts.Node) (λ t b. b.sort) s.nodes nodes

  -- ---- after the step

  done : IsExecuted e (count g) (count h) refl refl s.nodes start acts (seen w h)
  done = is_executed e (count g) (count h) refl refl s.nodes are_nodes start (seen w g) acts (seen w h) foresees now
      (acts_sorted e flow.file (program_uses_marks flow outline) w sorts_are broken.ready.shape broken.ready.shaped
      (executed flow o) start broken.ready.names broken.ready.sorted load_sorts) acted

  means_after : Means e flow.file w (after_all start acts) h
  means_after = record {
    sorts_are = sorts_are;
    ghosts = refl;
    now = done.now;
    entries = done.entries;
    constants = λ c at named. its_value c named ∙ symbol_fixed w g h c at;
  }

  denied_true : Each (IsTrueIn e) (denied flow outline s (after_all start acts) o)
  denied_true = each_both (IsTrueIn e)
      (denied_clause flow.file.ghosts s (after_all start acts) (conclusion flow outline o))
      (denied_claim s (after_all start acts) (claim_made flow o))
      (clause (conclusion flow outline o) broken.clause_fails) (claim (claim_made flow o) broken.claim_fails)
    where
      clause : (c : Option Clause) → ClauseFails flow.file w h (has_owner o) c
          → Each (IsTrueIn e) (denied_clause flow.file.ghosts s (after_all start acts) c)
      clause None fails = tt
      clause (Some c) fails = clause_denied e flow.file w (after_all start acts) h means_after s c fails

      claim : (k : Option Primitive) → ClaimFails w h broken.ready.shape k
          → Each (IsTrueIn e) (denied_claim s (after_all start acts) k)
      claim None fails = tt
      claim (Some k) (p, is, there, fails) =
          subst (λ k. Each (IsTrueIn e) (denied_claim s (after_all start acts) (Some k))) (sym is)
          (claim_denied e flow.file w (after_all start acts) h means_after s broken.ready.shape broken.ready.shaped
          refl p there fails)

  -- ---- all items

  premises_true : Each (IsTrueIn e) (premises flow outline s o)
  premises_true = each_both (IsTrueIn e) _ _
      (instances_true e flow.file w g (count h) before (list_any is_new (executed flow o)) old_or_new s refl
      instance_nodes false (acting_premises flow outline o) (broken.ready.acting_holds bound))
      (instances_true e flow.file w g (count h) before (list_any is_new (executed flow o)) old_or_new s refl
      instance_nodes true (owner_premises flow outline o) (broken.ready.owner_holds bound))

  all_true : Each (IsTrueIn e) (clauses_of flow outline s o)
  unfolding clauses_of
  all_true =
      each_both (IsTrueIn e) (values_from 0 0 flow.file.ghosts s.nodes) _
      (all_values_true e flow.file w g (count h) before broken.ready.values s.nodes)
      (each_both (IsTrueIn e) (mark_values s) _
      (marks_true e flow.file w g (count h) before
      (reads_small (count g) (count h) start (seen w g) (seen w h) acts acted)
      s s.pointers (pointer_loads_from 0 acts) refl)
      (each_both (IsTrueIn e) (beginning flow s o) _
      (beginning_true e flow.file w g (count h) before flow s o refl refl (broken.ready.begins bound) bound_small
      old_or_new)
      (each_both (IsTrueIn e) (freshness flow.file s) _
      (fresh_true e flow.file w g (count h) before s pointers (each_pointer_field flow.file))
      (each_both (IsTrueIn e) (premises flow outline s o) _ premises_true
      (each_both (IsTrueIn e) (executed_clauses s.nodes start s.acts) _ done.clauses denied_true)))))

  -- ---- the set

  reading : IsReading (sort_in e) (value_in e)
  reading = record {
    maps = λ m v n k same. ap (e.version m v) (sym (node_value e n) ∙ same ∙ node_value e k);
    sorts = λ m v n k. refl;
    apart = symbols_apart e.symbol_sort e.symbol (record {
      nobody = refl;
      me = omega arith;
      you = omega arith;
      others = λ same. broken.ready.apart (let n : suc acting ≡ suc owner = same in omega arith);
      ghosts = flow.file.ghosts;
      values = λ v. refl;
      value_sorts = λ v. refl;
      numbers = λ n. refl;
      yes = refl;
      no = refl;
    });
  }

  same_sort : (t : SymbolicTerm) → sort_in e t ≡ sort_of flow o acts t
  same_sort (Constant c) = refl
  same_sort (Application m v n) = refl

  pub has_model : HasModel (ground_set flow outline o)
  unfolding ground_set
  has_model =
      let d = written_all (listed_all blank (listed_first flow outline s)) (clauses_of flow outline s o) in
      subst (λ f. HasModel (numbered (map f d.terms) d)) (fun_ext same_sort)
      (true_has_model (sort_in e) (value_in e) reading (listed_first flow outline s)
      (clauses_of flow outline s o) all_true)
