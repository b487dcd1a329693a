-- Held outlines are true: by induction over a run, by the acting thread and one other thread at a time.
use Rattle.std.proofs.Common.{◌≡◌, ℕ, suc, true, false, List, [], length, get_or, replicate, Option, Some, None}
use Rattle.std.proofs.Common.{slice_get, refl, sym, ap, ◌∙◌, subst, arith, inl, inr}
use Rattle.std.proofs.lemmas.Bool.{cases_eq}
use Rattle.std.proofs.lemmas.Option.{slice_get_within, same_Some}
use Rattle.plc_base.specs.Tables.{put_at}
use Rattle.plc_base.proofs.Tables.{get-put_same, get-put_other, get-replicate}
use Rattle.plc_lang.specs.declared.syntax.Op.{Op}
use Rattle.plc_lang.specs.Locals.{parameters_of, pointers_of}
use Rattle.plc_lang.specs.Shape.{shape_of, init_shape}
use Rattle.plc_flow.specs.declared.flow.Flow.{Flow}
use Rattle.plc_flow.specs.declared.flow.Gate.{Gate}
use Rattle.plc_flow.specs.declared.points.Point.{Point}
use Rattle.plc_flow.proofs.Gates.{gate_from}
use Rattle.plc_logic.specs.declared.clause.Outline.{Outline}
use Rattle.plc_logic.specs.Fit.{ClauseFits, InvariantFits}
use Rattle.plc_vocabulary.specs.declared.obligations.Obligation.TheVariants.{Start, Enter}
use Rattle.plc_vocabulary.specs.Fit.{Fits}
use Rattle.plc_vocabulary.specs.Marks.{program_uses_marks}
use Rattle.plc_vocabulary.specs.Parts.{entry_clauses}
use Rattle.plc_vocabulary.specs.Points.{clauses_at}
use Rattle.plc_oblig.specs.Obligations.{op_id}
use Rattle.plc_gc.specs.declared.slot.Slot.TheVariants.{Shared as in_shared, SharedMark as shared_mark, Data as in_data}
use Rattle.plc_gc.specs.declared.slot.Map.TheVariants.{Auxiliary as auxiliary_field}
use Rattle.plc_gc.specs.declared.slot.Pointer.{Pointer}
use Rattle.plc_gc.specs.State.{GcState, Locals, null_pointer, value, count, locals_of, with_locals, first_state}
use Rattle.plc_gc.specs.State.{no_locals, starting}
use Rattle.plc_gc.specs.Clauses.{Holds}
use Rattle.plc_gc.specs.Ranges.{IsInRange, ValuesAreInRange}
use Rattle.plc_gc.specs.Run.{GcConfiguration, point_of, beginning, initialised, first_configuration}
use Rattle.plc_gc.proofs.Views.{gives, first}
use Rattle.plc_gc.specs.Unmarked.{AllUnmarked}
use Rattle.plc_gc.proofs.Ranges.{ranged_given, ranged_first}
use Rattle.plc_gc.proofs.Unmarked.{unmarked_given, unmarked_first}
use Rattle.plc_flow.proofs.Each.{Each, each_get}
use Rattle.plc_oblig.proofs.Lists.{each_place, each_of_all}
use Rattle.plc_outline_sound.proofs.Agreement.{each_same, nobody_sees, other_sees, given_fields}
use Rattle.plc_outline_sound.proofs.Broken.{scene_of, IsReady}
use Rattle.plc_oblig.proofs.Standing.{Stands, point_clauses_fit, op_locals}
use Rattle.plc_outline_sound.proofs.Obliged.{AreMet}
use Rattle.plc_outline_sound.proofs.Concluding.{invariant_read, point_read, invariants_hold, concludes}
use Rattle.plc_outline_sound.proofs.Parameters.{shape_fits, no_shape_fits, others_zero}
use Rattle.plc_outline_sound.proofs.Steps.{clauses_counted}

-- what the outline says of a configuration, but of claims
pub record IsKept (outline : Outline) (flow : Flow) (c : GcConfiguration) : Type 0 where
  pub invariants : Each (Holds c.state None) outline.invariants
  pub points : (t : ℕ) (p : Point) → point_of c t ≡ Some p
      → Each (Holds c.state (Some t)) (clauses_at flow outline p.at)

other_thread : (t : ℕ) → suc t ≡ t → ⊥
other_thread t e = omega arith

module _ (flow : Flow) (outline : Outline) (threads : ℕ) (fits : Fits flow outline) (met : AreMet flow outline) where
  invariants_fit : Each (InvariantFits flow.file) outline.invariants
  invariants_fit = each_of_all (InvariantFits flow.file) outline.invariants fits.outline_fits.each_invariant

  -- ---- where runs begin

  ready_fields : (with_locals (first_state flow threads) 0 (Some no_locals)).fields ≡ flow.file.fields
  ready_fields = given_fields (first_state flow threads) 0 (Some no_locals)

  ready_values : ValuesAreInRange flow.file (with_locals (first_state flow threads) 0 (Some no_locals))
  ready_values h d named some k =
      let a = (gives (first_state flow threads) 0 (Some no_locals)).nodes.entries (auxiliary_field h) k in
      let f = first flow.file.fields (length flow.file.ghosts) (length flow.file.shared) threads in
      let b = f.entries (auxiliary_field h) k in
      omega arith

  start_ready : (i : ℕ) (h : GcState) → initialised flow threads ≡ Some h
      → IsReady flow outline (Start i) 0 1 (with_locals (first_state flow threads) 0 (Some no_locals)) h
  start_ready i h e = record {
    apart = λ e. omega arith;
    shape = init_shape flow.file;
    shaped = no_shape_fits flow.file;
    names = fits.flow_fits.init;
    sorted = fits.sorted.file.init.each;
    one_new = fits.sorted.file.init.one_new;
    taken = e;
    fields = ready_fields;
    ranges = ranged_given (first_state flow threads) 0 (Some no_locals) (λ v. refl) (ranged_first flow threads);
    unmarked = λ none.
        unmarked_given (first_state flow threads) 0 (Some no_locals) (λ v. refl) (unmarked_first flow threads);
    values = ready_values;
    begins = λ b. (
      λ j. (gives (first_state flow threads) 0 (Some no_locals)).shared j
          ∙ (first flow.file.fields (length flow.file.ghosts) (length flow.file.shared) threads).values (in_shared j),
      λ j. (gives (first_state flow threads) 0 (Some no_locals)).shared_marks j
          ∙ (first flow.file.fields (length flow.file.ghosts) (length flow.file.shared) threads).values (shared_mark j),
      (gives (first_state flow threads) 0 (Some no_locals)).nodes.count
          ∙ (first flow.file.fields (length flow.file.ghosts) (length flow.file.shared) threads).count,
    );
    acting_holds = λ b. tt;
    owner_holds = λ b. tt;
  }

  begun_invariants : (h : GcState) → initialised flow threads ≡ Some h → Each (Holds h None) outline.invariants
  begun_invariants h e = each_place (Holds h None) outline.invariants (λ i c at.
      concludes flow outline (Start i) 0 1 (with_locals (first_state flow threads) 0 (Some no_locals)) h
      (start_ready i h e) (met.start i (slice_get_within outline.invariants i c at)) c None at refl
      (record {
        locals = [];
        in_operation = false;
        reads = λ b. invariant_read flow.file
            (scene_of flow (Start i) 0 1 (count (with_locals (first_state flow threads) 0
            (Some no_locals))) b) h false c;
        fits = each_get (InvariantFits flow.file) outline.invariants invariants_fit i c at;
      }))

  pub begun : (c : GcConfiguration) → first_configuration flow threads ≡ Some c → IsKept outline flow c
  begun c e = go (initialised flow threads) refl e
    where
      go : (end : Option GcState) → initialised flow threads ≡ end → beginning threads end ≡ Some c
          → IsKept outline flow c
      go None is e = cc
      go (Some h) is e =
          let same : record { state = with_locals h 0 None; points = replicate threads None } ≡ c = cc in
          subst (IsKept outline flow) same (record {
            invariants = each_same h (with_locals h 0 None) None (nobody_sees h 0 None) outline.invariants
                (begun_invariants h is);
            points = λ t p busy. (let idle = sym (get-replicate None threads t) ∙ busy in cc);
          })

  -- ---- a thread's locals are set anew

  pub anew_invariants : (c : GcConfiguration) → IsKept outline flow c → (t : ℕ) (l : Option Locals)
      → Each (Holds (with_locals c.state t l) None) outline.invariants
  anew_invariants c kept t l = each_same c.state (with_locals c.state t l) None
      (nobody_sees c.state t l) outline.invariants kept.invariants

  pub anew_points : (c : GcConfiguration) → IsKept outline flow c → (t : ℕ) (l : Option Locals) (q : Option Point)
      → ((p : Point) → q ≡ Some p → Each (Holds (with_locals c.state t l) (Some t)) (clauses_at flow outline p.at))
      → (u : ℕ) (p : Point) → get_or (put_at None c.points t q) u None ≡ Some p
      → Each (Holds (with_locals c.state t l) (Some u)) (clauses_at flow outline p.at)
  anew_points c kept t l q here u p busy = elim (cases_eq u t) [
    | inl same ↦ subst (λ u. Each (Holds (with_locals c.state t l) (Some u)) (clauses_at flow outline p.at)) (sym same)
        (here p (sym (get-put_same None c.points t q)
        ∙ subst (λ u. get_or (put_at None c.points t q) u None ≡ Some p) same busy))
    | inr ne ↦ each_same c.state (with_locals c.state t l) (Some u) (other_sees c.state t l u ne)
        (clauses_at flow outline p.at) (kept.points u p (sym (get-put_other None c.points t q u ne) ∙ busy))
  ]

  -- ---- starts

  module _ (c : GcConfiguration) (kept : IsKept outline flow c) (t op : ℕ) (operation : Op) (gate : Gate)
      (args : List ℕ)
      (named : slice_get flow.file.ops op ≡ Some operation) (opens : slice_get flow.gates op ≡ Some gate)
      (counted : length args ≡ parameters_of operation)
      (ranges : IsInRange (with_locals c.state t (Some (starting operation args))))
      (unmarked : program_uses_marks flow outline ≡ false
      → AllUnmarked (with_locals c.state t (Some (starting operation args))))
      (values : ValuesAreInRange flow.file (with_locals c.state t (Some (starting operation args))))
      (fields : (with_locals c.state t (Some (starting operation args))).fields ≡ flow.file.fields)
      (held : (locals_of (with_locals c.state t (Some (starting operation args))) t).declared ≡ operation.locals) where
    abbrev new : GcState
    new = with_locals c.state t (Some (starting operation args))

    enters : Stands flow op gate.entry.0 operation
    enters = record {
      gate = gate;
      opens = opens;
      within = (gate_from 0 flow.points flow.gates op gate fits.flow_fits.well.ranges opens).entry;
      named = named;
    }

    enter_ready : (i : ℕ) → IsReady flow outline (Enter (op_id op) i) t (suc t) new new
    enter_ready i = record {
      apart = other_thread t;
      shape = shape_of flow.file operation;
      shaped = subst (Rattle.plc_outline_sound.proofs.Variables.ShapeFits (shape_of flow.file operation))
          (sym (op_locals flow op operation named))
          (shape_fits flow.file operation (fits.sorted.file.each_op op operation named).parameters);
      names = tt;
      sorted = tt;
      one_new = omega arith;
      taken = refl;
      fields = fields;
      ranges = ranges;
      unmarked = unmarked;
      values = values;
      begins = λ b. (
        λ v. (gives c.state t (Some (starting operation args))).pointers v
            ∙ ap (λ (p : Pointer). p.node) (get-replicate null_pointer (pointers_of operation) v),
        λ v. (gives c.state t (Some (starting operation args))).marks v
            ∙ ap (λ (p : Pointer). p.mark) (get-replicate null_pointer (pointers_of operation) v),
        λ k l at other. subst (λ ls. slice_get ls k ≡ Some l
            → value new (in_data t (Rattle.plc_lang.specs.Numbering.data_number ls k)) ≡ 0)
            (sym (op_locals flow op operation named))
            (λ at. (gives c.state t (Some (starting operation args))).values
            (Rattle.plc_lang.specs.Numbering.data_number operation.locals k)
            ∙ others_zero operation
            (fits.sorted.file.each_op op operation named).parameters args counted k l at other) at,
      );
      acting_holds = λ b. invariants_hold flow.file
          (scene_of flow (Enter (op_id op) i) t (suc t) (count new) b) new outline.invariants invariants_fit
          (anew_invariants c kept t (Some (starting operation args)));
      owner_holds = λ b. tt;
    }

    entered : Each (Holds new (Some t)) (clauses_at flow outline gate.entry.0)
    entered = each_place (Holds new (Some t)) (clauses_at flow outline gate.entry.0) (λ i x at.
        concludes flow outline (Enter (op_id op) i) t (suc t) new new (enter_ready i)
        (met.enter op gate i opens (clauses_counted flow outline gate.entry.0 i x at)) x (Some t)
        (ap (λ g. slice_get (entry_clauses flow outline g) i) opens ∙ at) refl
        (record {
          locals = operation.locals;
          in_operation = true;
          reads = λ b. point_read flow.file
              (scene_of flow (Enter (op_id op) i) t (suc t) (count new) b) new false operation.locals x
              (op_locals flow op operation named) held;
          fits = each_get (ClauseFits flow.file operation.locals true) (clauses_at flow outline gate.entry.0)
              (point_clauses_fit flow outline fits op gate.entry.0 operation enters) i x at;
        }))

    pub started : IsKept outline flow
        (record { state = new; points = put_at None c.points t (Some (record { op = op; at = gate.entry.0 })) })
    started = record {
      invariants = anew_invariants c kept t (Some (starting operation args));
      points = anew_points c kept t (Some (starting operation args)) (Some (record { op = op; at = gate.entry.0 }))
          (λ p is.
          let at : gate.entry.0 ≡ p.at =
          ap (λ (x : Point). x.at) (same_Some (record { op = op; at = gate.entry.0 }) p is) in
          subst (λ n. Each (Holds new (Some t)) (clauses_at flow outline n)) at entered);
    }
