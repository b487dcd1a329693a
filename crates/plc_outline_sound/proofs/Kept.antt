-- Each move keeps what a held outline says, and so each run does.
use Rattle.std.proofs.Common.{◌≡◌, ℕ, ◌<◌, false, List, [], ◌∷◌, ◌++◌, get_or, Some, None, slice_get}
use Rattle.std.proofs.Common.{sym, ap, ◌∙◌, subst, arith, inl, inr}
use Rattle.std.proofs.lemmas.Bool.{cases_eq}
use Rattle.std.proofs.lemmas.Option.{same_Some}
use Rattle.plc_base.specs.Tables.{put_at}
use Rattle.plc_base.proofs.Tables.{get-put_same, get-put_other}
use Rattle.plc_lang.specs.declared.syntax.Op.{Op}
use Rattle.plc_flow.specs.declared.flow.Flow.{Flow}
use Rattle.plc_flow.specs.declared.flow.Step.{Step}
use Rattle.plc_moves.specs.declared.words.Move.{Move}
use Rattle.plc_moves.specs.declared.words.Move.TheVariants.{Start, Step as Take, Return, Free}
use Rattle.plc_flow.specs.declared.points.Point.{Point}
use Rattle.plc_logic.specs.declared.clause.Outline.{Outline}
use Rattle.plc_vocabulary.specs.Fit.{Fits}
use Rattle.plc_vocabulary.specs.Marks.{program_uses_marks}
use Rattle.plc_vocabulary.specs.Points.{clauses_at}
use Rattle.plc_gc.specs.State.{GcState, Locals, locals_of, with_locals, starting}
use Rattle.plc_gc.specs.Clauses.{Holds}
use Rattle.plc_gc.specs.Ranges.{IsInRange, ValuesAreInRange}
use Rattle.plc_gc.specs.Run.{GcConfiguration, GcRun, begin, more, Moves, MayTake, point_of, execute}
use Rattle.plc_gc.specs.Threads.{GcConfigurationFits}
use Rattle.plc_gc.proofs.Busy.{IsBusyAt}
use Rattle.plc_gc.proofs.Frames.{held_is}
use Rattle.plc_gc.proofs.Ranges.{ranged_run}
use Rattle.plc_gc.proofs.Threads.{busy_at, run_fits}
use Rattle.plc_gc.specs.Unmarked.{AllUnmarked}
use Rattle.plc_gc.proofs.Unmarked.{runs_stay_unmarked}
use Rattle.plc_gc.proofs.Values.{runs_keep_values}
use Rattle.plc_outline_sound.proofs.Silent.{flow_is_silent}
use Rattle.plc_flow.proofs.Each.{Each}
use Rattle.plc_outline_sound.specs.Held.{OutlineIsTrue, HeldOutlinesAreTrue, HeldClaimsAreTrue}
use Rattle.plc_oblig.proofs.Lists.{all_of_each}
use Rattle.plc_outline_sound.proofs.Obliged.{AreMet, are_met}
use Rattle.plc_outline_sound.proofs.Steps.{IsAt, claims_true, invariants_after, own_after, other_after}
use Rattle.plc_outline_sound.proofs.Runs.{IsKept, begun, anew_invariants, anew_points, started}

-- the locals that a busy thread declares are those of its operation
declared_of : (flow : Flow) (g : GcState) (t : ℕ) (p : Point) (operation : Op) → IsBusyAt flow g t p
    → slice_get flow.file.ops p.op ≡ Some operation → (locals_of g t).declared ≡ operation.locals
declared_of flow g t p operation b named =
    ap (λ (l : Locals). l.declared) (held_is g t b.locals b.held) ∙ b.fits.declared
    ∙ ap (λ (o : Op). o.locals) (same_Some b.operation operation (sym b.named ∙ named))

module _ (flow : Flow) (outline : Outline) (threads : ℕ) (fits : Fits flow outline) (met : AreMet flow outline) where
  -- what every configuration of a run has
  record IsReached (c : GcConfiguration) : Type 0 where
    ranges : IsInRange c.state
    unmarked : program_uses_marks flow outline ≡ false → AllUnmarked c.state
    values : ValuesAreInRange flow.file c.state
    threads_fit : 0 < threads → GcConfigurationFits flow threads c

  reached : (moves : List Move) (c : GcConfiguration) → GcRun flow threads moves c → IsReached c
  reached moves c run = record {
    ranges = ranged_run flow threads moves c run;
    unmarked = λ none. (runs_stay_unmarked flow threads (flow_is_silent flow outline none)).run moves c run;
    values = (runs_keep_values flow threads fits.sorted).run moves c run;
    threads_fit = λ some. run_fits flow fits.flow_fits fits.sorted threads some moves c run;
  }

  -- a thread that may take a step
  at_step : (c : GcConfiguration) → IsReached c → IsKept outline flow c → (t nth : ℕ) (p : Point) (step : Step)
      → MayTake flow threads c t nth p step → IsAt flow outline c.state t p step
  at_step c r kept t nth p step may =
      let k = r.threads_fit (let known = may.known in omega arith) in
      record {
        busy = busy_at flow threads c t p k may.busy;
        nth = nth;
        leaves_there = may.leaves_there;
        fields = k.fields;
        ranges = r.ranges;
        unmarked = r.unmarked;
        values = r.values;
        invariants = kept.invariants;
        clauses = kept.points t p may.busy;
      }

  module _ (c : GcConfiguration) (r : IsReached c) (kept : IsKept outline flow c) where
    taken : (t nth : ℕ) (p : Point) (step : Step) (g : GcState) → MayTake flow threads c t nth p step
        → execute c.state t step.prims ≡ Some g
        → GcConfigurationFits flow threads
        (record { state = g; points = put_at None c.points t (Some (record p { at = step.to.0 })) })
        → IsKept outline flow
        (record { state = g; points = put_at None c.points t (Some (record p { at = step.to.0 })) })
    taken t nth p step g may e after = record {
      invariants = invariants_after flow outline fits met c.state t p step is g e;
      points = λ u q busy. elim (cases_eq u t) [
        | inl same ↦ subst (λ u. Each (Holds g (Some u)) (clauses_at flow outline q.at)) (sym same)
            (own q (sym (get-put_same None c.points t (Some (record p { at = step.to.0 })))
            ∙ subst (λ u. get_or (put_at None c.points t (Some (record p { at = step.to.0 }))) u None
            ≡ Some q) same busy))
        | inr ne ↦ other u q ne busy
            (sym (get-put_other None c.points t (Some (record p { at = step.to.0 })) u ne) ∙ busy)
      ];
    }
      where
        is : IsAt flow outline c.state t p step
        is = at_step c r kept t nth p step may

        own_busy : IsBusyAt flow g t (record p { at = step.to.0 })
        own_busy = busy_at flow threads
            (record { state = g; points = put_at None c.points t (Some (record p { at = step.to.0 })) }) t
            (record p { at = step.to.0 }) after
            (get-put_same None c.points t (Some (record p { at = step.to.0 })))

        own : (q : Point) → Some (record p { at = step.to.0 }) ≡ Some q
            → Each (Holds g (Some t)) (clauses_at flow outline q.at)
        own q e' = subst (λ n. Each (Holds g (Some t)) (clauses_at flow outline n))
            (ap (λ (x : Point). x.at) (same_Some (record p { at = step.to.0 }) q e'))
            (own_after flow outline fits met c.state t p step is g e
            (declared_of flow g t (record p { at = step.to.0 }) is.busy.operation own_busy is.busy.named))

        other : (u : ℕ) (q : Point) → (u ≡ t → ⊥)
            → get_or (put_at None c.points t (Some (record p { at = step.to.0 }))) u None ≡ Some q
            → point_of c u ≡ Some q → Each (Holds g (Some u)) (clauses_at flow outline q.at)
        other u q ne busy was =
            let b = busy_at flow threads c u q (r.threads_fit (let known = may.known in omega arith)) was in
            let d = busy_at flow threads
            (record {
              state = g;
              points =
                  put_at None c.points t (Some (record p { at = step.to.0 }));
            }) u q after busy in
            other_after flow outline fits met c.state t p step is u q ne b (kept.points u q was) g e
            (declared_of flow g u q b.operation d b.named)

    moved : (d : GcConfiguration) → IsReached d → (move : Move) → Moves flow threads c move d → IsKept outline flow d
    moved d s (Start t op args) m =
        let k = subst (GcConfigurationFits flow threads) m.7 (s.threads_fit (let known = m.2 in omega arith)) in
        let b = busy_at flow threads
        (record {
          state = with_locals c.state t (Some (starting m.0 args));
          points =
              put_at None c.points t (Some (record { op = op.0; at = m.1.entry.0 }));
        }) t
        (record { op = op.0; at = m.1.entry.0 }) k
        (get-put_same None c.points t (Some (record { op = op.0; at = m.1.entry.0 }))) in
        subst (IsKept outline flow) (sym m.7)
        (started flow outline threads fits met c kept t op.0 m.0 m.1 args m.4 m.5 m.6
        (subst (λ (d : GcConfiguration). IsInRange d.state) m.7 s.ranges)
        (subst (λ (d : GcConfiguration). program_uses_marks flow outline ≡ false → AllUnmarked d.state) m.7 s.unmarked)
        (subst (λ (d : GcConfiguration). ValuesAreInRange flow.file d.state) m.7 s.values) k.fields
        (declared_of flow (with_locals c.state t (Some (starting m.0 args))) t
        (record { op = op.0; at = m.1.entry.0 }) m.0 b m.4))
    moved d s (Take t nth addr) m =
        subst (IsKept outline flow) (sym m.5)
        (taken t nth m.0 m.1 m.2 m.3 m.4
        (subst (GcConfigurationFits flow threads) m.5 (s.threads_fit (let known = m.3.known in omega arith))))
    moved d s (Return t) m = subst (IsKept outline flow) (sym m.6) (record {
      invariants = anew_invariants flow outline threads fits met c kept t None;
      points = anew_points flow outline threads fits met c kept t None None (λ p is. cc);
    })
    moved d s (Free a) m = subst (IsKept outline flow) (sym m) kept

  kept_run : (moves : List Move) (c : GcConfiguration) → GcRun flow threads moves c → IsKept outline flow c
  kept_run moves c (begin e) = begun flow outline threads fits met c e
  kept_run moves d (more {moves = ms} {c = c} run move m) =
      moved c (reached ms c run) (kept_run ms c run) d (reached (ms ++ move ∷ []) d (more run move m)) move m

  pub is_true : (moves : List Move) (c : GcConfiguration) → GcRun flow threads moves c
      → OutlineIsTrue flow outline threads c
  is_true moves c run = record {
    invariants = all_of_each (Holds c.state None) outline.invariants (kept_run moves c run).invariants;
    points = λ t p busy. all_of_each (Holds c.state (Some t)) (clauses_at flow outline p.at)
        ((kept_run moves c run).points t p busy);
    claims = λ t nth p step may. claims_true flow outline fits met c.state t p step
        (at_step c (reached moves c run) (kept_run moves c run) t nth p step may);
  }

pub held_outlines : (flow : Flow) (outline : Outline) (threads : ℕ) → Fits flow outline
    → HeldOutlinesAreTrue flow outline threads
held_outlines flow outline threads fits holds moves c run =
    is_true flow outline threads fits (are_met flow outline holds) moves c run

pub held_claims : (flow : Flow) (outline : Outline) (threads : ℕ) → Fits flow outline
    → HeldClaimsAreTrue flow outline threads
held_claims flow outline threads fits holds moves c run t nth p step may =
    (held_outlines flow outline threads fits holds moves c run).claims t nth p step may
