-- What is known while one step is judged, from what the code reads of the flow and of the environments, which have no
-- types of shared pointers.
use Rattle.std.proofs.Common.{◌≡◌, ℕ, ◌<◌, ◌≤◌, List, length, get_or, Some, ap, sym, subst, ◌∙◌, arith}
use Rattle.std.specs.Prelude.{slice_get}
use Rattle.plc_lang.specs.declared.syntax.Primitive.{Primitive}
use Rattle.plc_lang.specs.Fit.{FileFits}
use Rattle.plc_auto.specs.declared.observer.Observer.{Observer}
use Rattle.plc_type.specs.declared.env.Env.{Env}
use Rattle.plc_xfer.specs.Rules.{FitsObserver}
use Rattle.plc_xfer.specs.Typings.{env_at}
use Rattle.plc_flow.specs.declared.flow.Step.{Step}
use Rattle.plc_flow.specs.declared.flow.Flow.{Flow}
use Rattle.plc_flow.specs.Skeleton.{skeleton_of}
use Rattle.plc_flow.specs.WellFormed.{IsWellFormed}
use Rattle.plc_verify.specs.declared.fault.Slot.{Slot}
use Rattle.plc_verify.specs.Environments.{with_shared, completed, EntriesHold, StepHolds, IsFirstAbove, FailsInStep, FailsAfterStep}
use Rattle.plc_verify.specs.declared.steps.Outcome.TheVariants.{LeadsTo, FailsAt}
use Rattle.plc_verify.specs.Tests.{NoneAbove, IsRun}
use Rattle.plc_verify.proofs.Points.{read_item}
use Rattle.plc_verify.proofs.Fitting.{completed_length, completed_at}
use Rattle.plc_verify.proofs.Passages.{Ends, ends, env_read, env_fits_observer, in_step, after_step, ran, same_locals, few_locals, step_holds, none_above_whole, first_above_whole}

module _ (o : Observer) (flow : Flow) (envs : List Env) (k : ℕ) (s : Step) (steps : List Step) (w : IsWellFormed flow) (file : FileFits flow.file)
    (entries : EntriesHold o (skeleton_of flow) (completed flow envs)) (steps_are : steps ≡ flow.steps) (known : k < length flow.steps) (read : s ≡ get_or steps k s) where
  step_is : slice_get flow.steps k ≡ Some s
  step_is = read_item steps flow.steps k s steps_are known read

  its_ends : Ends o flow (completed flow envs) s
  its_ends = ends o flow (completed flow envs) k s w file entries.points step_is

  pub from_in : s.from.0 < length envs
  from_in = let n = completed_length flow envs in let h = its_ends.from_in in omega arith

  pub to_in : s.to.0 < length envs
  to_in = let n = completed_length flow envs in let h = its_ends.to_in in omega arith

  -- with types of shared pointers, what the code reads at a point is its environment
  at_point : (p : ℕ) (e : Env) → p < length envs → e ≡ get_or envs p e → with_shared (length flow.file.shared) e ≡ env_at (completed flow envs) p
  at_point p e inside read =
      ap (with_shared (length flow.file.shared)) (env_read envs p e inside read) ∙ sym (completed_at flow envs p inside)

  pub few_primitives : (prims : List Primitive) → prims ≡ s.prims → length prims < 65536
  few_primitives prims are = let short = w.short k s step_is in omega (arith, short, ap (λ (ks : List Primitive). length ks) are)

  -- the environment of the first point, with types of so many shared pointers
  module _ (n : ℕ) (shared_are : n ≡ length flow.file.shared) (from : Env) (from_read : from ≡ get_or envs s.from.0 from) where
    from_is : with_shared n from ≡ env_at (completed flow envs) s.from.0
    from_is = ap (λ (m : ℕ). with_shared m from) shared_are ∙ at_point s.from.0 from from_in from_read

    pub from_fits : FitsObserver o (with_shared n from)
    from_fits = subst (λ (e : Env). FitsObserver o e) (sym from_is) (env_fits_observer o _ _ (env_at (completed flow envs) s.from.0) its_ends.from_is)

    -- the primitives
    module _ (prims : List Primitive) (prims_are : prims ≡ s.prims) where
      pub fails_there : ((l : ℕ) → l < k → StepHolds o (skeleton_of flow) (completed flow envs) l) → (i : ℕ) → IsRun o (with_shared n from) prims (FailsAt i) → FailsInStep o (skeleton_of flow) (completed flow envs) k i
      fails_there before i stopped =
          let run = ran o flow (completed flow envs) k s w file entries step_is (with_shared n from) prims (FailsAt i) from_is prims_are stopped in
          in_step o flow (completed flow envs) k s w file entries step_is i before run.0 run.1

      -- the environment to which they lead
      module _ (reached : Env) (arrived : IsRun o (with_shared n from) prims (LeadsTo reached)) where
        run : IsRun o (env_at (completed flow envs) s.from.0) s.prims (LeadsTo reached)
        run = ran o flow (completed flow envs) k s w file entries step_is (with_shared n from) prims (LeadsTo reached) from_is prims_are arrived

        pub few_reached : length reached.locals ≤ 65536
        few_reached = subst (λ (e : Env). length e.locals ≤ 65536) (sym run.0) (few_locals o flow (completed flow envs) k s w file entries step_is)

        -- the environment of the last point
        module _ (to : Env) (to_read : to ≡ get_or envs s.to.0 to) where
          to_is : with_shared (length flow.file.shared) to ≡ env_at (completed flow envs) s.to.0
          to_is = at_point s.to.0 to to_in to_read

          pub as_many : length reached.locals ≡ length to.locals
          as_many = ap (λ (e : Env). length e.locals) run.0 ∙ same_locals o flow (completed flow envs) k s w file entries step_is ∙ ap (λ (e : Env). length e.locals) (sym to_is)

          pub fails_after : ((l : ℕ) → l < k → StepHolds o (skeleton_of flow) (completed flow envs) l) → (var : Slot) → IsFirstAbove reached to var → FailsAfterStep o (skeleton_of flow) (completed flow envs) k var
          fails_after before var above =
              after_step o flow (completed flow envs) k s w file entries step_is var before run.1
              (subst (λ (e : Env). IsFirstAbove e (env_at (completed flow envs) s.to.0) var) run.0
              (subst (λ (e : Env). IsFirstAbove reached e var) to_is (first_above_whole (length flow.file.shared) reached to var above)))

          pub holds : NoneAbove reached to → StepHolds o (skeleton_of flow) (completed flow envs) k
          holds none =
              step_holds o flow (completed flow envs) k s w file entries step_is run.1
              (subst (λ (e : Env). NoneAbove e (env_at (completed flow envs) s.to.0)) run.0
              (subst (λ (e : Env). NoneAbove reached e) to_is (none_above_whole (length flow.file.shared) reached to none)))
