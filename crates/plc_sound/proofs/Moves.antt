-- The law over moves.
use Rattle.std.proofs.Common.{◌≡◌, ℕ, ◌<◌, true, List, [], ◌∷◌, ◌++◌, get_or, replicate, map, Option, Some, None, sym, ap, ◌∙◌, subst, inl, inr, arith}
use Rattle.std.specs.Prelude.{slice_get, option_map}
use Rattle.std.proofs.lemmas.Bool.{cases_eq, eqb-true}
use Rattle.std.proofs.lemmas.Option.{slice_get-map}
use Rattle.plc_base.specs.declared.ids.OpId.{OpId}
use Rattle.plc_auto.specs.declared.event.Event.{Event}
use Rattle.plc_auto.specs.declared.event.Event.TheVariants.{Free as Freed}
use Rattle.plc_auto.specs.declared.observer.Observer.{Observer}
use Rattle.plc_auto.specs.Table.{is_well_formed}
use Rattle.plc_flow.specs.declared.flow.Flow.{Flow}
use Rattle.plc_flow.specs.declared.flow.Gate.{Gate}
use Rattle.plc_flow.specs.declared.flow.Step.{Step}
use Rattle.plc_moves.specs.declared.words.Move.{Move}
use Rattle.plc_moves.specs.declared.words.Move.TheVariants.{Start, Step as Take, Return, Free}
use Rattle.plc_flow.specs.WellFormed.{FlowFits}
use Rattle.plc_mem.specs.declared.cell.RaceKind.{RaceKind}
use Rattle.plc_mem.specs.State.{State, with_locals, freed, starting}
use Rattle.plc_base.specs.Tables.{put_at}
use Rattle.plc_mem.specs.Outcomes.{address_or_null}
use Rattle.plc_base.proofs.Tables.{get-put_same, get-put_other, get-replicate}
use Rattle.plc_flow.specs.declared.points.Point.{Point}
use Rattle.plc_run.specs.Run.{Configuration, Ending, Fine, Stuck, Raced, Run, Moves, Races, MayTake, point_of, taken, beginning, initialised, first_configuration}
use Rattle.plc_flow.specs.Points.{leaves}
use Rattle.plc_run.specs.Observed.{IsObserved}
use Rattle.plc_run.proofs.Observed.{observed}
use Rattle.plc_run.proofs.Threads.{busy_at, run_fits}
use Rattle.plc_flow.proofs.Leaving.{filter_member}
use Rattle.plc_type.specs.declared.env.Env.{Env}
use Rattle.plc_xfer.specs.Rules.{env_after_all, FitsObserver}
use Rattle.plc_xfer.specs.Typings.{IsEnvironment, IsTyping, env_at, led, fault_at, fault_in}
use Rattle.plc_lang.specs.Skeleton.{Passage, locals_at}
use Rattle.plc_xfer.proofs.Facts.{after_all_well_formed, well_formed_fits}
use Rattle.plc_xfer.proofs.Order.{well_formed, same_shape, entry_is, led_is}
use Rattle.plc_flow.specs.Skeleton.{skeleton_of, passage_of}
use Rattle.plc_flow.proofs.Ends.{Ends, ends_of, locals_there}
use Rattle.plc_sound.specs.Meaning.{EnvMet}
use Rattle.plc_sound.specs.Claims.{MoveClaims}
use Rattle.plc_sound.specs.Laws.{MeetsPoint, AllMeet, entry_of, TypesAreSound}
use Rattle.plc_sound.proofs.Kept.{env_weaker}
use Rattle.plc_sound.proofs.Step.{own_step, never_races}
use Rattle.plc_sound.proofs.Calm.{interfered_is_calm, interfered_env_met, entry_is_calm, entry_met}
use Rattle.plc_sound.proofs.Others.{foreign_step, free_met}
use Rattle.plc_sound.proofs.Given.{none_null, starting_null, given_null, given_met}
use Rattle.plc_flow.proofs.Gates.{point_count}

-- an operation's entry and a step, as typings have them
entries_at : (gates : List Gate) (i : ℕ) (gate : Gate) → slice_get gates i ≡ Some gate → slice_get (map (λ (g : Gate). g.entry.0) gates) i ≡ Some gate.entry.0
entries_at gates i gate e = slice_get-map (λ (g : Gate). g.entry.0) gates i ∙ ap (λ (q : Option Gate). option_map (λ (g : Gate). g.entry.0) q) e

passage_at : (flow : Flow) (k : ℕ) (step : Step) → slice_get flow.steps k ≡ Some step → slice_get (skeleton_of flow).passages k ≡ Some (passage_of step)
passage_at flow k step e = slice_get-map passage_of flow.steps k ∙ ap (λ (q : Option Step). option_map passage_of q) e

-- no thread is busy where a run begins
begun_idle : (threads : ℕ) (end : Ending) (c : Configuration) → beginning threads end ≡ Some c → (t : ℕ) → point_of c t ≡ None
begun_idle threads (Fine s h) c is t =
    let same : record { state = with_locals s 0 None; history = h; points = replicate threads None } ≡ c = cc in
    ap (λ (c : Configuration). get_or c.points t None) (sym same) ∙ get-replicate None threads t
begun_idle threads Stuck c is t = cc
begun_idle threads (Raced kind k) c is t = cc

module _ (flow : Flow) (o : Observer) (threads : ℕ) (envs : List Env) (fits : FlowFits flow) (w : is_well_formed o ≡ true) (typed : IsTyping o (skeleton_of flow) envs) where
  begun : (c : Configuration) → first_configuration flow threads ≡ Some c → AllMeet flow o threads envs c
  begun c first t p small busy = let idle = begun_idle threads (initialised flow threads) c first t in cc

  -- ---- a thread that takes a step from where it stands

  -- what the thread is at: the step of the flow, and an environment that is met and from which the conditions hold
  record Ready (c : Configuration) (t : ℕ) (step : Step) : Type 0 where
    number : ℕ
    there : slice_get flow.steps number ≡ Some step
    ends : Ends flow step
    facts : IsEnvironment o (skeleton_of flow).shared (locals_at (skeleton_of flow) step.from.0) (env_at envs step.from.0)
    met : EnvMet o c.history t c.state (env_at envs step.from.0)

  ready : (c : Configuration) (t nth : ℕ) (addr : Option ℕ) (p : Point) (step : Step) → AllMeet flow o threads envs c → MayTake flow threads c t nth addr p step → Ready c t step
  ready c t nth addr p step all may =
      let m = filter_member (leaves p.at) flow.steps nth step may.leaves_there in
      let from : step.from.0 ≡ p.at = eqb-true step.from.0 p.at m.2 in
      let ends = ends_of flow m.0 step fits.well m.1 in
      let facts = typed.pretyping.environments step.from.0 ends.from_in in
      let mine = subst (MeetsPoint flow o envs c t) (sym from) (all t p may.known may.busy) in
      record {
        number = m.0;
        there = m.1;
        ends = ends;
        facts = facts;
        met = env_weaker o c.history t c.state mine.env (env_at envs step.from.0) (same_shape o (skeleton_of flow).shared (locals_at (skeleton_of flow) step.from.0) mine.env (env_at envs step.from.0) mine.facts facts) mine.below mine.met;
      }

  -- so it meets the environment of its point, which is one of its operation's
  met_at : (n : ℕ) (c : Configuration) → Run flow o threads n c → AllMeet flow o threads envs c → (t : ℕ) (p : Point)
      → t < threads → point_of c t ≡ Some p → EnvMet o c.history t c.state (env_at envs p.at)
  met_at n c run all t p small busy =
      let b = busy_at flow threads c t p (run_fits flow fits o threads (omega (arith, small)) n c run) busy in
      let inside = locals_there 0 flow.file.ops flow.gates flow.points p.op p.at b.gate (sym fits.well.gates)
      fits.well.ranges b.opens b.within in
      let points = point_count flow fits.well in
      let facts = typed.pretyping.environments p.at (let h = inside.1 in omega (arith, points)) in
      let mine = all t p small busy in
      let n' = (skeleton_of flow).shared in
      let m = locals_at (skeleton_of flow) p.at in
      env_weaker o c.history t c.state mine.env (env_at envs p.at)
      (same_shape o n' m mine.env (env_at envs p.at) mine.facts facts) mine.below mine.met

  holds : (c : Configuration) (t : ℕ) (step : Step) → (r : Ready c t step) → (i : ℕ) → fault_at o (env_at envs step.from.0) step.prims i ≡ None
  holds c t step r i = subst (λ (q : Option Passage). fault_in o envs i q ≡ None) (passage_at flow r.number step r.there) (typed.holding r.number i)

  -- where its step ends
  arrived : (c : Configuration) (t nth : ℕ) (addr : Option ℕ) (p : Point) (step : Step) (s : State) (h : List Event) (points : List (Option Point)) → IsObserved o threads c.state c.history → AllMeet flow o threads envs c → MoveClaims flow threads c (Take t nth addr) → MayTake flow threads c t nth addr p step → taken c t addr step ≡ Fine s h
      → MeetsPoint flow o envs (record { state = s; history = h; points = points }) t step.to.0
  arrived c t nth addr p step s h points seen all claims may is =
      let r = ready c t nth addr p step all may in
      let e = env_at envs step.from.0 in
      let n = (skeleton_of flow).shared in
      let m = locals_at (skeleton_of flow) step.from.0 in
      let did = own_step o w threads t (address_or_null addr) step.prims 0 c.history c.state e (record { small = may.known; met = r.met; seen = seen }) (claims p step may) s h is in
      let fit : FitsObserver o (env_after_all o e step.prims) = well_formed_fits o (env_after_all o e step.prims) (after_all_well_formed o e step.prims (well_formed o n m e r.facts)) in
      record {
        env = led o e step.prims;
        facts = subst (λ m. IsEnvironment o n m (led o e step.prims)) (sym r.ends.same) (led_is o n m e step.prims r.facts);
        calm = interfered_is_calm o (env_after_all o e step.prims) fit;
        met = interfered_env_met o threads h t s (env_after_all o e step.prims) fit did;
        below = typed.pretyping.flows r.number (passage_of step) (passage_at flow r.number step r.there);
      }

  -- ---- a thread that another one's move leaves where it stands

  -- the same environment is met in the next configuration
  remains : (c d : Configuration) (u p : ℕ) (m : MeetsPoint flow o envs c u p) → EnvMet o d.history u d.state m.env → MeetsPoint flow o envs d u p
  remains c d u p m met = record { env = m.env; facts = m.facts; calm = m.calm; met = met; below = m.below }

  -- thread t has another point or none; each other thread has its own
  others_stand : (c : Configuration) (t u : ℕ) (q : Option Point) (p : Point) → (u ≡ t → ⊥) → get_or (put_at None c.points t q) u None ≡ Some p → point_of c u ≡ Some p
  others_stand c t u q p ne at_p = sym (get-put_other None c.points t q u ne) ∙ at_p

  stands_at : (c : Configuration) (t u : ℕ) (q : Option Point) (p : Point) → u ≡ t → get_or (put_at None c.points t q) u None ≡ Some p → q ≡ Some p
  stands_at c t u q p e at_p = sym (get-put_same None c.points t q) ∙ subst (λ u. get_or (put_at None c.points t q) u None ≡ Some p) e at_p

  -- ---- starts

  entered : (c : Configuration) (t : ℕ) (operation : _) (args : List ℕ) (gate : Gate) → t < threads → IsObserved o threads (with_locals c.state t (Some (starting operation args))) c.history → EnvMet o c.history t (with_locals c.state t (Some (starting operation args))) (entry_of flow o gate)
  entered c t operation args gate small seen' = entry_met o threads c.history t (with_locals c.state t (Some (starting operation args))) (skeleton_of flow).shared (locals_at (skeleton_of flow) gate.entry.0) small seen'
      (given_null c.state t (Some (starting operation args)) (starting_null operation args))

  started : (c d : Configuration) (t : ℕ) (op : OpId) (args : List ℕ) (gate : Gate) → IsObserved o threads d.state d.history → Moves flow o threads c (Start t op args) d → slice_get flow.gates op.0 ≡ Some gate → EnvMet o d.history t d.state (entry_of flow o gate)
  started c d t op args gate seen' m opens =
      subst (λ (d : Configuration). IsObserved o threads d.state d.history → EnvMet o d.history t d.state (entry_of flow o gate)) (sym m.7) (entered c t m.0 args gate m.2) seen'

  start_keeps : (c d : Configuration) (t : ℕ) (op : OpId) (args : List ℕ) → AllMeet flow o threads envs c → IsObserved o threads d.state d.history → Moves flow o threads c (Start t op args) d → AllMeet flow o threads envs d
  start_keeps c d t op args all seen' m =
      let gate = m.1 in
      let q : Option Point = Some (record { op = op.0; at = gate.entry.0 }) in
      let n = (skeleton_of flow).shared in
      let k = locals_at (skeleton_of flow) gate.entry.0 in
      let l = Some (starting m.0 args) in
      subst (λ (d : Configuration). IsObserved o threads d.state d.history → AllMeet flow o threads envs d) (sym m.7) (λ seen' u p small at_p. elim (cases_eq u t) [
        | inl e ↦ (
            let here : record { op = op.0; at = gate.entry.0 } ≡ p = (let x = stands_at c t u q p e at_p in cc) in
            let d' : Configuration = record c { state = with_locals c.state t l; points = put_at None c.points t q } in
            let mine : MeetsPoint flow o envs d' t gate.entry.0 = record {
              env = entry_of flow o gate;
              facts = entry_is o n k;
              calm = entry_is_calm o n k;
              met = entered c t m.0 args gate m.2 seen';
              below = typed.pretyping.entries op.0 gate.entry.0 (entries_at flow.gates op.0 gate m.5);
            } in
            let there = subst (λ (p : Point). MeetsPoint flow o envs d' t p.at) here mine in
            subst (λ u. MeetsPoint flow o envs d' u p.at) (sym e) there
            )
        | inr ne ↦ (
            let mine = all u p small (others_stand c t u q p ne at_p) in
            remains c (record c { state = with_locals c.state t l; points = put_at None c.points t q }) u p.at mine
            (given_met o c.history c.state t u l mine.env ne (starting_null m.0 args) mine.calm mine.met)
            )
      ]) seen'

  -- ---- returns

  return_keeps : (c d : Configuration) (t : ℕ) → AllMeet flow o threads envs c → Moves flow o threads c (Return t) d → AllMeet flow o threads envs d
  return_keeps c d t all m =
      subst (AllMeet flow o threads envs) (sym m.6) (λ u p small at_p. elim (cases_eq u t) [
        | inl e ↦ (let x = stands_at c t u None p e at_p in cc)
        | inr ne ↦ (
            let mine = all u p small (others_stand c t u None p ne at_p) in
            remains c (record c { state = with_locals c.state t None; points = put_at None c.points t None }) u p.at mine
            (given_met o c.history c.state t u None mine.env ne none_null mine.calm mine.met)
            )
      ])

  -- ---- steps

  step_keeps : (c d : Configuration) (t nth : ℕ) (addr : Option ℕ) → IsObserved o threads c.state c.history → AllMeet flow o threads envs c → MoveClaims flow threads c (Take t nth addr) → Moves flow o threads c (Take t nth addr) d → AllMeet flow o threads envs d
  step_keeps c d t nth addr seen all claims m =
      let step = m.1 in
      let q : Option Point = Some (record m.0 { at = step.to.0 }) in
      let d' : Configuration = record { state = m.2; history = m.3; points = put_at None c.points t q } in
      subst (AllMeet flow o threads envs) (sym m.6) (λ u p small at_p. elim (cases_eq u t) [
        | inl e ↦ (
            let here : record m.0 { at = step.to.0 } ≡ p = (let x = stands_at c t u q p e at_p in cc) in
            let mine = arrived c t nth addr m.0 step m.2 m.3 (put_at None c.points t q) seen all claims m.4 m.5 in
            let there = subst (λ (p : Point). MeetsPoint flow o envs d' t p.at) here mine in
            subst (λ u. MeetsPoint flow o envs d' u p.at) (sym e) there
            )
        | inr ne ↦ (
            let mine = all u p small (others_stand c t u q p ne at_p) in
            remains c d' u p.at mine
            (foreign_step o w threads t u (address_or_null addr) (λ x. ne (sym x)) step.prims 0 c.history c.state mine.env mine.calm (record { small = small; met = mine.met; seen = seen }) m.2 m.3 m.5)
            )
      ])

  -- ---- frees

  free_keeps : (c d : Configuration) (a : ℕ) → IsObserved o threads c.state c.history → AllMeet flow o threads envs c → IsObserved o threads d.state d.history → Moves flow o threads c (Free a) d → AllMeet flow o threads envs d
  free_keeps c d a seen all seen' m =
      let d' : Configuration = record c { state = freed c.state a; history = c.history ++ Freed a ∷ [] } in
      subst (λ (d : Configuration). IsObserved o threads d.state d.history → AllMeet flow o threads envs d) (sym m.2) (λ seen' u p small at_p.
      let mine = all u p small at_p in
      remains c d' u p.at mine (free_met o threads c.history u c.state a mine.env m.0 mine.calm (record { small = small; met = mine.met; seen = seen }) (λ b one. seen'.live u b small one))) seen'

  by_move : (c d : Configuration) (move : Move) → IsObserved o threads c.state c.history → AllMeet flow o threads envs c → MoveClaims flow threads c move → Moves flow o threads c move d → AllMeet flow o threads envs d
  by_move c d (Start t op args) seen all claims m = start_keeps c d t op args all ((observed o w threads).by_move flow c d (Start t op args) m seen) m
  by_move c d (Take t nth addr) seen all claims m = step_keeps c d t nth addr seen all claims m
  by_move c d (Return t) seen all claims m = return_keeps c d t all m
  by_move c d (Free a) seen all claims m = free_keeps c d a seen all ((observed o w threads).by_move flow c d (Free a) m seen) m

  no_race : (c : Configuration) (move : Move) (kind : RaceKind) (k : ℕ) → IsObserved o threads c.state c.history → AllMeet flow o threads envs c → MoveClaims flow threads c move → Races flow threads c move kind k → ⊥
  no_race c (Start t op args) kind k seen all claims m = m
  no_race c (Return t) kind k seen all claims m = m
  no_race c (Free a) kind k seen all claims m = m
  no_race c (Take t nth addr) kind k seen all claims m =
      let p = m.0 in
      let step = m.1 in
      let r = ready c t nth addr p step all m.2 in
      never_races o w threads t (address_or_null addr) step.prims 0 c.history c.state (env_at envs step.from.0) (record { small = m.2.known; met = r.met; seen = seen }) (holds c t step r) (claims p step m.2) kind k m.3

pub sound : (flow : Flow) (o : Observer) (threads : ℕ) (envs : List Env) → FlowFits flow → is_well_formed o ≡ true → IsTyping o (skeleton_of flow) envs → TypesAreSound flow o threads envs
sound flow o threads envs fits w typed = record {
  begun = begun flow o threads envs fits w typed;
  started = λ n c d t op args gate run m opens. started flow o threads envs fits w typed c d t op args gate ((observed o w threads).by_move flow c d (Start t op args) m ((observed o w threads).run flow n c run)) m opens;
  by_move = λ n c d move run all claims m. by_move flow o threads envs fits w typed c d move ((observed o w threads).run flow n c run) all claims m;
  met = λ n c run all t p small busy. met_at flow o threads envs fits w typed n c run all t p small busy;
  no_race = λ n c move kind k run all claims m. no_race flow o threads envs fits w typed c move kind k ((observed o w threads).run flow n c run) all claims m;
}
