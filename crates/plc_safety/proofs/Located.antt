-- Claims of locations are true: the type of the local says it, or the type and the clause that the claim adds.
use Rattle.std.proofs.Common.{◌≡◌, ℕ, ◌<◌, Bool, true, false, ◌==◌, List, Option, None, Some, get_or, slice_get}
use Rattle.std.proofs.Common.{sym, ap, ◌∙◌, subst}
use Rattle.plc_base.specs.declared.ids.PointId.{PointId}
use Rattle.plc_lang.specs.declared.syntax.Var.TheVariants.{Local as local}
use Rattle.plc_auto.specs.declared.observer.Observer.{Observer}
use Rattle.plc_auto.specs.Table.{is_well_formed}
use Rattle.plc_flow.specs.declared.flow.Flow.{Flow}
use Rattle.plc_flow.specs.declared.points.Point.{Point}
use Rattle.plc_flow.specs.Skeleton.{skeleton_of}
use Rattle.plc_flow.proofs.Each.{Each, each_get}
use Rattle.plc_logic.specs.declared.clause.Clause.{Clause}
use Rattle.plc_logic.specs.declared.clause.Item.{Item}
use Rattle.plc_logic.specs.declared.clause.Outline.{Outline}
use Rattle.plc_logic.specs.Fit.{ClauseFits}
use Rattle.plc_mem.specs.State.{at_local}
use Rattle.plc_run.specs.Run.{Configuration, Run, begin, more, point_of as run_point_of}
use Rattle.plc_run.specs.Observed.{IsObserved, RunsAreObserved}
use Rattle.plc_type.specs.declared.env.Env.{Env}
use Rattle.plc_xfer.specs.Typings.{IsTyping, env_at}
use Rattle.plc_sound.specs.Meaning.{Meets, EnvMet}
use Rattle.plc_sound.specs.Laws.{AllMeet, TypesAreSound, SoundnessOfTypes}
use Rattle.plc_gc.specs.declared.slot.Slot.TheVariants.{Local as in_local}
use Rattle.plc_gc.specs.State.{Locals, value, locals_of, is_retired as is_retired_node}
use Rattle.plc_gc.specs.Clauses.{Holds}
use Rattle.plc_gc.specs.Run.{GcConfiguration, point_of}
use Rattle.plc_gc.specs.Threads.{GcConfigurationFits}
use Rattle.plc_gc.proofs.Frames.{held_is}
use Rattle.plc_gc.proofs.Threads.{busy_at, run_fits}
use Rattle.plc_erasure.specs.Trace.{trace_of, moves_of}
use Rattle.plc_erasure.specs.Laws.{ClaimsAreActive, ErasureLaw, IsErasedRun}
use Rattle.plc_vocabulary.specs.Fit.{Fits}
use Rattle.plc_vocabulary.specs.Points.{stands_at, clauses_at}
use Rattle.plc_oblig.proofs.Lists.{each_of_all, all_of_each, each_place}
use Rattle.plc_oblig.proofs.Standing.{locals_at, point_clauses_fit}
use Rattle.plc_outline_sound.specs.Held.{OutlineIsTrue, HeldOutlinesAreTrue}
use Rattle.plc_at.specs.declared.claim.LocationClaim.{LocationClaim}
use Rattle.plc_at.specs.Claims.{ClaimFits}
use Rattle.plc_at.specs.Extended.{Need, Nothing, Unretired, RetiredNode, Unlocated, need_of, claimed_type}
use Rattle.plc_at.specs.Extended.{null_or_retired, claimed_place, items_for, IsLocated, extended}
use Rattle.plc_safety.specs.Located.{ClaimIsTrue, LocatedClaimsAreTrue}
use Rattle.plc_safety.proofs.ByRun.{Erasure}
use Rattle.plc_safety.proofs.Joint.{ErasureOfClaims}
use Rattle.plc_safety.proofs.Reached.{move_claims}
use Rattle.plc_safety.proofs.LocatedSets.{need_means}
use Rattle.plc_safety.proofs.LocatedItems.{claim_items, stands_there}
use Rattle.plc_safety.proofs.LocatedNodes.{node_of_place, said}
use Rattle.plc_safety.proofs.LocatedPoints.{Placed, placed, claimed_is}
use Rattle.plc_safety.proofs.LocatedPointers.{IsSeen, Says, node_some, stands_in}

-- each busy thread meets an environment of its point where the claims are active that steps reach
met_along : (flow : Flow) (o : Observer) (threads : ℕ) (envs : List Env) → TypesAreSound flow o threads envs
    → ClaimsAreActive flow o threads → (n : ℕ) (c : Configuration) → Run flow o threads n c
    → AllMeet flow o threads envs c
met_along flow o threads envs law active n c (begin first) = law.begun c first
met_along flow o threads envs law active n d (more {n = m} {c = c} run move moved) =
    let all = met_along flow o threads envs law active m c run in
    law.by_move m c d move run all (move_claims flow o threads m c active run move) moved

-- ---- what the clause says that a claim adds

-- the locals that a thread declares at the label's point are those of the label's operation
declared_there : (flow : Flow) (outline : Outline) → Fits flow outline → (threads : ℕ) (d : GcConfiguration)
    → GcConfigurationFits flow threads d → (t : ℕ) (p : Point) → point_of d t ≡ Some p → (claim : LocationClaim)
    → (x : Placed flow claim p.at) → (locals_of d.state t).declared ≡ x.operation.locals
declared_there flow outline fits threads d k t p busy claim x =
    let b = busy_at flow threads d t p k busy in
    ap (λ (l : Locals). l.declared) (held_is d.state t b.locals b.held) ∙ b.fits.declared
    ∙ sym (locals_at flow outline fits p.op p.at b.operation
    (record { gate = b.gate; opens = b.opens; within = b.within; named = b.named }))
    ∙ locals_at flow outline fits x.op p.at x.operation x.stands

-- what is known of the clauses that stand at a point
abbrev Clauses : Flow → ℕ → (Clause → Type 0) → List Item → Type 0
Clauses flow p P items = Each (λ (i : Item). stands_at flow p i ≡ true → P i.clause) items

module _ (flow : Flow) (d : GcConfiguration) (t p : ℕ) (claim : LocationClaim) (q : PointId) (x : Placed flow claim p)
    (declared : (locals_of d.state t).declared ≡ x.operation.locals)
    (some : (value d.state (in_local t claim.local) == 0) ≡ false)
    (at : slice_get flow.labels claim.label ≡ Some q) (same : p ≡ q.0) where
  -- the clause that an item adds
  by_clause : (is_so : Bool) → Holds d.state (Some t) (null_or_retired (claimed_place flow claim) is_so)
      → ClauseFits flow.file x.operation.locals true (null_or_retired (claimed_place flow claim) is_so)
      → is_retired_node d.state (value d.state (in_local t claim.local)) ≡ is_so
  by_clause is_so holds fits =
      said d.state t (claimed_place flow claim) (value d.state (in_local t claim.local)) is_so
      (node_of_place flow.file x.operation.locals d.state t (claimed_place flow claim) claim.local is_so declared
      x.number fits) some holds

  -- each item that is added for a need
  says : (n : Need) → Clauses flow p (Holds d.state (Some t)) (items_for flow claim n)
      → Clauses flow p (ClauseFits flow.file x.operation.locals true) (items_for flow claim n)
      → Says d.state (value d.state (in_local t claim.local)) n
  says Nothing holds fits = tt
  says Unretired holds fits =
      let here = stands_there flow claim false p q at same in by_clause false (holds.0 here) (fits.0 here)
  says RetiredNode holds fits =
      let here = stands_there flow claim true p q at same in by_clause true (holds.0 here) (fits.0 here)
  says Unlocated holds fits = tt

-- ---- in a configuration of a run

-- an outline that holds is true in each garbage-collected run
abbrev pub TruthOfOutlines : Type 0
TruthOfOutlines =
    (flow : Flow) (outline : Outline) (threads : ℕ) → Fits flow outline → HeldOutlinesAreTrue flow outline threads

-- each run is observed
abbrev pub Observation : Type 0
Observation = (o : Observer) → is_well_formed o ≡ true → (threads : ℕ) → RunsAreObserved o threads

module _ (flow : Flow) (o : Observer) (threads : ℕ) (typing : List Env) (claims : List LocationClaim) (outline : Outline)
    (fits : Fits flow (extended flow o typing claims outline)) (typed : IsTyping o (skeleton_of flow) typing)
    (n : ℕ) (c : Configuration) (run : Run flow o threads n c) (er : IsErasedRun flow o threads n c run)
    (k : GcConfigurationFits flow threads er.collected)
    (told : OutlineIsTrue flow (extended flow o typing claims outline) threads er.collected) where
  -- what is added says of the local's node what is needed
  says_there : (t : ℕ) (p : Point) → point_of er.collected t ≡ Some p → (i : ℕ) (claim : LocationClaim) (q : PointId)
      → slice_get claims i ≡ Some claim → slice_get flow.labels claim.label ≡ Some q → p.at ≡ q.0
      → Placed flow claim p.at → (value er.collected.state (in_local t claim.local) == 0) ≡ false
      → Says er.collected.state (value er.collected.state (in_local t claim.local)) (need_of flow o typing claim)
  says_there t p busy i claim q listed at same x some =
      let whole = extended flow o typing claims outline in
      says flow er.collected t p.at claim q x
      (declared_there flow whole fits threads er.collected k t p busy claim x) some at same
      (need_of flow o typing claim)
      (claim_items (Holds er.collected.state (Some t)) flow o typing claims outline p.at i claim listed
      (each_of_all (Holds er.collected.state (Some t)) (clauses_at flow whole p.at) (told.points t p busy)))
      (claim_items (ClauseFits flow.file x.operation.locals true) flow o typing claims outline p.at i claim listed
      (point_clauses_fit flow whole fits x.op p.at x.operation x.stands))

  -- one claim
  one_true : ErasureLaw flow o threads → IsObserved o threads c.state c.history
      → ((t : ℕ) (p : Point) → t < threads → run_point_of c t ≡ Some p
      → EnvMet o c.history t c.state (env_at typing p.at))
      → (i : ℕ) (claim : LocationClaim) → slice_get claims i ≡ Some claim → ClaimFits flow claim
      → IsLocated flow o typing claim → ClaimIsTrue flow o threads c claim
  one_true law seen met i claim listed fit located t p q known busy at same some =
      let trace = trace_of flow o threads n c run in
      let x = placed flow o claim p.at q fits.flow_fits fits.sorted fit at same in
      let type = claimed_type flow typing claim in
      let s : IsSeen o threads c.state c.history trace er.collected.state t claim.local type = record {
        observed = seen;
        erased = er.erased.states;
        known = known;
        some = some;
        met = subst (Meets o c.history t c.state (at_local t claim.local))
            (claimed_is flow o typing claim p.at q fits.flow_fits typed at same x)
            ((met t p known busy).pointers (local claim.local));
      } in
      let said = says_there t p (ap (λ (ps : List (Option Point)). get_or ps t None) er.erased.points ∙ busy)
      i claim q listed at same x
      (node_some flow o threads law c.state c.history trace er.collected.state t claim.local type s) in
      stands_in flow o threads law c.state c.history trace er.collected.state t claim.local type s
      claim.set (need_of flow o typing claim) located (need_means o type claim.set) said

-- ---- in each configuration of each run

pub located_claims : SoundnessOfTypes → Erasure → ErasureOfClaims → TruthOfOutlines → Observation
    → LocatedClaimsAreTrue
located_claims types erasure active outlines observe flow o outline typing claims fits w typed fit located holds
    threads n c some run =
    let whole = extended flow o typing claims outline in
    let law = erasure flow o threads w some in
    let er = law.run n c run in
    let held = outlines flow whole threads fits holds in
    let sound = types flow o threads typing fits.flow_fits w typed in
    let claims_are_active = active flow o threads w some (λ moves d gc t nth p step may.
    (held moves d gc).claims t nth p step may) in
    let met = met_along flow o threads typing sound claims_are_active n c run in
    let moves = moves_of flow o threads n c run in
    let k = run_fits flow fits.flow_fits fits.sorted threads some moves er.collected er.runs in
    let one = one_true flow o threads typing claims outline fits typed n c run er k
    (held moves er.collected er.runs) law
    ((observe o w threads).run flow n c run) (sound.met n c run met) in
    all_of_each (ClaimIsTrue flow o threads c) claims (each_place (ClaimIsTrue flow o threads c) claims
    (λ i claim listed. one i claim listed
    (each_get (ClaimFits flow) claims (each_of_all (ClaimFits flow) claims fit) i claim listed)
    (located i claim listed)))
