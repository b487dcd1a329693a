-- One run whose claims were true in its garbage-collected run, by induction on its moves.
use Rattle.std.proofs.Common.{◌≡◌, ℕ, ◌<◌, true, List, ap, subst}
use Rattle.plc_auto.specs.declared.observer.Observer.{Observer}
use Rattle.plc_auto.specs.Table.{is_well_formed}
use Rattle.plc_flow.specs.declared.flow.Flow.{Flow}
use Rattle.plc_flow.specs.declared.flow.Step.{Step}
use Rattle.plc_moves.specs.declared.words.Move.{Move}
use Rattle.plc_moves.specs.declared.words.Move.TheVariants.{Step as Take}
use Rattle.plc_mem.specs.Outcomes.{address_or_null}
use Rattle.plc_run.specs.Run.{Configuration, Run, Moves, begin, more}
use Rattle.plc_run.proofs.Runs.{one_step}
use Rattle.plc_type.specs.declared.env.Env.{Env}
use Rattle.plc_sound.specs.Claims.{ClaimsTrue, MoveClaims}
use Rattle.plc_sound.specs.Laws.{AllMeet, TypesAreSound, SoundnessOfTypes}
use Rattle.plc_gc.specs.Claims.{ClaimsHold}
use Rattle.plc_erasure.specs.Claims.{taken_by, actor_of, address_named, AreActive, RunClaimsAreActive, RunClaimsAreKept}
use Rattle.plc_erasure.specs.Laws.{IsErasedRun, ErasureLaw}
use Rattle.plc_safety.specs.ByRun.{NextClaimsHold, ClaimsOfOneRunSuffice}
use Rattle.plc_safety.proofs.Reached.{all_true}

-- what erasure says of a move that was made
taken_claims : (flow : Flow) (o : Observer) (threads : ℕ) (c d : Configuration) (move : Move) (moved : Moves flow o threads c move d)
    → AreActive c (actor_of move) (address_named move) (taken_by flow o threads c d move moved) → MoveClaims flow threads c move
taken_claims flow o threads c d (Take t nth addr) moved active = λ p step may.
    let same = one_step flow threads c t nth addr moved.0 p moved.1 step moved.4 may in
    let a = address_or_null addr in
    subst (ClaimsTrue c.state t a) (ap (λ (s : Step). s.prims) same) (all_true c.state c.history t a 0 moved.1.prims active)
taken_claims flow o threads c d move moved active = tt

-- and of one that comes next
next_claims : (flow : Flow) (o : Observer) (threads n : ℕ) (c : Configuration) (run : Run flow o threads n c) → IsErasedRun flow o threads n c run
    → (move : Move) → NextClaimsHold flow o threads n c run move → MoveClaims flow threads c move
next_claims flow o threads n c run er (Take t nth addr) hold = λ p step may.
    let a = address_or_null addr in
    let all = hold p step may er.collected er.runs in
    all_true c.state c.history t a 0 step.prims (λ ps qs v whole s h e. er.active t a ps qs v s h e (subst (ClaimsHold er.collected.state t) whole all))
next_claims flow o threads n c run er move hold = tt

all_meet : (flow : Flow) (o : Observer) (threads : ℕ) (envs : List Env) → TypesAreSound flow o threads envs
    → (n : ℕ) (c : Configuration) (run : Run flow o threads n c) → RunClaimsAreActive flow o threads n c run → AllMeet flow o threads envs c
all_meet flow o threads envs law n c (begin first) active = law.begun c first
all_meet flow o threads envs law n d (more {n = m} {c = c} run move moved) active =
    law.by_move m c d move run (all_meet flow o threads envs law m c run active.0) (taken_claims flow o threads c d move moved active.1) moved

-- what contracts of the crates below say, whatever their proofs
abbrev pub Erasure : Type 0
Erasure = (flow : Flow) (o : Observer) (threads : ℕ) → is_well_formed o ≡ true → 0 < threads → ErasureLaw flow o threads

abbrev pub ErasureOfRuns : Type 0
ErasureOfRuns = (flow : Flow) (o : Observer) (threads : ℕ) → is_well_formed o ≡ true → 0 < threads → RunClaimsAreKept flow o threads

pub one_run_suffices : SoundnessOfTypes → Erasure → ErasureOfRuns → ClaimsOfOneRunSuffice
one_run_suffices types erasure kept flow o threads envs fits w some typing n c run hold =
    let law = types flow o threads envs fits w typing in
    let met = all_meet flow o threads envs law n c run (kept flow o threads w some n c run hold) in
    let next = next_claims flow o threads n c run ((erasure flow o threads w some).run n c run) in
    record { met = law.met n c run met; no_race = λ move kind k claims race. law.no_race n c move kind k run met (next move claims) race }
