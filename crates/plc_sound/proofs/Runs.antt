-- The law of types over whole runs, by induction on their moves.
use Rattle.std.proofs.Common.{ℕ, ◌<◌, List}
use Rattle.plc_auto.specs.declared.observer.Observer.{Observer}
use Rattle.plc_flow.specs.declared.flow.Flow.{Flow}
use Rattle.plc_run.specs.Run.{Configuration, Run, begin, more}
use Rattle.plc_type.specs.declared.env.Env.{Env}
use Rattle.plc_sound.proofs.Moves.{sound}
use Rattle.plc_sound.specs.Laws.{AllMeet, TypesAreSound, ClaimsHold, TrueClaimsSuffice}

-- in every configuration of a run each busy thread meets an environment of its point
all_meet : (flow : Flow) (o : Observer) (threads : ℕ) (envs : List Env) → 0 < threads → TypesAreSound flow o threads envs → ClaimsHold flow o
    → (n : ℕ) (c : Configuration) → Run flow o threads n c → AllMeet flow o threads envs c
all_meet flow o threads envs some law hold n c (begin first) = law.begun c first
all_meet flow o threads envs some law hold n d (more {n = k} {c = c} run move moved) =
    law.by_move k c d move run (all_meet flow o threads envs some law hold k c run) (hold threads k c some run move) moved

pub true_claims_suffice : TrueClaimsSuffice
true_claims_suffice flow o fits w typing hold threads n c some run move kind k race =
    let law = sound flow o threads typing.0 fits w typing.1 in
    law.no_race n c move kind k run (all_meet flow o threads typing.0 some law hold n c run) (hold threads n c some run move) race
