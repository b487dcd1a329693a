use Rattle.std.proofs.Common.{◌≡◌, true, false, refl, sym, ap, ◌∙◌, arith}
use Rattle.plc_type.specs.declared.env.Env.{Env}
use Rattle.plc_type.specs.Environments.{env_below, env_join}
use Rattle.plc_xfer.specs.Typings.{led}
use Rattle.plc_infer.proofs.Programs.{step_at, step_read, from_inside, to_inside, from_fits, led_shape, to_there, stays, raised}
use Rattle.plc_infer.proofs.fixpoint.relax.Goals as goal

pub index-requires : goal.index-requires
index-requires c = omega (arith, from_inside c.args.observer.now c.args.program.now c.args.envs.now.items c.args.k c.requires.program c.requires.shaped c.requires.known)

pub led_from-requires : goal.led_from-requires
led_from-requires c =
    let p = c.args.program.now in
    from_fits c.args.observer.now p c.args.envs.now.items c.args.k (step_at p c.args.k) c.requires.program c.requires.shaped c.requires.known (step_read p c.args.k c.requires.known) c.index.result.now c.index.ensures

pub index-requires-2 : goal.index-requires-2
index-requires-2 c = omega (arith, to_inside c.args.observer.now c.args.program.now c.args.envs.now.items c.args.k c.requires.program c.requires.shaped c.requires.known)

pub index_mut-requires : goal.index_mut-requires
index_mut-requires c = omega (arith, to_inside c.args.observer.now c.args.program.now c.args.envs.now.items c.args.k c.requires.program c.requires.shaped c.requires.known)

pub returns-then-env_below : goal.returns-then-env_below
returns-then-env_below c =
    let p = c.args.program.now in
    let x = step_at p c.args.k in
    let below : env_below (led c.args.observer.now c.index.result.now x.prims.now) c.index-2.result.now ≡ true = ap (λ (e : Env). env_below e c.index-2.result.now) (sym c.in_ok-led_from.ensures) ∙ sym c.env_below.ensures ∙ c.if-env_below.true in
    (stays c.args.observer.now p c.args.envs.now.items c.args.k x c.requires.program c.requires.shaped c.requires.known (step_read p c.args.k c.requires.known) c.index.result.now c.index-2.result.now c.index.ensures c.index-2.ensures below, refl)

pub env_join-requires : goal.env_join-requires
env_join-requires c =
    let p = c.args.program.now in
    rw c.in_ok-led_from.ensures
    (led_shape c.args.observer.now p c.args.envs.now.items c.args.k (step_at p c.args.k) c.requires.program c.requires.shaped c.requires.known (step_read p c.args.k c.requires.known) c.index.result.now c.index_mut.result.now c.index.ensures c.index_mut.ensures.value)

pub returns : goal.returns
returns c =
    let p = c.args.program.now in
    let x = step_at p c.args.k in
    let read = step_read p c.args.k c.requires.known in
    let below : env_below (led c.args.observer.now c.index.result.now x.prims.now) c.index-2.result.now ≡ false = ap (λ (e : Env). env_below e c.index-2.result.now) (sym c.in_ok-led_from.ensures) ∙ sym c.env_below.ensures ∙ c.if-env_below.false in
    let same : c.index_mut.result.now ≡ c.index-2.result.now =
    (to_there c.args.observer.now p c.args.envs.now.items c.args.k x c.requires.program c.requires.shaped c.requires.known read c.index_mut.result.now c.index_mut.ensures.value).0
    ∙ sym (to_there c.args.observer.now p c.args.envs.now.items c.args.k x c.requires.program c.requires.shaped c.requires.known read c.index-2.result.now c.index-2.ensures).0 in
    let join : c.env_join.new.into ≡ env_join c.index-2.result.now (led c.args.observer.now c.index.result.now x.prims.now) = c.env_join.ensures.joined ∙ ap (λ (e : Env). env_join e c.led_from.new.reached) same ∙ ap (env_join c.index-2.result.now) c.in_ok-led_from.ensures in
    raised c.args.observer.now p c.args.envs.now.items c.args.k x c.requires.program c.requires.shaped c.requires.known read _ c.index.result.now c.index-2.result.now c.env_join.new.into c.index.ensures c.index-2.ensures below join refl
