use Rattle.std.proofs.Common.{◌≡◌, true, false, get_or, set, inl, inr, refl, sym, ap, subst, ◌∙◌, arith}
use Rattle.std.proofs.lemmas.List.{get_or_read}
use Rattle.plc_type.specs.declared.env.Env.{Env}
use Rattle.plc_type.specs.Environments.{bottom, env_below, env_join, SameShape}
use Rattle.plc_xfer.specs.Typings.{env_at}
use Rattle.plc_infer.proofs.Noted.{one_noted}
use Rattle.plc_infer.proofs.resuming.raise.Goals as goal

pub env_join-requires : goal.env_join-requires
env_join-requires c =
    let envs = c.args.envs.now.items in
    subst (λ (e : Env). SameShape e c.args.work.now.reached) (sym (get_or_read envs c.args.point.0 _ c.requires.known c.index_mut.ensures.value (bottom 0 0))) c.requires.shape

pub returns-then-env_below : goal.returns-then-env_below
returns-then-env_below c =
    let envs = c.args.envs.now.items in
    let here = get_or_read envs c.args.point.0 _ c.requires.known c.index.ensures (bottom 0 0) in
    record {
      raised = inl (ap (env_below c.args.work.now.reached) (sym here) ∙ sym c.env_below.ensures ∙ c.if-env_below.true, refl, refl, refl);
      noted = record { back = refl; within = c.requires.points; count = refl };
    }

pub returns : goal.returns
returns c =
    let envs = c.args.envs.now.items in
    let at = c.args.point.0 in
    let reached = c.args.work.now.reached in
    let here = get_or_read envs at _ c.requires.known c.index.ensures (bottom 0 0) in
    let there = get_or_read envs at _ c.requires.known c.index_mut.ensures.value (bottom 0 0) in
    let is : c.in_ok-env.env ≡ get_or envs at c.in_ok-env.env = subst (λ (e : Env). e ≡ get_or envs at e) (sym c.in_ok-env.ensures) c.index-2.ensures in
    record {
      raised = inr (
        ap (env_below reached) (sym here) ∙ sym c.env_below.ensures ∙ c.if-env_below.false,
        ap (λ (e : Env). set envs at e) (c.env_join.ensures.joined ∙ ap (λ (e : Env). env_join e reached) there),
        c.in_ok-put.ensures,
      );
      noted = one_noted envs _ c.args.work.now.replaced.items c.push.new.self.items c.args.point c.in_ok-env.env c.env_join.new.into c.requires.points c.requires.known is
          c.in_ok-push.ensures.items refl;
    }
