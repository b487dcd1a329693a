use Rattle.std.proofs.Common.{◌≡◌, ◌+◌, true, false, drop, Option, None, sym, ap, ◌∙◌, arith}
use Rattle.std.specs.Prelude.{Result, Ok, Err, is_none}
use Rattle.std.specs.Result.{is_err, result_err}
use Rattle.std.proofs.lemmas.List.{drop_all, drop_more}
use Rattle.plc_type.specs.declared.env.Env.{Env}
use Rattle.plc_xfer.specs.Rules.{env_after_all, interfered}
use Rattle.plc_infer.proofs.Failing.{failed, passed, goes_on}
use Rattle.plc_infer.proofs.resuming.run.Goals as goal

err_found : {A B : Type 0} (r : Result A B) (f : Option B) → result_err r ≡ f → is_err r ≡ true → is_none f ≡ false
err_found (Ok x) f e h = absurd cc
err_found (Err x) f e h = ap is_none (sym e)

ok_none : {A B : Type 0} (r : Result A B) (f : Option B) → result_err r ≡ f → is_err r ≡ false → None ≡ f
ok_none (Ok x) f e h = e
ok_none (Err x) f e h = absurd cc

pub returns-then-is_err : goal.returns-then-is_err
returns-then-is_err c = (
  c.loop-prim.prim-index,
  c.loop-prim-test.true,
  failed c.args.observer.now c.args.env.now c.loop-prim.reached c.args.prims.now c.loop-prim.prim-index _
      c.loop-prim-test.true c.loop-prim.invariant.from_here
      (err_found c.condition.result _ c.condition.ensures (sym c.is_err.ensures.value ∙ c.if-is_err.true)),
)

pub loop-prim-preserved : goal.loop-prim-preserved
loop-prim-preserved c =
    let o = c.args.observer.now in
    let prims = c.args.prims.now in
    let i = c.loop-prim.prim-index in
    let met = ok_none c.condition.result _ c.condition.ensures (sym c.is_err.ensures.value ∙ c.if-is_err.false) in
    record {
      fits = c.apply.ensures.fits;
      none_before = passed o c.args.env.now c.loop-prim.reached prims i _ c.loop-prim-test.true
          c.loop-prim.invariant.from_here c.loop-prim.invariant.none_before met;
      from_here = goes_on o c.args.env.now c.loop-prim.reached prims i _ c.loop-prim-test.true
          c.loop-prim.invariant.from_here c.apply.new.env c.apply.ensures.effect;
      so_far = ap (λ (e : Env). env_after_all o e (drop (i + 1) prims)) c.apply.ensures.effect
          ∙ sym (ap (env_after_all o c.loop-prim.reached) (drop_more prims i _ c.loop-prim-test.true))
          ∙ c.loop-prim.invariant.so_far;
    }

pub returns : goal.returns
returns c =
    let o = c.args.observer.now in
    let prims = c.args.prims.now in
    let done = sym (ap (env_after_all o c.loop-prim.reached)
    (drop_all c.loop-prim.prim-index prims c.loop-prim-test.false)) ∙ c.loop-prim.invariant.so_far in (
      c.interfere.ensures.interfered ∙ ap (interfered o) done,
      λ i small. c.loop-prim.invariant.none_before i
          (omega arith),
    )
