use Rattle.std.proofs.Common.{List, refl, subst, sym, ◌∙◌}
use Rattle.std.specs.Prelude.{MatchResult}
use Rattle.std.proofs.lemmas.Result.{err_from_is_err_and}
use Rattle.plc_type.specs.declared.env.Env.{Env}
use Rattle.plc_ground.specs.declared.terms.Tree.{Tree}
use Rattle.plc_xfer.specs.Typings.{IsTyping}
use Rattle.plc_flow.specs.Skeleton.{skeleton_of}
use Rattle.plc_verify.specs.Environments.{completed}
use Rattle.plc_verify.specs.Trees.{TreesClose}
use Rattle.plc_verify.specs.Validity.{IsRefused}
use Rattle.plc_verify.specs.Tests.{MayFail, MayNotClose}
use Rattle.plc_verify.proofs.Refused.{version_refuses, environments_refuse, judged}
use Rattle.plc_verify.proofs.judging.verify.Goals as goal

pub returns-then-have-want : goal.returns-then-have-want
returns-then-have-want c =
    version_refuses c.args.flow.now c.args.observer.now c.args.outline.now c.args.cert.now c.requires _ _
    (record { have_is = refl; want_is = c.certificate_version-want.ensures; differ = c.if-have-want.true })

pub returns-in_err-verify_typing : goal.returns-in_err-verify_typing
returns-in_err-verify_typing c =
    let f = c.args.flow.now in
    let o = c.args.observer.now in
    let outline = c.args.outline.now in
    let cert = c.args.cert.now in
    let told = c.in_err-verify_typing.field-0.0 in
    let p = err_from_is_err_and c.from_residual.result c.from_residual.ensures.1 in
    let fails = subst (λ (es : List Env). MayFail o (skeleton_of f) (completed f es) told) c.as_slice.ensures
    c.in_err-verify_typing.ensures in
    rw p.1 (subst (IsRefused f o outline cert) (sym p.2)
    (environments_refuse f o outline cert c.requires (c.if-have-want.false ∙ c.certificate_version-want.ensures) told fails))

pub returns : goal.returns
returns c =
    let f = c.args.flow.now in
    let o = c.args.observer.now in
    let outline = c.args.outline.now in
    let typing = subst (λ (es : List Env). IsTyping o (skeleton_of f) (completed f es)) c.as_slice.ensures
    c.in_ok-verify_typing.ensures in
    let trees = subst (λ (ts : List Tree). MatchResult c.verify_trees.result (λ _. TreesClose f outline ts)
    (MayNotClose f outline ts)) c.as_slice-2.ensures c.verify_trees.ensures in
    judged f o outline c.args.cert.now c.requires (c.if-have-want.false ∙ c.certificate_version-want.ensures) typing c.verify_trees.result trees
