use Rattle.std.proofs.Common.{subst}
use Rattle.plc_cert.specs.declared.cert.Cert.{Cert}
use Rattle.plc_check.specs.Counterexamples.{AreShown}
use Rattle.plc_check.proofs.Completing.{certificate}
use Rattle.plc_check.proofs.certified.certify_outline.Goals as goal

pub returns-in-Trees : goal.returns-in-Trees
returns-in-Trees c =
    let j = c.args.judged.now in
    let version = c.certificate_version-version.result in
    let cert : Cert = record { version = version; env = c.args.typing.env; trees = c.in-Trees.trees } in
    certificate j cert c.certificate_version-version.ensures c.requires.typing
    (subst (AreShown j.flow j.unit_outline) c.in-Trees.is c.in_ok-trees.ensures)
