use Rattle.std.proofs.Common.{subst}
use Rattle.plc_check.specs.declared.certified.Certified.TheVariants.{Yes, No}
use Rattle.plc_check.specs.Certified.{IsCertified}
use Rattle.plc_cli.specs.Certificates.{certified_status, certified_text}
use Rattle.plc_cli.proofs.Answering.{if_told}
use Rattle.plc_cli.proofs.certifying.ForCertificateQuestion.answer.Goals as goal

pub returns-in-Yes : goal.returns-in-Yes
returns-in-Yes c =
    if_told c.certificate_answer.result (IsCertified c.args.judged.now) certified_status (certified_text c.args.judged.now)
    (Yes c.in-Yes.cert) (subst (IsCertified c.args.judged.now) c.in-Yes.is c.in_ok-cert.ensures)
    c.certificate_answer.ensures

pub returns-in-No : goal.returns-in-No
returns-in-No c =
    if_told c.verdict_answer.result (IsCertified c.args.judged.now) certified_status (certified_text c.args.judged.now)
    (No c.in-No.verdict) (subst (IsCertified c.args.judged.now) c.in-No.is c.in_ok-cert.ensures)
    c.verdict_answer.ensures
