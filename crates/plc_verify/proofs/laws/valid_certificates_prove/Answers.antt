use Rattle.plc_verify.proofs.Refused.{valid_prove}
use Rattle.plc_verify.proofs.laws.valid_certificates_prove.Goals as goal

pub returns : goal.returns
returns c = valid_prove
