use Rattle.std.proofs.Common.{arith, inr, refl}
use Rattle.std.proofs.lemmas.Grind.{common_steps}
use Rattle.plc_cli.proofs.verifying.judge_certificate.Goals as goal

pub returns-in_ok-invalid_text-in-Err : goal.returns-in_ok-invalid_text-in-Err
returns-in_ok-invalid_text-in-Err c =
    inr (record {
      fault = c.in-Err.fault;
      first = grind (arith, common_steps);
      invalid = grind (arith, common_steps);
      status_is = refl;
      text_is = c.in_ok-invalid_text-in-Err.ensures;
    })
