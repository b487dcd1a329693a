use Rattle.plc_lex.proofs.Unique.{same_tokens}
use Rattle.plc_check.proofs.Fitting.{loaded_fits}
use Rattle.plc_check.proofs.Refusals.{unit_of, parse_refused}
use Rattle.plc_check.proofs.Unique.{judged_loaded}
use Rattle.plc_check.proofs.loading.load_tokens.Goals as goal

pub returns-in-Ok-clause-loaded : goal.returns-in-Ok-clause-loaded
returns-in-Ok-clause-loaded c =
    judged_loaded c.args.bytes.now c.args.found.now c.requires.spelled c.in-Ok.unit c.in-Ok.ensures.ok
    c.judged_of.result c.judged_of.ensures

pub returns-in-Ok-clause-fits : goal.returns-in-Ok-clause-fits
returns-in-Ok-clause-fits c = loaded_fits c.args.bytes.now c.judged_of.result (returns-in-Ok-clause-loaded c)

pub returns-in-Err-clause-loaded : goal.returns-in-Err-clause-loaded
returns-in-Err-clause-loaded c =
    rw c.parse_refusal.ensures
    (parse_refused c.args.bytes.now c.args.found.now c.requires.spelled c.in-Err.fault c.in-Err.ensures.fault
    (λ u f. c.in-Err.ensures.spelled u (unit_of c.args.bytes.now c.args.found.now u f
    (same_tokens 0 1 c.args.bytes.now c.args.found.now f.tokens c.requires.spelled f.spells.spelled))))
