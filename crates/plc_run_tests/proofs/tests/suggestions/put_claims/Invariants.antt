use Rattle.plc_lang.specs.Fit.{FileFits}
use Rattle.plc_flow.specs.WellFormed.{IsWellFormed}
use Rattle.plc_run_tests.proofs.tests.suggestions.put_claims.Given as goal

abbrev pub invariant-loop-spot : goal.invariant-loop-spot
invariant-loop-spot l = IsWellFormed l.flow × FileFits l.flow.file
