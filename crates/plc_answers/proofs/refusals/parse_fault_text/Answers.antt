use Rattle.plc_answers.proofs.refusals.parse_fault_text.Goals as goal

pub returns-in-Undeclared : goal.returns-in-Undeclared
returns-in-Undeclared c = rw c.in-Undeclared.is c.token_text-in-Undeclared.ensures
