use Rattle.plc_print.proofs.outlines.locals_in_reach.Goals as goal

pub returns-in-Some : goal.returns-in-Some
returns-in-Some c = rw (← c.in-Some.ensures, ← c.as_slice.ensures) c.locals_of.ensures
