use Rattle.plc_gc.proofs.state.State.change_by_call.Goals as goal

pub returns-in-Var : goal.returns-in-Var
returns-in-Var c = rw (← c.is_retire.ensures, c.if-not-is_retire.false, c.in-Var.is) c.change_at.ensures
