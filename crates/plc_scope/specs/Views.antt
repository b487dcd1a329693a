-- The meanings that the program's answers stand for.
use Rattle.plc_scope.specs.declared.calls.Called.{Called}
use Rattle.plc_scope.specs.Primitives.{CallMeaning}

-- what a call means
abbrev pub call_meaning : Called → CallMeaning
call_meaning c = (c.func, c.arg, c.active)
