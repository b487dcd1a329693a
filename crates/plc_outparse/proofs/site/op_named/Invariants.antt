use Rattle.std.proofs.Common.{◌≡◌, ◌==◌, drop}
use Rattle.std.specs.List.{position_from}
use Rattle.plc_lang.specs.declared.syntax.Op.{Op}
use Rattle.plc_outparse.proofs.site.op_named.Given as goal

abbrev pub invariant-loop-i : goal.invariant-loop-i
invariant-loop-i l =
    position_from (λ (o : Op). o.name == l.number) l.i (drop l.i l.ops)
    ≡ position_from (λ (o : Op). o.name == l.number) 0 l.ops
