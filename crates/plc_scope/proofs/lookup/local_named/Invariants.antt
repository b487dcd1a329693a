use Rattle.std.proofs.Common.{◌≡◌, ◌==◌, drop}
use Rattle.std.specs.List.{position_from}
use Rattle.plc_lang.specs.declared.syntax.Local.{Local}
use Rattle.plc_scope.proofs.lookup.local_named.Given as goal

abbrev pub invariant-loop-place : goal.invariant-loop-place
invariant-loop-place l =
    position_from (λ (x : Local). x.name == l.number) l.place (drop l.place l.locals) ≡ position_from (λ (x : Local). x.name == l.number) 0 l.locals
