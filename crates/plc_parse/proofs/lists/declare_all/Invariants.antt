use Rattle.std.proofs.Common.{◌≡◌, ◌*◌, ◌≤◌, drop, length}
use Rattle.plc_scope.proofs.Turns.{ahead}
use Rattle.plc_parse.specs.Growth.{AddsNames}
use Rattle.plc_parse.proofs.Loops.{one_declared, all_declared, listed_from, one_listed, listed_go}
use Rattle.plc_parse.proofs.lists.declare_all.Given as goal

abbrev pub invariant-loop-form : goal.invariant-loop-form
invariant-loop-form g l = let k = g.L.Listed.kind in record {
  count : length l.items ≤ k.limit;
  grows : AddsNames l.fn.scope l.scope (k.names * length l.items);
  read : ahead (listed_from k.means k.tree) (one_listed k.means k.tree) one_declared all_declared
      (listed_go k.means k.tree) l.items
      (listed_from k.means k.tree (l.scope, length l.items) (drop l.form-index l.forms))
      ≡ listed_from k.means k.tree (l.fn.scope, 0) l.fn.forms;
}
