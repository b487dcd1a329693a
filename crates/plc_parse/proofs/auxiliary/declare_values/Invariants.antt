use Rattle.std.proofs.Common.{◌≡◌, ◌+◌, ◌≤◌, ◌∷◌, drop, length}
use Rattle.plc_syntax.specs.Views.{name_tree}
use Rattle.plc_scope.proofs.Turns.{ahead}
use Rattle.plc_parse.specs.Growth.{KeepsLists}
use Rattle.plc_parse.specs.Meaning.{value_means}
use Rattle.plc_parse.proofs.Loops.{one_declared, all_declared, listed_from, one_listed, listed_go}
use Rattle.plc_parse.proofs.auxiliary.declare_values.Given as goal

abbrev pub invariant-loop-name : goal.invariant-loop-name
invariant-loop-name l = record {
  one : 1 ≤ length l.values;
  count : length l.values ≤ 16;
  names : length l.scope.names.names ≤ length l.fn.scope.names.names + length l.values;
  limit : l.scope.names.limit ≡ l.fn.scope.names.limit;
  lists : KeepsLists l.fn.scope l.scope;
  read : ahead (listed_from (value_means l.owner) name_tree) (one_listed (value_means l.owner) name_tree) one_declared all_declared
      (listed_go (value_means l.owner) name_tree) l.values
      (listed_from (value_means l.owner) name_tree (l.scope, length l.values) (drop l.name-index l.others))
      ≡ listed_from (value_means l.owner) name_tree (l.fn.scope, 0) (l.fn.first ∷ l.fn.others);
}
