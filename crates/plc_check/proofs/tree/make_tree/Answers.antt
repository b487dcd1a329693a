use Rattle.std.proofs.Common.{rules, [], ◌∷◌}
use Rattle.plc_oblig.specs.GroundSets.{ground_set}
use Rattle.plc_check.proofs.Readable.{nodes_fit}
use Rattle.plc_check.proofs.tree.make_tree.Goals as goal

pub returns-in-Some-clause-shown : goal.returns-in-Some-clause-shown
returns-in-Some-clause-shown c =
    let set = ground_set c.args.program.now.flow.now c.args.program.now.outline.now c.args.obligation in
    let tree = rw c.in-Some.is at c.in_ok-tree.ensures.tree in
    record {
      closes = tree.closes;
      once = tree.once;
      fits = nodes_fit set tree.well ([] ∷ []) c.in-Some.tree.nodes tree.closes;
    }

pub returns-in-None-clause-shown : goal.returns-in-None-clause-shown
returns-in-None-clause-shown c = search rules
