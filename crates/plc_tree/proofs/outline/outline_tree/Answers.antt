use Rattle.std.specs.Prelude.{IfOk}
use Rattle.std.proofs.Common.{◌≡◌, ◌+◌, ℕ, length, subst, arith}
use Rattle.plc_syntax.specs.Syntax.{kinds}
use Rattle.plc_tree.specs.FormViews.{outline_tree}
use Rattle.plc_tree.proofs.AtFront.{outline_there, outline_end, outline_stops}
use Rattle.plc_tree.proofs.Nested.{kinds_length}
use Rattle.plc_tree.proofs.outline.outline_tree.Goals as goal

pub returns-clause-tree : goal.returns-clause-tree
returns-clause-tree c =
    let n = kinds_length c.args.start.tokens.now in
    outline_there outline_tree c.args.start.at (kinds c.args.start.tokens.now) _ (omega arith) c.outline_at.result
    c.outline_at.ensures

pub returns-clause-after : goal.returns-clause-after
returns-clause-after c =
    let n = kinds_length c.args.start.tokens.now in
    subst (λ (k : ℕ). IfOk c.outline_at.result
    (λ r. r.1.at + length r.1.tokens.now ≡ c.args.start.at + k)) n
    (outline_end outline_tree c.args.start.at (kinds c.args.start.tokens.now) _ (omega arith) c.outline_at.result
    c.outline_at.ensures)

pub returns-clause-fault : goal.returns-clause-fault
returns-clause-fault c =
    let n = kinds_length c.args.start.tokens.now in
    outline_stops outline_tree c.args.start.at (kinds c.args.start.tokens.now) _ (omega arith) c.outline_at.result
    c.outline_at.ensures
