use Rattle.std.proofs.Common.{◌≡◌, ◌-◌, ◌∷◌}
use Rattle.plc_syntax.specs.Syntax.{kinds}
use Rattle.plc_syntax.specs.Forms.{list_of}
use Rattle.plc_tree.proofs.Loops.{before}
use Rattle.plc_tree.proofs.list.list_at.Given as goal

abbrev pub invariant-loop-i : goal.invariant-loop-i
invariant-loop-i g l =
    let items = list_of g.T.Listed.starts g.T.Listed.of in
    before g.T.Listed.tree (λ t ts. t ∷ ts) l.items (items (l.most - l.i) l.rest.at (kinds l.rest.tokens.now))
    ≡ items l.most l.fn.start.at (kinds l.fn.start.tokens.now)
