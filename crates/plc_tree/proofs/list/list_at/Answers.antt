use Rattle.std.proofs.Common.{◌≡◌, ◌∙◌, ◌+◌, ◌-◌, ℕ, suc, ◌∷◌, [], ◌++◌, sym, ap, arith}
use Rattle.std.proofs.lemmas.Result.{err_from_is_err_and}
use Rattle.plc_syntax.specs.Syntax.{kinds}
use Rattle.plc_syntax.specs.Forms.{list_of}
use Rattle.plc_tree.proofs.Loops.{before, list_turn, list_end, list_stop, list_out}
use Rattle.plc_tree.proofs.list.list_at.Goals as goal

pub returns-then-not-begins : goal.returns-then-not-begins
returns-then-not-begins g c =
    let l = c.loop-i in
    let t = g.T.Listed in
    let more : c.args.most - l.i ≡ suc (c.args.most - 1 - l.i) = omega (arith, c.loop-i-test.true) in
    list_end t.tree t.starts t.of (c.args.most - l.i) (c.args.most - 1 - l.i) l.rest.at (kinds l.rest.tokens.now)
    l.items _ more (sym c.begins.ensures ∙ c.if-not-begins.true) l.invariant

pub returns-in_err-item : goal.returns-in_err-item
returns-in_err-item g c =
    let l = c.loop-i in
    let t = g.T.Listed in
    let p = err_from_is_err_and c.from_residual.result c.from_residual.ensures.1 in
    let more : c.args.most - l.i ≡ suc (c.args.most - 1 - l.i) = omega (arith, c.loop-i-test.true) in
    rw (p.1, p.2) (list_stop t.tree t.starts t.of _ (c.args.most - l.i) (c.args.most - 1 - l.i) l.rest.at
    (kinds l.rest.tokens.now) l.items _ more (sym c.begins.ensures ∙ c.if-not-begins.false) c.in_err-item.ensures
    l.invariant)

pub loop-i-preserved : goal.loop-i-preserved
loop-i-preserved g c =
    let l = c.loop-i in
    let t = g.T.Listed in
    let more : c.args.most - l.i ≡ suc (c.args.most - 1 - l.i) = omega (arith, c.loop-i-test.true) in
    let fuel : c.args.most - (l.i + 1) ≡ c.args.most - 1 - l.i = omega arith in
    let at = c.in_ok-item.after.at in
    let after = kinds c.in_ok-item.after.tokens.now in
    ap (λ xs. before t.tree (λ t ts. t ∷ ts) xs (list_of t.starts t.of (c.args.most - (l.i + 1)) at after))
    c.in_ok-push.ensures.ok
    ∙ ap (λ (m : ℕ). before t.tree (λ t ts. t ∷ ts) (l.items ++ c.in_ok-item.item ∷ [])
    (list_of t.starts t.of m at after)) fuel
    ∙ sym (list_turn t.tree t.starts t.of (c.args.most - l.i) (c.args.most - 1 - l.i) l.rest.at at
    (kinds l.rest.tokens.now) after l.items c.in_ok-item.item more (sym c.begins.ensures ∙ c.if-not-begins.false)
    c.in_ok-item.ensures)
    ∙ l.invariant

pub returns : goal.returns
returns g c =
    let l = c.loop-i in
    let t = g.T.Listed in
    let none : c.args.most - l.i ≡ 0 = omega (arith, c.loop-i-test.false) in
    rw c.syntax_fault.ensures (list_out t.tree t.starts t.of (c.args.most - l.i) l.rest.at (kinds l.rest.tokens.now) l.items _
    none l.invariant)
