use Rattle.std.proofs.Common.{◌≡◌, ◌∙◌, ◌+◌, ◌∷◌, [], ℕ, drop, length, Ok, ap, arith}
use Rattle.std.proofs.lemmas.List.{length-append}
use Rattle.std.proofs.lemmas.Result.{err_from_is_err_and}
use Rattle.plc_scope.specs.Scope.{◌>>=◌}
use Rattle.plc_scope.proofs.Sequence.{bind_stops}
use Rattle.plc_scope.proofs.Turns.{ahead, makes, makes_none, made}
use Rattle.plc_parse.proofs.Growth.{names_fit, names_then, names_within}
use Rattle.plc_parse.proofs.Loops.{one_declared, all_declared, listed_from, one_listed, listed_go, one_more, all_of}
use Rattle.plc_parse.proofs.lists.declare_all.Goals as goal

pub declare-requires-clause-room : goal.declare-requires-clause-room
declare-requires-clause-room g c =
    let l = c.loop-form in
    let k = g.L.Listed.kind in
    names_fit _ l.scope k.names (length l.items) k.limit l.invariant.count c.requires l.invariant.grows

pub returns-in_err-item-clause-read : goal.returns-in_err-item-clause-read
returns-in_err-item-clause-read g c =
    let l = c.loop-form in
    let k = g.L.Listed.kind in
    let p = err_from_is_err_and c.from_residual.result c.from_residual.ensures.1 in
    rw (p.1, p.2) (makes_none (listed_from k.means k.tree) (one_listed k.means k.tree) one_declared all_declared
    (listed_go k.means k.tree) (l.scope, length l.items) c.args.forms.now l.form-index c.form-item.result _
    l.items _ _ c.form-item.is c.loop-form-test.true
    (bind_stops _ _ (λ f. Ok (f.0, (f.1, length l.items + 1))) (rw c.len.ensures at c.in_err-item.ensures.read))
    l.invariant.read)

pub loop-form-preserved : goal.loop-form-preserved
loop-form-preserved g c =
    let l = c.loop-form in
    let k = g.L.Listed.kind in
    let item = c.in_ok-item.item in
    let new = c.push.new.self in
    let pushed = c.in_ok-push.ensures.ok in
    let count : length new ≡ length l.items + 1 = ap length pushed ∙ length-append l.items (item ∷ []) in
    record {
      count = omega (arith, count, c.len.ensures, c.in_ok-item.ensures.few);
      grows = names_then _ _ _ k.names (length l.items) _ count l.invariant.grows c.in_ok-item.ensures.declares;
      read = ap (λ (n : ℕ). ahead (listed_from k.means k.tree) (one_listed k.means k.tree) one_declared all_declared
          (listed_go k.means k.tree) new (listed_from k.means k.tree (c.declare.new.scope, n)
          (drop (l.form-index + 1) c.args.forms.now))) count
          ∙ makes (listed_from k.means k.tree) (one_listed k.means k.tree) one_declared all_declared
          (listed_go k.means k.tree) (l.scope, length l.items) _ c.args.forms.now l.form-index c.form-item.result _
          l.items new item c.form-item.is c.loop-form-test.true (λ o. one_more l.items new item pushed o)
          (ap (λ r. r >>= λ f. Ok (f.0, (f.1, length l.items + 1))) (rw c.len.ensures at c.in_ok-item.ensures.read))
          ∙ l.invariant.read;
    }

pub returns-clause-read : goal.returns-clause-read
returns-clause-read g c =
    let l = c.loop-form in
    let k = g.L.Listed.kind in
    made (listed_from k.means k.tree) (one_listed k.means k.tree) one_declared all_declared (listed_go k.means k.tree)
    (l.scope, length l.items) c.args.forms.now l.form-index l.items _ c.loop-form-test.false l.invariant.read
    ∙ ap (λ o. Ok o) (all_of l.items l.scope)

pub returns-clause-declares : goal.returns-clause-declares
returns-clause-declares g c =
    let l = c.loop-form in
    names_within _ _ g.L.Listed.kind.names (length l.items) _ l.invariant.count l.invariant.grows
