use Rattle.std.proofs.Common.{◌≡◌, ◌∙◌, ◌+◌, ◌<◌, ◌∷◌, [], ℕ, drop, length, Ok, refl, ap, arith}
use Rattle.std.proofs.lemmas.List.{length-append}
use Rattle.std.proofs.lemmas.Result.{err_from_is_err_and}
use Rattle.plc_syntax.specs.Views.{name_tree}
use Rattle.plc_scope.specs.Scope.{◌>>=◌}
use Rattle.plc_scope.proofs.Sequence.{bind_stops}
use Rattle.plc_scope.proofs.Turns.{ahead, makes, makes_none, made}
use Rattle.plc_parse.proofs.Growth.{lists_then}
use Rattle.plc_parse.specs.Meaning.{value_means}
use Rattle.plc_parse.proofs.Loops.{one_declared, all_declared, listed_from, one_listed, listed_go, one_more, all_of}
use Rattle.plc_parse.proofs.auxiliary.declare_values.Goals as goal

pub returns-in_err-number-2-clause-read : goal.returns-in_err-number-2-clause-read
returns-in_err-number-2-clause-read c =
    let l = c.loop-name in
    let p = err_from_is_err_and c.from_residual-in_err-number-2.result c.from_residual-in_err-number-2.ensures.1 in
    rw (p.1, p.2) (makes_none (listed_from (value_means c.args.owner) name_tree) (one_listed (value_means c.args.owner) name_tree) one_declared
    all_declared (listed_go (value_means c.args.owner) name_tree) (l.scope, length l.values) c.args.others.now l.name-index _ _ l.values
    _ _ refl c.loop-name-test.true (bind_stops _ _ (λ f. Ok (f.0, (f.1, length l.values + 1)))
    (rw c.len.ensures at c.in_err-number-2.ensures.read)) l.invariant.read)

pub loop-name-preserved : goal.loop-name-preserved
loop-name-preserved c =
    let l = c.loop-name in
    let pushed = c.in_ok-push-2.ensures.ok in
    let count : length c.push-in-loop-name.new.self ≡ length l.values + 1 =
    ap length pushed ∙ length-append l.values (c.in_ok-number-2.number ∷ []) in
    let less : length l.values < 16 = omega (arith, c.in_ok-number-2.ensures.limit, c.len.ensures) in
    record {
      one = omega arith;
      count = omega arith;
      names = omega (arith, l.invariant.names, c.in_ok-number-2.ensures.declares.names.names);
      limit = c.in_ok-number-2.ensures.declares.names.limit ∙ l.invariant.limit;
      lists = lists_then _ _ _ l.invariant.lists c.in_ok-number-2.ensures.declares.lists;
      read = ap (λ (n : ℕ). ahead (listed_from (value_means c.args.owner) name_tree) (one_listed (value_means c.args.owner) name_tree) one_declared
          all_declared (listed_go (value_means c.args.owner) name_tree) c.push-in-loop-name.new.self (listed_from (value_means c.args.owner) name_tree
          (c.declare_value-in-loop-name.new.scope, n) (drop (l.name-index + 1) c.args.others.now))) count
          ∙ makes (listed_from (value_means c.args.owner) name_tree) (one_listed (value_means c.args.owner) name_tree) one_declared all_declared
          (listed_go (value_means c.args.owner) name_tree) (l.scope, length l.values) _ c.args.others.now l.name-index _ _ l.values
          c.push-in-loop-name.new.self c.in_ok-number-2.number refl c.loop-name-test.true
          (λ o. one_more l.values c.push-in-loop-name.new.self c.in_ok-number-2.number pushed o)
          (ap (λ r. r >>= λ f. Ok (f.0, (f.1, length l.values + 1)))
          (rw c.len.ensures at c.in_ok-number-2.ensures.read))
          ∙ l.invariant.read;
    }

pub returns-clause-read : goal.returns-clause-read
returns-clause-read c =
    let l = c.loop-name in
    made (listed_from (value_means c.args.owner) name_tree) (one_listed (value_means c.args.owner) name_tree) one_declared all_declared
    (listed_go (value_means c.args.owner) name_tree) (l.scope, length l.values) c.args.others.now l.name-index l.values _
    c.loop-name-test.false l.invariant.read
    ∙ ap (λ o. Ok o) (all_of l.values l.scope)
