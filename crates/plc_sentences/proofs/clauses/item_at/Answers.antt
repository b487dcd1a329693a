use Rattle.std.proofs.Common.{◌≡◌, ap, ◌∙◌, arith}
use Rattle.plc_sentences.proofs.Numbered.{clause_at, named_some, named_none}
use Rattle.plc_sentences.proofs.clauses.item_at.Goals as goal

pub returns-in-Some : goal.returns-in-Some
returns-in-Some c = λ few.
    let items = c.args.outline.now.items in
    let s = named_some c.args.flow.now c.args.p items c.args.clause c.in-Some.place c.in-Some.ensures in
    let same : c.number.result ≡ c.in-Some.place = c.number.ensures (omega (arith, s.0, few)) in
    ap (clause_at items) same ∙ s.1

pub returns-in-None : goal.returns-in-None
returns-in-None c = λ few. named_none c.args.flow.now c.args.p c.args.outline.now.items c.args.clause c.in-None.ensures
