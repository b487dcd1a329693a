use Rattle.std.proofs.Common.{◌≡◌, ◌<◌, ◌++◌, ◌∷◌, [], length, get_or, map, Some, ap, sym, subst, ◌∙◌, arith}
use Rattle.std.specs.Prelude.{slice_get}
use Rattle.std.proofs.lemmas.List.{take_all}
use Rattle.std.proofs.lemmas.Option.{slice_get-get_or}
use Rattle.plc_symbolic.specs.Numbering.{number}
use Rattle.plc_symbolic.specs.Terms.{null}
use Rattle.plc_symbolic.specs.Tidy.{IsTidy}
use Rattle.plc_symbolic.proofs.Reading.{argument_there, mapped_more}
use Rattle.plc_symbolic.proofs.listing.Listing.numbered.Goals as goal

pub loop-term-preserved : goal.loop-term-preserved
loop-term-preserved c =
    let l = c.loop-term in
    let same = c.as_slice-term-items.ensures.keys ∙ c.self.view_is in
    mapped_more (number c.args.self.now) c.args.self.now c.as_slice-term-items.result.now same l.term-index _ c.loop-term-test.true l.terms.items c.push.new.self.items
    l.invariant (c.in_ok-push.ensures.items ∙ ap (λ t. l.terms.items ++ t ∷ []) c.number.ensures)

pub number-requires-clause-listed : goal.number-requires-clause-listed
number-requires-clause-listed c =
    let same = c.as_slice-term-items.ensures.keys ∙ c.self.view_is in
    let ys = c.as_slice-term-items.result.now in
    let i = c.loop-term.term-index in
    let is = subst (λ zs. slice_get zs i ≡ Some (get_or ys i null)) same (slice_get-get_or ys i null c.loop-term-test.true) in
    argument_there c.args.self.now (subst IsTidy c.self.view_is c.self.invariant) i _ is (subst (λ zs. i < length zs) same c.loop-term-test.true)

pub returns-clause-terms : goal.returns-clause-terms
returns-clause-terms c =
    let same = c.as_slice-term-items.ensures.keys ∙ c.self.view_is in
    let all : length c.args.self.now ≡ length c.as_slice-term-items.result.now = ap length (sym same) in
    c.from_vec.ensures ∙ c.loop-term.invariant ∙ ap (map (number c.args.self.now)) (take_all c.loop-term.term-index c.args.self.now (omega arith))
