use Rattle.std.proofs.Common.{◌≡◌, sym, ap, subst, ◌∙◌}
use Rattle.std.proofs.lemmas.Result.{IfOk-weaker}
use Rattle.plc_symbolic.specs.Numbering.{put, place}
use Rattle.plc_symbolic.specs.Tidy.{IsTidy}
use Rattle.plc_symbolic.specs.Growth.{Grows}
use Rattle.plc_symbolic.proofs.Places.{put_from, place_from, grows_put, tidy_put}
use Rattle.plc_symbolic.proofs.listing.Listing.insert.Goals as goal

grown : (c : goal.After-short) → c.insert_full.new.self.keys ≡ put c.args.self.now c.args.term
grown c = put_from c.self.inside.terms.keys c.args.self.now c.insert_full.new.self.keys c.args.term c.self.view_is c.in_ok-at.ensures.keys

pub invariant_of-self-2 : goal.invariant_of-self-2
invariant_of-self-2 c = subst IsTidy (sym (grown c)) (tidy_put c.args.self.now c.args.term (subst IsTidy c.self.view_is c.self.invariant) c.requires)

pub returns-clause-grows : goal.returns-clause-grows
returns-clause-grows c = subst (Grows c.args.self.now) (sym (grown c)) (grows_put c.args.self.now c.args.term)

pub returns-clause-listed : goal.returns-clause-listed
returns-clause-listed c = IfOk-weaker c.short.result (λ n. n ≡ c.in_ok-at.at) (λ _. c.insert_full.new.self.keys ≡ put c.args.self.now c.args.term) (λ n e. grown c) c.short.ensures

pub returns-clause-place : goal.returns-clause-place
returns-clause-place c =
    let place' = place_from c.self.inside.terms.keys c.args.self.now c.args.term c.in_ok-at.at c.self.view_is c.in_ok-at.ensures.index
    ∙ ap (λ us. place us c.args.term) (sym (grown c)) in
    IfOk-weaker c.short.result (λ n. n ≡ c.in_ok-at.at) (λ n. n ≡ place c.insert_full.new.self.keys c.args.term) (λ n e. e ∙ place') c.short.ensures
