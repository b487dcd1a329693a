use Rattle.std.proofs.Common.{◌<◌, List, ℕ, [], ◌∷◌, length, sym, subst}
use Rattle.std.specs.Prelude.{All, Contains}
use Rattle.std.proofs.lemmas.List.Elements.{All-push, Contains-append_left, Contains-push}
use Rattle.plc_ground.proofs.table.list_once.Goals as goal

pub returns-in_ok-push-clause-listed : goal.returns-in_ok-push-clause-listed
returns-in_ok-push-clause-listed c =
    subst (λ (ls : List ℕ). Contains ls c.args.a) (sym c.in_ok-push.ensures.ok) (Contains-push c.args.list.now c.args.a)

pub returns-in_ok-push-clause-kept : goal.returns-in_ok-push-clause-kept
returns-in_ok-push-clause-kept c = λ b h.
    subst (λ (ls : List ℕ). Contains ls b) (sym c.in_ok-push.ensures.ok) (Contains-append_left c.args.list.now (c.args.a ∷ []) b h)

pub returns-in_ok-push-clause-each : goal.returns-in_ok-push-clause-each
returns-in_ok-push-clause-each c =
    subst (λ (ls : List ℕ). All (λ b. b < length c.args.set.now.terms) ls) (sym c.in_ok-push.ensures.ok)
    (All-push (λ b. b < length c.args.set.now.terms) c.args.list.now c.args.a c.requires.each c.requires.range)
