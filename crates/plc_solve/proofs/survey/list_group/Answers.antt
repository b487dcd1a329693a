use Rattle.std.proofs.Common.{List, ℕ, sym, subst, inl, refl}
use Rattle.std.specs.Prelude.{All, Any, Contains}
use Rattle.std.proofs.lemmas.List.Elements.{All-push}
use Rattle.plc_ground.proofs.Listing.{Any-append_left, Any-push}
use Rattle.plc_solve.specs.Search.{IsGroup}
use Rattle.plc_solve.proofs.survey.list_group.Goals as goal

pub returns-in_ok-push-clause-each : goal.returns-in_ok-push-clause-each
returns-in_ok-push-clause-each c =
    subst (λ (ls : List (List ℕ)). All (IsGroup c.args.set.now) ls) (sym c.in_ok-push.ensures.ok)
    (All-push (IsGroup c.args.set.now) c.args.groups.now c.in_ok-group_of.field-0 c.requires.each (c.args.i, c.requires.range, c.in_ok-group_of.ensures))

pub returns-in_ok-push-clause-grouped : goal.returns-in_ok-push-clause-grouped
returns-in_ok-push-clause-grouped c = λ _.
    subst (λ (ls : List (List ℕ)). Any (λ (g : List ℕ). Contains g c.args.i) ls) (sym c.in_ok-push.ensures.ok)
    (Any-push (λ (g : List ℕ). Contains g c.args.i) c.args.groups.now c.in_ok-group_of.field-0 (c.in_ok-group_of.ensures.whole c.args.i (inl refl)))

pub returns-in_ok-push-clause-kept : goal.returns-in_ok-push-clause-kept
returns-in_ok-push-clause-kept c = λ j h.
    subst (λ (ls : List (List ℕ)). Any (λ (g : List ℕ). Contains g j) ls) (sym c.in_ok-push.ensures.ok)
    (Any-append_left (λ (g : List ℕ). Contains g j) c.args.groups.now _ h)
