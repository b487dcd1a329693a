use Rattle.std.proofs.Common.{◌∙◌, ◌∷◌, [], List, length, ap, subst, sym}
use Rattle.plc_ground.specs.declared.terms.Lit.{Lit}
use Rattle.plc_ground.specs.Classes.{IsNoLater}
use Rattle.plc_solve.specs.Search.{IsPlace, IsConflict, Collide}
use Rattle.plc_solve.proofs.Searching.{conflict_collides, fit_longer, place_longer}
use Rattle.plc_solve.proofs.split.descend.Goals as goal

pub conflict-requires-clause-classed : goal.conflict-requires-clause-classed
conflict-requires-clause-classed c =
    let merged = (c.in_ok-put.ensures.closure c.args.place.now.branch.items c.requires.place.closure).merged in
    record {
      well = c.requires.well;
      one_each = ap length c.classes.ensures ∙ merged.one_each;
      no_later = subst IsNoLater (sym c.classes.ensures) merged.no_later;
    }

pub returns-in-Some-clause-descends : goal.returns-in-Some-clause-descends
returns-in-Some-clause-descends c =
    let hit : IsConflict c.args.set.now c.put.new.equal.class c.in-Some.pair.a c.in-Some.pair.b = rw c.classes.ensures at c.in-Some.ensures.some in (
      subst (λ (xs : List Lit). Collide c.args.set.now xs c.in-Some.pair.a c.in-Some.pair.b) (sym c.in_ok-push.ensures.items)
          (conflict_collides c.args.set.now _ c.put.new.equal.class (c.in_ok-put.ensures.closure c.args.place.now.branch.items c.requires.place.closure)
          (fit_longer c.args.set.now c.args.place.now.branch.items c.args.l c.requires.place.fit c.requires.fit) c.in-Some.pair.a c.in-Some.pair.b hit),
      c.in_ok-push.ensures.items,
    )

pub returns-clause-descends : goal.returns-clause-descends
returns-clause-descends c = (
  subst (λ (xs : List Lit). IsPlace c.args.set.now xs c.put.new.equal.class) (sym c.in_ok-push.ensures.items)
      (place_longer c.args.set.now c.args.place.now.branch.items c.put.new.equal.class c.args.l c.requires.place.fit c.requires.fit
      (c.in_ok-put.ensures.closure c.args.place.now.branch.items c.requires.place.closure) (rw c.classes.ensures at c.in_default.ensures.none)),
  c.in_ok-push.ensures.items,
  c.in_ok-put.ensures.less c.requires.equal,
)

pub returns-in-Some-clause-goes_on : goal.returns-in-Some-clause-goes_on
returns-in-Some-clause-goes_on c = record { more = c.args.l ∷ []; branch = c.in_ok-push.ensures.items; equal = c.in_ok-put.ensures.extends }

pub returns-clause-goes_on : goal.returns-clause-goes_on
returns-clause-goes_on c = record { more = c.args.l ∷ []; branch = c.in_ok-push.ensures.items; equal = c.in_ok-put.ensures.extends }
