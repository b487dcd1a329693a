use Rattle.std.proofs.Common.{◌∙◌, length, ap, sym, subst}
use Rattle.plc_ground.specs.Classes.{IsNoLater}
use Rattle.plc_solve.proofs.Searching.{model_here}
use Rattle.plc_solve.proofs.split.enter.Goals as goal

pub pick-requires-clause-classed : goal.pick-requires-clause-classed
pick-requires-clause-classed c =
    let merged = c.requires.place.closure.merged in
    record {
      well = c.requires.well;
      one_each = ap length c.classes.ensures ∙ merged.one_each;
      no_later = subst IsNoLater (sym c.classes.ensures) merged.no_later;
    }

pub returns-in-None : goal.returns-in-None
returns-in-None c = model_here c.args.subject.now.set.now c.requires.well c.args.place.now.branch.items c.args.place.now.equal.class c.requires.place (rw c.classes.ensures at c.in-None.ensures.none)
