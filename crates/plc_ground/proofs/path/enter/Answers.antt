use Rattle.std.proofs.Common.{◌++◌, ◌∷◌, [], List, reverse, sym, subst}
use Rattle.std.specs.Prelude.{All}
use Rattle.std.proofs.lemmas.List.Elements.{All-push}
use Rattle.plc_ground.specs.declared.path.Turn.{Turn}
use Rattle.plc_ground.specs.declared.terms.Lit.{Lit}
use Rattle.plc_ground.specs.Classes.{IsClosure}
use Rattle.plc_ground.specs.Paths.{IsTurn, Notes}
use Rattle.plc_ground.proofs.Along.{closure_along, along_entered}
use Rattle.plc_ground.proofs.Noting.{noted_entered}
use Rattle.plc_ground.proofs.path.enter.Goals as goal

pub put-requires-clause-one_each : goal.put-requires-clause-one_each
put-requires-clause-one_each c =
    (closure_along c.args.set.now (reverse c.args.path.now.turns.items) c.args.equal.now.trail c.args.equal.now.class
    c.requires.path.along).merged.one_each

pub put-requires-clause-congruent : goal.put-requires-clause-congruent
put-requires-clause-congruent c =
    (closure_along c.args.set.now (reverse c.args.path.now.turns.items) c.args.equal.now.trail c.args.equal.now.class
    c.requires.path.along).congruent

pub returns-clause-path : goal.returns-clause-path
returns-clause-path c = record {
  turns = subst (λ (ts : List Turn). All (IsTurn c.args.set.now) ts) (sym c.in_ok-push.ensures.items)
      (All-push (IsTurn c.args.set.now) c.args.path.now.turns.items _ c.requires.path.turns
      (record { known = c.requires.known; child = c.requires.child }));
  noted = noted_entered c.args.set.now c.args.path.now.turns.items c.push.new.self.items _ c.args.path.now.unequal.keys
      c.note.new.unequal.keys c.len.ensures.len
      (subst (Notes c.args.path.now.unequal.keys c.note.new.unequal.keys) c.literal-l.ensures c.in_ok-note.ensures)
      c.in_ok-push.ensures.items c.requires.path.noted;
  along = along_entered c.args.set.now c.args.path.now.turns.items c.push.new.self.items _ c.args.equal.now
      c.put.new.equal c.mark.ensures c.in_ok-put.ensures.extends c.in_ok-push.ensures.items
      (λ branch k. subst (λ (l : Lit). IsClosure c.args.set.now.terms (branch ++ l ∷ []) c.put.new.equal.class)
      c.literal-l.ensures (c.in_ok-put.ensures.closure branch k)) c.requires.path.along;
}
