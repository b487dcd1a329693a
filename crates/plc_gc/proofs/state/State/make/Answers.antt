use Rattle.std.proofs.Common.{refl, length, ◌∙◌, ap}
use Rattle.plc_gc.specs.State.{made, count, GcState}
use Rattle.plc_gc.proofs.Kept.{rows_fit_push}
use Rattle.plc_gc.proofs.state.State.make.Goals as goal

pub invariant_of-self-2 : goal.invariant_of-self-2
invariant_of-self-2 c = let e = c.len.ensures ∙ c.self.inside.fields.ok.0 in rw (c.in_ok-push.ensures.items, c.in_ok-row.ensures, e) (rows_fit_push (length c.self.inside.fields.items) c.self.inside.ghosts c.self.inside.rows.items c.self.invariant)

pub returns-clause-node : goal.returns-clause-node
unfolding count
returns-clause-node c = c.len-made.ensures ∙ c.self.inside.rows.ok.0 ∙ ap (λ (g : GcState). length g.rows) c.self.view_is

pub returns-clause-made : goal.returns-clause-made
unfolding made
returns-clause-made c = let e = c.len.ensures ∙ c.self.inside.fields.ok.0 in rw (c.in_ok-push.ensures.items, c.in_ok-row.ensures, e, ← c.self.view_is) refl
