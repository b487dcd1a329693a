use Rattle.std.proofs.Common.{◌≡◌, ◌++◌, ◌∷◌, [], List, length, Some, refl, sym, ap, ◌∙◌, subst, arith}
use Rattle.plc_lang.specs.Shape.{Shape}
use Rattle.plc_mem.specs.declared.undo.Undo.{Undo}
use Rattle.plc_mem.specs.State.{with_locals}
use Rattle.plc_mem.specs.Fit.{shape}
use Rattle.plc_mem.specs.Undoing.{all_undone, UndosFit}
use Rattle.plc_mem.proofs.Joined.{kept-then}
use Rattle.plc_mem.proofs.Undone.{undone_last, fit_last, all_back}
use Rattle.plc_mem.proofs.memory.Memory.undo_all.Goals as goal

nothing_left : {A : Type 0} (xs : List A) → length xs ≡ 0 → xs ≡ []
nothing_left [] e = refl
nothing_left (x ∷ xs) e = absurd (omega arith)

-- the last of them was taken off
pub undo-requires : goal.undo-requires
undo-requires c =
    let l = c.loop-undo in
    let items : l.undos.items ≡ c.pop.new.self.items ++ c.in-Some.undo ∷ [] = rw c.in-Some.is at c.pop.ensures.items in
    (fit_last (shape l.self l.me) c.pop.new.self.items c.in-Some.undo (subst (UndosFit (shape l.self l.me)) items l.invariant.fit)).1

pub loop-undo-preserved : goal.loop-undo-preserved
loop-undo-preserved c =
    let l = c.loop-undo in
    let left = c.pop.new.self.items in
    let u = c.in-Some.undo in
    let items : l.undos.items ≡ left ++ u ∷ [] = rw c.in-Some.is at c.pop.ensures.items in
    record {
      back = λ t.
          ap (λ s. all_undone s t left) (c.undo.ensures.undone t) ∙ sym (undone_last (with_locals l.self t (Some l.me)) t left u)
          ∙ sym (ap (λ (us : List Undo). all_undone (with_locals l.self t (Some l.me)) t us) items) ∙ l.invariant.back t;
      fit = subst (λ (h : Shape). UndosFit h left) (sym c.undo.ensures.kept.shape) (fit_last (shape l.self l.me) left u (subst (UndosFit (shape l.self l.me)) items l.invariant.fit)).0;
      kept = kept-then l.invariant.kept c.undo.ensures.kept;
    }

pub returns-clause-back : goal.returns-clause-back
returns-clause-back c = λ t s l takes.
    let end = c.loop-undo in
    let none : end.undos.items ≡ [] = nothing_left end.undos.items (sym end.undos.ok.0 ∙ (rw c.in_default.is at c.pop.ensures.cases).0) in
    all_back t s c.args.self.now end.self l c.args.me.now end.me c.args.undos.now.items
    (sym (ap (λ (us : List Undo). all_undone (with_locals end.self t (Some end.me)) t us) none) ∙ end.invariant.back t) end.invariant.kept takes
