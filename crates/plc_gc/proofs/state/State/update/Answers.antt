use Rattle.std.proofs.Common.{sym, ap, ◌∙◌, length, get_or, set, subst, arith}
use Rattle.std.proofs.lemmas.List.{get_or_default}
use Rattle.plc_gc.specs.State.{Row, update, count, no_row, row_with}
use Rattle.plc_gc.specs.Fit.{EntryIn, RowsFit}
use Rattle.plc_gc.specs.contracts.state.State.{the_view}
use Rattle.plc_base.proofs.Tables.{put_is_set}
use Rattle.plc_gc.proofs.Kept.{entry_in, has_entry, rows_fit_set}
use Rattle.plc_gc.proofs.state.State.update.Goals as goal

pub index_mut-requires : goal.index_mut-requires
unfolding count
index_mut-requires c = let h = rw (← c.self.view_is) at c.requires.made in omega (arith, h, c.self.inside.rows.ok.0)

pub set-requires : goal.set-requires
unfolding count
set-requires c =
    let h = rw (← c.self.view_is) at c.requires.made in
    let there = rw (← c.self.view_is) at c.requires.there in
    let fit = entry_in (length c.self.inside.fields.items) c.self.inside.ghosts c.self.inside.rows.items c.args.node c.index_mut.result.now c.self.invariant h in
    subst (λ (r : Row). EntryIn r c.args.map) (sym c.index_mut.ensures.value) (has_entry (the_view c.self.inside) (get_or c.self.inside.rows.items c.args.node c.index_mut.result.now) c.args.map fit.0 fit.1 fit.2 there)

pub invariant_of-self : goal.invariant_of-self
unfolding count
invariant_of-self c =
    let h = rw (← c.self.view_is) at c.requires.made in
    let there = rw (← c.self.view_is) at c.requires.there in
    let d = c.index_mut.result.now in
    let fit = entry_in (length c.self.inside.fields.items) c.self.inside.ghosts c.self.inside.rows.items c.args.node d c.self.invariant h in
    let has = has_entry (the_view c.self.inside) (get_or c.self.inside.rows.items c.args.node d) c.args.map fit.0 fit.1 fit.2 there in
    let e = c.set.ensures ∙ ap (λ (r : Row). row_with r c.args.map c.args.n) c.index_mut.ensures.value in
    subst (λ (r : Row). RowsFit (length c.self.inside.fields.items) c.self.inside.ghosts (set c.self.inside.rows.items c.args.node r)) (sym e) (rows_fit_set (length c.self.inside.fields.items) c.self.inside.ghosts c.self.inside.rows.items c.args.node d c.args.map c.args.n c.self.invariant h has)

pub returns : goal.returns
unfolding update count
returns c =
    let h = rw (← c.self.view_is) at c.requires.made in
    let e = c.set.ensures ∙ ap (λ (r : Row). row_with r c.args.map c.args.n) (c.index_mut.ensures.value ∙ get_or_default c.self.inside.rows.items c.args.node c.index_mut.result.now no_row h) in
    rw (← c.self.view_is) (ap (λ (r : Row). record (the_view c.self.inside) { rows = set c.self.inside.rows.items c.args.node r }) e ∙ ap (λ xs. record (the_view c.self.inside) { rows = xs }) (sym (put_is_set no_row c.self.inside.rows.items c.args.node _ h)))
