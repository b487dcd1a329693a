use Rattle.std.proofs.Common.{subst, sym, refl, ap, ◌∙◌, map, length}
use Rattle.plc_mem.specs.State.{freed, cut, cut_locals}
use Rattle.plc_base.proofs.Lists.{items_mapped}
use Rattle.plc_mem.proofs.Places.{nodes_fit_cut, nodes_fit_filter}
use Rattle.plc_mem.specs.Coherence.{IsCoherent}
use Rattle.plc_mem.proofs.Coherence.{coherence}
use Rattle.plc_mem.proofs.memory.Memory.free.Goals as goal

pub invariant_of-self : goal.invariant_of-self
invariant_of-self c =
    rw c.free.ensures (nodes_fit_cut (length c.self.inside.fields.items) c.args.a _ (nodes_fit_filter (length c.self.inside.fields.items) _ c.self.inside.nodes c.self.invariant))

pub returns-clause-freed : goal.returns-clause-freed
unfolding freed
returns-clause-freed c =
    rw (
      c.free.ensures,
      items_mapped c.self.inside.shared c.cut_cells.new.cells (cut c.args.a) (c.cut_cells.ensures ∙ ap (map (cut c.args.a)) c.deref_mut.ensures.value),
      items_mapped c.self.inside.locals c.cut_threads.new.locals (cut_locals c.args.a) (c.cut_threads.ensures ∙ ap (map (cut_locals c.args.a)) c.deref_mut-2.ensures.value),
      c.drop_address.ensures,
      ← c.self.view_is,
    ) refl

pub returns-clause-coherent : goal.returns-clause-coherent
returns-clause-coherent c = λ k. subst IsCoherent (sym (returns-clause-freed c)) (coherence.by_free c.args.self.now c.args.a c.requires k)
