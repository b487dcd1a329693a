use Rattle.std.proofs.Common.{[], ◌∷◌, subst, sym, ap, ◌∙◌}
use Rattle.plc_ground.specs.Fit.{IsWellFormed}
use Rattle.plc_ground.specs.Trees.{Closes, SplitsOnce}
use Rattle.plc_vocabulary.specs.Setting.{setting_of}
use Rattle.plc_encoding.specs.Execution.{start, after_all}
use Rattle.plc_oblig.specs.Direct.{IsRefutedByLast, IsPremise, denied_count, direct_nodes}
use Rattle.plc_oblig.specs.GroundSets.{ground_set}
use Rattle.plc_oblig.proofs.Ending.{one_clause}
use Rattle.plc_oblig.proofs.Opposites.{still_is_refuted}
use Rattle.plc_oblig.proofs.UnitTrees.{closes, splits_once}
use Rattle.plc_oblig.proofs.grounding.Grounding.tree_of_still.Goals as goal

pub unreachable-requires : goal.unreachable-requires
unreachable-requires c =
    let flow = c.args.program.now.flow.now in
    let outline = c.args.program.now.outline.now in
    let o = c.args.o.now in
    let s = setting_of flow outline o in
    let counted = c.denied_size-count.ensures.size s (after_all start s.acts) in
    let found = still_is_refuted flow outline o c.requires.fits c.requires.there c.requires.still in
    c.in-None.ensures.none found.0
    (subst (λ g. IsRefutedByLast g c.denied_size-count.result found.0) (sym c.in_ok-set.ensures.set)
    (subst (λ n. IsRefutedByLast (ground_set flow outline o) n found.0) (sym counted) found.1.0))

pub returns-clause-tree : goal.returns-clause-tree
returns-clause-tree c =
    let flow = c.args.program.now.flow.now in
    let outline = c.args.program.now.outline.now in
    let o = c.args.o.now in
    let s = setting_of flow outline o in
    let place = c.in-Some.c in
    let set = c.in_ok-set.set in
    let is = c.in_ok-set.ensures.set in
    let well = c.in_ok-set.ensures.well in
    let last = c.in-Some.ensures.some in
    let nodes = c.in_ok-tree-in-Some.tree.nodes in
    let written = sym c.in_ok-tree-in-Some.ensures in
    let counted = c.denied_size-count.ensures.size s (after_all start s.acts) in
    let found = still_is_refuted flow outline o c.requires.fits c.requires.there c.requires.still in
    let refuted = subst (λ n. IsRefutedByLast (ground_set flow outline o) n place) counted
    (subst (λ g. IsRefutedByLast g c.denied_size-count.result place) is last) in
    let same = one_clause (ground_set flow outline o) (denied_count flow outline o) place found.0 refuted found.1.0 in
    record {
      shape = record {
        place = place;
        refuted = refuted;
        premise = subst (IsPremise flow outline o) (sym same) found.1.1;
        whole = c.in_ok-tree-in-Some.ensures ∙ ap (λ g. direct_nodes g place) is;
      };
      well = subst IsWellFormed is well;
      closes = subst (λ g. Closes g nodes) is (subst (Closes set) written (closes set place well last.refuted));
      once = subst (λ g. SplitsOnce g ([] ∷ []) nodes) is (subst (SplitsOnce set ([] ∷ [])) written (splits_once set place last.refuted));
    }
