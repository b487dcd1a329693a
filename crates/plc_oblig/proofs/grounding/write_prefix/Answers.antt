use Rattle.std.proofs.Common.{map, ap, ◌∙◌}
use Rattle.plc_symbolic.specs.declared.symbolic.SymbolicTerm.TheVariants.{Constant}
use Rattle.plc_symbolic.specs.Numbering.{listed_all}
use Rattle.plc_symbolic.specs.Terms.{term_of}
use Rattle.plc_oblig.proofs.Assembled.{prefix_is}
use Rattle.plc_oblig.proofs.grounding.write_prefix.Goals as goal

pub returns-clause-draft : goal.returns-clause-draft
returns-clause-draft c = let w = c.args.w.now in
    prefix_is w.flow.now w.outline.now w.obligation.now w.setting.now c.as_slice.result.now _ _ _
    (c.as_slice.ensures ∙ c.in_ok-constants.ensures)
    (c.in_ok-list_constants.ensures ∙ ap (λ d. listed_all d (map Constant c.as_slice.result.now)) c.requires.blank)
    (c.in_ok-list_nodes.ensures ∙ ap (λ ns. listed_all c.list_constants.new.out (map term_of ns)) c.as_slice-2.ensures)
    c.in_ok-executed.ensures.clauses
