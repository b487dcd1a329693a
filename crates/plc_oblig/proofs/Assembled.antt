-- The set that is made is that of the definition.
use Rattle.std.proofs.Common.{◌≡◌, ℕ, ◌+◌, ◌++◌, List, [], ◌∷◌, map, take, slice_get, Some, sym, ap, ◌∙◌}
use Rattle.std.proofs.lemmas.List.{take_more}
use Rattle.std.proofs.lemmas.Option.{get_or_from_slice_get, slice_get_within}
use Rattle.plc_flow.specs.declared.flow.Flow.{Flow}
use Rattle.plc_logic.specs.declared.clause.Outline.{Outline}
use Rattle.plc_logic.specs.declared.clause.Sort.{Sort}
use Rattle.plc_ground.specs.declared.terms.Symbol.{Symbol}
use Rattle.plc_ground.specs.declared.terms.GroundSet.{GroundSet}
use Rattle.plc_symbolic.specs.declared.symbolic.SymbolicTerm.TheVariants.{Constant}
use Rattle.plc_symbolic.specs.Numbering.{Drafted, blank, listed_all, written_all, numbered}
use Rattle.plc_symbolic.specs.Terms.{term_of}
use Rattle.plc_symbolic.proofs.Drafts.{listed_all-append}
use Rattle.plc_vocabulary.specs.declared.obligations.Obligation.{Obligation}
use Rattle.plc_vocabulary.specs.declared.setting.Setting.{Setting}
use Rattle.plc_vocabulary.specs.Setting.{setting_of, constants_of}
use Rattle.plc_vocabulary.specs.Sorts.{sort_of}
use Rattle.plc_encoding.specs.Items.{prefix_of}
use Rattle.plc_oblig.specs.GroundSets.{drafted, ground_set}
use Rattle.plc_oblig.specs.Prefixes.{prefix_draft}

pub prefix_is : (flow : Flow) (outline : Outline) (o : Obligation) (s : Setting) (cs : List Symbol) (a b c : Drafted)
    → cs ≡ constants_of flow outline s → a ≡ listed_all blank (map Constant cs) → b ≡ listed_all a (map term_of s.nodes)
    → c ≡ written_all b (prefix_of flow outline s o) → c ≡ prefix_draft flow outline s o
unfolding prefix_draft
prefix_is flow outline o s cs a b c constants first second written =
    written ∙ ap (λ d. written_all d (prefix_of flow outline s o))
    (second ∙ ap (λ d. listed_all d (map term_of s.nodes)) (first ∙ ap (λ ks. listed_all blank (map Constant ks)) constants)
    ∙ sym (listed_all-append (map Constant (constants_of flow outline s)) (map term_of s.nodes) blank))

pub assembled : (flow : Flow) (outline : Outline) (o : Obligation) (s : Setting) (sorts : List Sort) (d : Drafted) (set : GroundSet)
    → s ≡ setting_of flow outline o → d ≡ drafted flow outline s o → sorts ≡ map (sort_of flow o s.acts) d.terms → set ≡ numbered sorts d
    → set ≡ ground_set flow outline o
unfolding ground_set
assembled flow outline o s sorts d set setting draft sorted whole =
    whole ∙ ap (λ ss. numbered ss d) sorted
    ∙ ap (λ e. numbered (map (sort_of flow o s.acts) e.terms) e) draft
    ∙ ap (λ r. numbered (map (sort_of flow o r.acts) (drafted flow outline r o).terms) (drafted flow outline r o)) setting

pub one_more_taken : {A : Type 0} (xs : List A) (k : ℕ) (x : A) → slice_get xs k ≡ Some x → take k xs ++ x ∷ [] ≡ take (k + 1) xs
one_more_taken xs k x is = ap (λ y. take k xs ++ y ∷ []) (sym (get_or_from_slice_get xs k x x is)) ∙ sym (take_more xs k x (slice_get_within xs k x is))
