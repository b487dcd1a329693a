-- The clauses of a ground set are those before the negated conclusion, and then its own.
use Rattle.std.proofs.Common.{◌≡◌, ◌++◌, sym, ap, ◌∙◌}
use Rattle.std.proofs.lemmas.List.{append_assoc}
use Rattle.plc_flow.specs.declared.flow.Flow.{Flow}
use Rattle.plc_logic.specs.declared.clause.Outline.{Outline}
use Rattle.plc_symbolic.specs.Terms.{Clauses}
use Rattle.plc_vocabulary.specs.declared.obligations.Obligation.{Obligation}
use Rattle.plc_vocabulary.specs.declared.setting.Setting.{Setting}
use Rattle.plc_encoding.specs.Execution.{start, after_all, executed_clauses}
use Rattle.plc_encoding.specs.Items.{values_from, mark_values, beginning, freshness, premises, denied, prefix_of, clauses_of}

-- six lists and a last one
six : (a b c d e f last : Clauses) → (a ++ (b ++ (c ++ (d ++ (e ++ f))))) ++ last ≡ a ++ (b ++ (c ++ (d ++ (e ++ (f ++ last)))))
six a b c d e f last =
    append_assoc a (b ++ (c ++ (d ++ (e ++ f)))) last
    ∙ ap (λ r. a ++ r) (append_assoc b (c ++ (d ++ (e ++ f))) last
    ∙ ap (λ r. b ++ r) (append_assoc c (d ++ (e ++ f)) last
    ∙ ap (λ r. c ++ r) (append_assoc d (e ++ f) last
    ∙ ap (λ r. d ++ r) (append_assoc e f last))))

pub prefix_first : (flow : Flow) (outline : Outline) (s : Setting) (o : Obligation)
    → prefix_of flow outline s o ++ denied flow outline s (after_all start s.acts) o ≡ clauses_of flow outline s o
unfolding prefix_of clauses_of
prefix_first flow outline s o =
    six (values_from 0 0 flow.file.ghosts s.nodes) (mark_values s) (beginning flow s o) (freshness flow.file s)
    (premises flow outline s o) (executed_clauses s.nodes start s.acts) (denied flow outline s (after_all start s.acts) o)
