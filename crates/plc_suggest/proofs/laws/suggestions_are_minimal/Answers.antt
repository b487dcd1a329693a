use Rattle.plc_suggest.proofs.Minimal.{one_set, least_set, never_typable}
use Rattle.plc_suggest.proofs.laws.suggestions_are_minimal.Goals as goal

pub returns : goal.returns
returns c = record {
  one = one_set;
  least = λ o s spots h. least_set o s spots h.0 h.1;
  never = never_typable;
  insufficient = λ o s step prim fault stuck.
      never_typable o s (λ typed. stuck.fails typed.0 typed.1.pretyping (typed.1.holding step.0 _));
}
