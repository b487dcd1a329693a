-- Of a program that doesn't use marks no obligation executes a primitive that speaks of them.
use Rattle.std.proofs.Common.{◌≡◌, ℕ, zero, suc, false, ◌||◌, List, [], ◌∷◌, take, Option, Some, None, slice_get}
use Rattle.std.proofs.Common.{refl, ap, ◌∙◌}
use Rattle.std.specs.List.{list_any}
use Rattle.std.proofs.lemmas.Bool.{or_parts}
use Rattle.plc_lang.specs.declared.syntax.Primitive.{Primitive}
use Rattle.plc_lang.specs.Marks.{speaks_of_marks, speak_of_marks}
use Rattle.plc_flow.specs.declared.flow.Flow.{Flow}
use Rattle.plc_flow.specs.declared.flow.Step.{Step}
use Rattle.plc_flow.specs.Marks.{flow_uses_marks}
use Rattle.plc_logic.specs.declared.clause.Outline.{Outline}
use Rattle.plc_logic.specs.Marks.{outline_uses_marks}
use Rattle.plc_vocabulary.specs.declared.obligations.Obligation.{Obligation}
use Rattle.plc_vocabulary.specs.declared.obligations.Obligation.TheVariants.{Start, Enter, Own, Other, Claim}
use Rattle.plc_vocabulary.specs.Marks.{program_uses_marks}
use Rattle.plc_vocabulary.specs.Parts.{prims_of, executed}
use Rattle.plc_gc.proofs.Unmarked.{quiet_at}

in_front : (j : ℕ) (ks : List Primitive) → speak_of_marks ks ≡ false → speak_of_marks (take j ks) ≡ false
in_front zero ks silent = refl
in_front (suc j) [] silent = refl
in_front (suc j) (k ∷ ks) silent =
    let p = or_parts (speaks_of_marks k) (speak_of_marks ks) silent in
    ap (λ b. b || speak_of_marks (take j ks)) p.0 ∙ in_front j ks p.1

module _ (flow : Flow) (silent : flow_uses_marks flow ≡ false) where
  init_silent : speak_of_marks flow.file.init ≡ false
  init_silent = (or_parts (speak_of_marks flow.file.init) _ silent).0

  steps_silent : list_any (λ (s : Step). speak_of_marks s.prims) flow.steps ≡ false
  steps_silent = (or_parts (speak_of_marks flow.file.init) _ silent).1

  step_silent : (k : ℕ) (s : Option Step) → slice_get flow.steps k ≡ s → speak_of_marks (prims_of s) ≡ false
  step_silent k None at = refl
  step_silent k (Some s) at = quiet_at flow.steps steps_silent k s at

  executed_silent : (o : Obligation) → speak_of_marks (executed flow o) ≡ false
  executed_silent (Start i) = init_silent
  executed_silent (Enter op c) = refl
  executed_silent (Own k c) = step_silent k.0 _ refl
  executed_silent (Other k p c) = step_silent k.0 _ refl
  executed_silent (Claim k j) = in_front j (prims_of (slice_get flow.steps k.0)) (step_silent k.0 _ refl)

-- as ground sets ask it
pub flow_is_silent : (flow : Flow) (outline : Outline) → program_uses_marks flow outline ≡ false
    → flow_uses_marks flow ≡ false
unfolding program_uses_marks
flow_is_silent flow outline silent = (or_parts (flow_uses_marks flow) (outline_uses_marks outline) silent).0

pub obligation_is_silent : (flow : Flow) (outline : Outline) (o : Obligation) → program_uses_marks flow outline ≡ false
    → speak_of_marks (executed flow o) ≡ false
obligation_is_silent flow outline o silent = executed_silent flow (flow_is_silent flow outline silent) o
