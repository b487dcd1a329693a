-- Which flows use marks.
use Rattle.std.specs.Prelude.{Bool, ◌||◌}
use Rattle.std.specs.List.{list_any}
use Rattle.plc_lang.specs.Marks.{speak_of_marks}
use Rattle.plc_flow.specs.declared.flow.Step.{Step}
use Rattle.plc_flow.specs.declared.flow.Flow.{Flow}

-- `init` or a step speaks of marks
abbrev pub flow_uses_marks : Flow → Bool
flow_uses_marks flow = speak_of_marks flow.file.init || list_any (λ (s : Step). speak_of_marks s.prims) flow.steps
