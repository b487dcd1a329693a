-- Whether a program uses marks. What primitives do in ground sets, the constants, and what is known before depend on
-- it, so it is named once, here.
use Rattle.std.specs.Prelude.{Bool, ◌||◌}
use Rattle.plc_flow.specs.declared.flow.Flow.{Flow}
use Rattle.plc_flow.specs.Marks.{flow_uses_marks}
use Rattle.plc_logic.specs.declared.clause.Outline.{Outline}
use Rattle.plc_logic.specs.Marks.{outline_uses_marks}

-- a program uses marks where its flow or its outline does
unfoldable pub program_uses_marks : Flow → Outline → Bool
program_uses_marks flow outline = flow_uses_marks flow || outline_uses_marks outline
