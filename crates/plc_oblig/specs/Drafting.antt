-- What the writing of a ground set stands on.
use Rattle.std.specs.Prelude.{◌≡◌, ◌≤◌, length}
use Rattle.plc_flow.specs.declared.flow.Flow.{Flow}
use Rattle.plc_logic.specs.declared.clause.Outline.{Outline}
use Rattle.plc_vocabulary.specs.Acts.{most_acts}
use Rattle.plc_vocabulary.specs.Fit.{Fits}
use Rattle.plc_vocabulary.specs.Setting.{setting_of}
use Rattle.plc_vocabulary.specs.declared.obligations.Obligation.{Obligation}
use Rattle.plc_vocabulary.specs.declared.setting.Setting.{Setting}

-- the setting is that of the obligation, whose outline fits the flow
pub record CanDraft (flow : Flow) (outline : Outline) (s : Setting) (o : Obligation) : Type 0 where
  pub fits : Fits flow outline
  pub setting : s ≡ setting_of flow outline o
  pub few : length s.acts ≤ most_acts
