-- Words of private functions: a setting while its lists are made.
use Rattle.std.specs.Prelude.{[], ◌++◌}
use Rattle.plc_flow.specs.declared.flow.Flow.{Flow}
use Rattle.plc_logic.specs.declared.clause.Outline.{Outline}
use Rattle.plc_vocabulary.specs.declared.obligations.Obligation.{Obligation}
use Rattle.plc_vocabulary.specs.declared.setting.Setting.{Setting}
use Rattle.plc_vocabulary.specs.declared.setting.Variables.{Variables}
use Rattle.plc_vocabulary.specs.Setting.{without_nodes}

-- variables of which nothing is listed yet
abbrev pub no_variables : Variables
no_variables = record { pointers = []; values = [] }

-- variables with more of each kind
abbrev pub with_variables : Variables → Variables → Variables
with_variables v more = record { pointers = v.pointers ++ more.pointers; values = v.values ++ more.values }

-- a setting of which no nodes are listed, nor what they are found from
abbrev pub no_nodes : Setting → Setting
no_nodes s = record s { pointers = []; constants = []; nodes = []; instances = []; fields = []; marks = [] }

-- the setting of an obligation of which nothing is listed yet
abbrev pub unlisted : Flow → Outline → Obligation → Setting
unlisted flow outline o =
    record (without_nodes flow outline o) { mine = no_variables; theirs = no_variables; acts = [] }
