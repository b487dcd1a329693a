-- Which ends of a schedule are races.
use Rattle.std.specs.Prelude.{Bool, true, false}
use Rattle.plc_replay.specs.declared.end.End.{End}
use Rattle.plc_replay.specs.declared.end.End.TheVariants.{Ended, Race, Impossible, ForbiddenFree}

-- a race alone
abbrev pub is_race : End → Bool
is_race (Ended lines events freed) = false
is_race (Race kind line prim) = true
is_race (Impossible line) = false
is_race (ForbiddenFree a line) = false
