-- What a schedule leads to, as texts. Each line ends with a line feed.
use Rattle.std.specs.Prelude.{ℕ, List, [], ◌++◌, codes, decimal}
use Rattle.plc_base.specs.declared.limits.What1.TheVariants as limits
use Rattle.plc_mem.specs.declared.cell.RaceKind.{RaceKind}
use Rattle.plc_mem.specs.declared.cell.RaceKind.TheVariants.{Deref, Compare, Pass, Double}
use Rattle.plc_sched.specs.declared.fault.SchedFault.{SchedFault}
use Rattle.plc_sched.specs.declared.fault.SchedFault.TheVariants.{Line, Limit, Memory}
use Rattle.plc_replay.specs.declared.end.End.{End}
use Rattle.plc_replay.specs.declared.end.End.TheVariants.{Ended, Race, Impossible, ForbiddenFree}
use Rattle.plc_answers.specs.Refusals.{limit_text}

-- the word of a race
abbrev pub race_name : RaceKind → List ℕ
race_name Deref = codes "deref"
race_name Compare = codes "compare"
race_name Pass = codes "pass"
race_name Double = codes "double"

-- end lines N events E freed F; race KIND line N prim K; impossible line N; forbidden free A line N
abbrev pub end_text : End → List ℕ
end_text (Ended lines events freed) =
    codes "end lines " ++ decimal lines ++ codes " events " ++ decimal events ++ codes " freed " ++ decimal freed
    ++ codes "\n"
end_text (Race kind line prim) =
    codes "race " ++ race_name kind ++ codes " line " ++ decimal line ++ codes " prim " ++ decimal prim ++ codes "\n"
end_text (Impossible line) = codes "impossible line " ++ decimal line ++ codes "\n"
end_text (ForbiddenFree a line) = codes "forbidden free " ++ decimal a ++ codes " line " ++ decimal line ++ codes "\n"

-- refused schedule line N; refused limit lines N; running out of memory has no text
abbrev pub schedule_fault_text : SchedFault → List ℕ
schedule_fault_text (Line n) = codes "refused schedule line " ++ decimal n ++ codes "\n"
schedule_fault_text (Limit count) = limit_text limits.Lines count
schedule_fault_text Memory = []
