-- What is known of a program that is explored, and where a run of it stands.
use Rattle.std.specs.Prelude.{◌<◌}
use Rattle.plc_flow.specs.WellFormed.{FlowFits}
use Rattle.plc_flow.specs.StepsByPoint.{IsIndexOf, first_points}
use Rattle.plc_run.specs.Position.{Position, IsOfRun, threads_of}
use Rattle.plc_explore.specs.declared.program.Program.{Program}

-- it may be run: its flow fits
abbrev pub MayRun : Program → Type 0
MayRun program = FlowFits program.flow.now

-- it may be run, and its index is that of its steps
abbrev pub IsIndexed : Program → Type 0
IsIndexed program = MayRun program × IsIndexOf (first_points program.flow.now) program.steps.now

-- the configuration is one of a run of the program, which may be run, among one thread or more
abbrev pub IsRunOf : Program → Position → Type 0
IsRunOf program config =
    MayRun program × IsOfRun program.flow.now program.observer.now config × (0 < threads_of config)
