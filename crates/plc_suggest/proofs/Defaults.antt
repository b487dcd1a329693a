-- The step and the spot that a place past the end of a list stands for.
use Rattle.std.proofs.Common.{[]}
use Rattle.plc_lang.specs.declared.syntax.Var.TheVariants.{Shared}
use Rattle.plc_flow.specs.declared.flow.Step.{Step}
use Rattle.plc_suggest.specs.declared.spot.Spot.{Spot}

abbrev pub no_step : Step
no_step = record { op = record { 0 = 0 }; from = record { 0 = 0 }; to = record { 0 = 0 }; prims = []; line = 0 }

abbrev pub some_spot : Spot
some_spot = record { step = record { 0 = 0 }; var = Shared 0 }
