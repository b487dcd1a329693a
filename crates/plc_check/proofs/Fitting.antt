-- What bytes spell fits, since it is the unit of tokens, whose flow and outline are within their limits.
use Rattle.std.proofs.Common.{◌≤◌, List, ℕ, Result, Ok, Err, sym, subst}
use Rattle.std.specs.Prelude.{IfOk}
use Rattle.plc_parse.specs.declared.unit.Unit.{Unit as FileUnit}
use Rattle.plc_parse.specs.Fit.{UnitFits}
use Rattle.plc_parse.proofs.Answering.{spelled_fits}
use Rattle.plc_flow.specs.Lowering.{made_of, flow_of, most_points}
use Rattle.plc_flow.proofs.Fitting.{all_flows_fit}
use Rattle.plc_vocabulary.specs.Fit.{Fits}
use Rattle.plc_check.specs.declared.judged.Judged.{Judged}
use Rattle.plc_check.specs.declared.judged.LoadFault.{LoadFault}
use Rattle.plc_check.specs.Fit.{FilesFit, JudgedFits}
use Rattle.plc_check.specs.Answered.{IsLoaded}

-- the flow and the outline of a unit with few enough points
pub unit_fits : (u : FileUnit) → UnitFits u → (made_of u.file).points ≤ most_points → Fits (flow_of u.file) u.outline
unit_fits u unit few =
    let flow = all_flows_fit u.file unit.fits unit.named unit.sorted few in
    record { flow_fits = flow.fits; file = unit.fits; sorted = flow.sorted; outline_fits = unit.outline }

pub all_files_fit : FilesFit
all_files_fit bytes u f =
    let unit = spelled_fits f.tokens u f.spells.unit in
    record { fits = unit_fits u unit f.spells.few; observer = unit.observer; few = f.few; small = f.small }

-- what is loaded is judged of a file
pub loaded_fits : (bytes : List ℕ) (r : Result Judged LoadFault) → IsLoaded bytes r → IfOk r JudgedFits
loaded_fits bytes (Ok j) h = subst JudgedFits (sym h.2) (all_files_fit bytes h.0 h.1)
loaded_fits bytes (Err e) h = tt
