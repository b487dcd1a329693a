-- What every unit keeps that was read, whatever its tokens.
use Rattle.std.specs.Prelude.{◌≡◌, true, false, List}
use Rattle.plc_lang.specs.declared.syntax.File.{File}
use Rattle.plc_lang.specs.Fit.{FileFits, NamesWhatIsThere}
use Rattle.plc_lang.specs.WellSorted.{FunctionIs, FileIsWellSorted}
use Rattle.plc_auto.specs.declared.observer.Observer.{Observer}
use Rattle.plc_auto.specs.declared.observer.Observer.TheVariants.{Plain, Hazard, Epoch}
use Rattle.plc_auto.specs.Table.{is_well_formed}
use Rattle.plc_lex.specs.declared.token.Token.{Token}
use Rattle.plc_logic.specs.Fit.{OutlineFits}
use Rattle.plc_parse.specs.declared.unit.Unit.{Unit as FileUnit}
use Rattle.plc_parse.specs.Units.{IsUnitOf}

-- the functions of an observer are declared: one with a pointer for `hazard`, two with none for `epoch`
abbrev pub WatchesDeclared : File → Observer → Type 0
WatchesDeclared file Plain = Unit {0}
WatchesDeclared file (Hazard f) = FunctionIs file true f
WatchesDeclared file (Epoch e l) = FunctionIs file false e × FunctionIs file false l

-- and none of them is `retire`
pub record ObserverFits (file : File) (o : Observer) : Type 0 where
  pub declared : WatchesDeclared file o
  pub well_formed : is_well_formed o ≡ true

-- a unit within the limits, each thing of which stands where its kind may stand
pub record UnitFits (u : FileUnit) : Type 0 where
  pub fits : FileFits u.file
  pub named : NamesWhatIsThere u.file
  pub sorted : FileIsWellSorted u.file
  pub observer : ObserverFits u.file u.observer
  pub outline : OutlineFits u.file u.outline

-- whatever unit tokens spell, it fits
abbrev pub UnitsFit : Type 0
UnitsFit = (ts : List Token) (u : FileUnit) → IsUnitOf ts u → UnitFits u
