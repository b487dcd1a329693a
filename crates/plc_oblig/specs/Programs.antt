-- What contracts say of a program, by the flow and the outline in it.
use Rattle.std.specs.Prelude.{List}
use Rattle.plc_ground.specs.declared.terms.GroundSet.{GroundSet}
use Rattle.plc_vocabulary.specs.declared.obligations.Obligation.{Obligation}
use Rattle.plc_vocabulary.specs.Fit.{Fits}
use Rattle.plc_oblig.specs.declared.annotated.Annotated.{Annotated}
use Rattle.plc_oblig.specs.declared.grounding.Grounding.{Grounding}
use Rattle.plc_oblig.specs.Obligations.{obligations}
use Rattle.plc_oblig.specs.GroundSets.{ground_set}
use Rattle.plc_oblig.specs.Prefixes.{ArePrefixes}

-- its outline fits its flow
abbrev pub ProgramFits : Annotated → Type 0
ProgramFits p = Fits p.flow.now p.outline.now

-- its obligations, in order
abbrev pub obligations_of : Annotated → List Obligation
obligations_of p = obligations p.flow.now p.outline.now

-- the ground set of an obligation of it
abbrev pub set_of : Annotated → Obligation → GroundSet
set_of p o = ground_set p.flow.now p.outline.now o

-- what a working memory keeps is of sets of the program
abbrev pub Serves : Grounding → Annotated → Type 0
Serves g p = ArePrefixes p g.prefixes
