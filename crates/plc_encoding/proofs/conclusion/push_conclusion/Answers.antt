use Rattle.std.proofs.Common.{◌<◌, List, Option, sym, subst}
use Rattle.std.specs.List.{sum_by}
use Rattle.std.specs.Option.{option_copied}
use Rattle.plc_lang.specs.declared.syntax.Ghost.{Ghost}
use Rattle.plc_lang.specs.Numbering.{values_in}
use Rattle.plc_logic.specs.declared.clause.Clause.{Clause}
use Rattle.plc_encoding.specs.Bounds.{ConclusionIn}
use Rattle.plc_vocabulary.proofs.Fitting.{values_few}
use Rattle.plc_encoding.proofs.Fitting.{conclusion_in}
use Rattle.plc_encoding.proofs.conclusion.push_conclusion.Goals as goal

pub push_denied_clause-requires : goal.push_denied_clause-requires
push_denied_clause-requires c =
    let w = c.args.w.now in
    let flow = w.flow.now in
    let P : List Ghost → Type 0 = λ gs. sum_by values_in gs < 65536 in
    let Q : List Ghost → Type 0 = λ gs. ConclusionIn gs (option_copied c.conclusion-clause.result) in
    let R : Option Clause → Type 0 = λ o. ConclusionIn flow.file.ghosts o in
    record {
      versions = c.requires.versions;
      few = subst P (sym c.as_slice-ghosts.ensures) (values_few flow.file c.requires.fits.file);
      clause = subst Q (sym c.as_slice-ghosts.ensures)
          (subst R (sym c.conclusion-clause.ensures) (conclusion_in flow w.outline.now w.obligation.now c.requires.fits));
    }
