-- From what a tree means to what the tokens spell.
use Rattle.std.proofs.Common.{◌≡◌, ◌∙◌, List, Result, Ok, Err, IfOk, IfErr, refl, ap, sym}
use Rattle.plc_lex.specs.declared.token.Token.{Token}
use Rattle.plc_lang.specs.Fit.{FileFits, NamesWhatIsThere}
use Rattle.plc_lang.specs.WellSorted.{FileIsWellSorted}
use Rattle.plc_logic.specs.Fit.{OutlineFits}
use Rattle.plc_scope.specs.declared.fault.ParseFault.{ParseFault}
use Rattle.plc_scope.specs.declared.fault.ParseFault.TheVariants as faults
use Rattle.plc_scope.specs.Answers.{Gives}
use Rattle.plc_syntax.specs.Nesting.{NoneTooDeep}
use Rattle.plc_syntax.specs.Syntax.{kinds, AreOfFile}
use Rattle.plc_syntax.specs.Trees.{FileTree}
use Rattle.plc_tree.proofs.Places.{file_is_one}
use Rattle.plc_parse.specs.declared.unit.Unit.{Unit as FileUnit}
use Rattle.plc_parse.specs.Fit.{ObserverFits, UnitFits, UnitsFit}
use Rattle.plc_parse.specs.Meaning.{file_means}
use Rattle.plc_parse.specs.Units.{lines_of, IsUnitOf}
use Rattle.plc_parse.specs.Faults.{IsFaultOf, no_unit, no_memory, UnitsAreUnique}
use Rattle.plc_parse.proofs.Naming.{file_named}
use Rattle.plc_parse.proofs.Fits.{file_fits}
use Rattle.plc_parse.proofs.Whole.{file_whole}

-- the tokens are a tree's, and no block stands too deep
module _ (ts : List Token) (tree : FileTree) (spelled : AreOfFile tree (kinds ts)) (shallow : NoneTooDeep (kinds ts)) where
  pub unit_is : (r : Result FileUnit ParseFault) → Gives (λ u. u) r (file_means (lines_of ts) tree)
      → IfOk r (λ u. IsUnitOf ts u)
  unit_is (Ok u) g = record { shallow = shallow; means = record { tree = tree; tokens = spelled; is = g } }
  unit_is (Err e) g = tt

  pub fault_is : (r : Result FileUnit ParseFault) → Gives (λ u. u) r (file_means (lines_of ts) tree)
      → IfErr r (λ e. IsFaultOf ts e)
  fault_is (Ok u) g = tt
  fault_is (Err faults.Memory) g = no_memory refl
  fault_is (Err e) g = no_unit (record { shallow = shallow; means = record { tree = tree; tokens = spelled; is = g } })

  -- what is spelled is what the tree means
  said : (u : FileUnit) → IsUnitOf ts u → file_means (lines_of ts) tree ≡ Ok u
  said u h = ap (file_means (lines_of ts)) (file_is_one tree h.means.tree (kinds ts) spelled h.means.tokens) ∙ h.means.is

  pub no_other_fault : (r : Result FileUnit ParseFault) (u : FileUnit) → Gives (λ x. x) r (file_means (lines_of ts) tree)
      → IsUnitOf ts u → IfErr r (λ e. e ≡ faults.Memory)
  no_other_fault (Ok x) u g h = tt
  no_other_fault (Err faults.Memory) u g h = refl
  no_other_fault (Err e) u g h = let is = said u h in absurd cc

-- what a unit keeps, whatever its tokens
pub spelled_fits : UnitsFit
spelled_fits ts u h =
    let m = h.means in
    let whole = file_whole (lines_of ts) m.tree u m.is in
    let named = file_named (lines_of ts) m.tree u m.is in
    record {
      fits = file_fits (lines_of ts) m.tree u m.is;
      named = named.names;
      sorted = whole.sorted;
      observer = record { declared = whole.watched; well_formed = named.observer };
      outline = whole.outline;
    }

-- and so does the unit that was read, part by part
module _ (ts : List Token) where
  of_unit : (P : FileUnit → Type 0) → ((u : FileUnit) → UnitFits u → P u) → (r : Result FileUnit ParseFault)
      → IfOk r (λ u. IsUnitOf ts u) → IfOk r P
  of_unit P part (Ok u) h = part u (spelled_fits ts u h)
  of_unit P part (Err e) h = tt

  pub fits_of : (r : Result FileUnit ParseFault) → IfOk r (λ u. IsUnitOf ts u) → IfOk r (λ u. FileFits u.file)
  fits_of = of_unit (λ u. FileFits u.file) (λ u h. h.fits)

  pub named_of : (r : Result FileUnit ParseFault) → IfOk r (λ u. IsUnitOf ts u)
      → IfOk r (λ u. NamesWhatIsThere u.file)
  named_of = of_unit (λ u. NamesWhatIsThere u.file) (λ u h. h.named)

  pub sorted_of : (r : Result FileUnit ParseFault) → IfOk r (λ u. IsUnitOf ts u)
      → IfOk r (λ u. FileIsWellSorted u.file)
  sorted_of = of_unit (λ u. FileIsWellSorted u.file) (λ u h. h.sorted)

  pub observer_of : (r : Result FileUnit ParseFault) → IfOk r (λ u. IsUnitOf ts u)
      → IfOk r (λ u. ObserverFits u.file u.observer)
  observer_of = of_unit (λ u. ObserverFits u.file u.observer) (λ u h. h.observer)

  pub outline_of : (r : Result FileUnit ParseFault) → IfOk r (λ u. IsUnitOf ts u)
      → IfOk r (λ u. OutlineFits u.file u.outline)
  outline_of = of_unit (λ u. OutlineFits u.file u.outline) (λ u h. h.outline)

-- tokens mean one thing
pub one_meaning : UnitsAreUnique
one_meaning ts a b m n =
    sym m.is ∙ ap (file_means (lines_of ts)) (file_is_one m.tree n.tree (kinds ts) m.tokens n.tokens) ∙ n.is
