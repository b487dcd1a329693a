-- Tokens have one fault: those of syntax and nesting are one by themselves, with either the tokens are no file without blocks too deep, and a
-- file means one thing.
use Rattle.std.proofs.Common.{◌≡◌, ◌≢◌, List, Result, Ok, Err, ap, sym, ◌∙◌}
use Rattle.plc_lex.specs.declared.token.Token.{Token}
use Rattle.plc_syntax.specs.Syntax.{kinds}
use Rattle.plc_tree.proofs.Places.{faults_one}
use Rattle.plc_scope.specs.declared.fault.ParseFault.{ParseFault}
use Rattle.plc_scope.specs.declared.fault.ParseFault.TheVariants as faults
use Rattle.plc_parse.specs.declared.unit.Unit.{Unit as FileUnit}
use Rattle.plc_parse.specs.Units.{AreRead}
use Rattle.plc_parse.specs.Faults.{IsFaultOf, no_file, too_deep, no_unit, no_memory, FaultsAreOne}
use Rattle.plc_parse.proofs.Answering.{one_meaning}

module _ (ts : List Token) where
  not_read : (e : ParseFault) → e ≢ faults.Memory → IsFaultOf ts e → (m : Result FileUnit ParseFault) → AreRead ts m → m ≡ Err e
  not_read e none (no_file at is fault) m read = absurd (faults_one.syntax_no_file (kinds ts) at fault (read.means.tree, sym read.means.tokens.tokens))
  not_read e none (too_deep at is fault) m read = absurd (faults_one.nesting_not_shallow (kinds ts) at fault read.shallow)
  not_read e none (no_unit other) m read = one_meaning ts m (Err e) read.means other.means
  not_read e none (no_memory is) m read = absurd (none is)

  one_fault : (e f : ParseFault) → e ≢ faults.Memory → f ≢ faults.Memory → IsFaultOf ts e → IsFaultOf ts f → e ≡ f
  one_fault e f a b h (no_unit read) = let is = not_read e a h (Err f) read in cc
  one_fault e f a b h (no_memory is) = absurd (b is)
  one_fault e f a b (no_unit read) k = let is = not_read f b k (Err e) read in cc
  one_fault e f a b (no_memory is) k = absurd (a is)
  one_fault e f a b (no_file x is h) (no_file y as_well k) = is ∙ ap faults.Syntax (faults_one.syntax_place (kinds ts) x y h k) ∙ sym as_well
  one_fault e f a b (no_file x is h) (too_deep y as_well k) = absurd (faults_one.not_both (kinds ts) x y h k)
  one_fault e f a b (too_deep x is h) (no_file y as_well k) = absurd (faults_one.not_both (kinds ts) y x k h)
  one_fault e f a b (too_deep x is h) (too_deep y as_well k) = is ∙ sym as_well

pub faults_of_units : FaultsAreOne
faults_of_units = record {
  one = one_fault;
  no_unit = λ ts e u none h read. let is = not_read ts e none h (Ok u) read in absurd cc;
}
