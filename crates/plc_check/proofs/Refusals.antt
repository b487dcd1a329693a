-- Bytes whose tokens or unit were refused for another cause than running out of memory have that fault, and spell no
-- file.
use Rattle.std.proofs.Common.{◌≡◌, ℕ, List, Some, inl, sym, subst, refl}
use Rattle.plc_lex.specs.declared.token.Token.{Token}
use Rattle.plc_lex.specs.declared.fault.LexFault.{LexFault}
use Rattle.plc_lex.specs.declared.fault.LexFault.TheVariants as lex
use Rattle.plc_lex.specs.Spelling.{AreTokensOf}
use Rattle.plc_lex.specs.Refused.{StopsWith}
use Rattle.plc_scope.specs.declared.fault.ParseFault.{ParseFault}
use Rattle.plc_scope.specs.declared.fault.ParseFault.TheVariants as parse
use Rattle.plc_parse.specs.declared.unit.Unit.{Unit as FileUnit}
use Rattle.plc_parse.specs.Units.{IsUnitOf}
use Rattle.plc_parse.specs.Faults.{IsFaultOf}
use Rattle.plc_check.specs.Loading.{IsFileOf}
use Rattle.plc_check.specs.Answered.{HasFault, HasParseFault, SpellsNothing, place_of, line_of}
use Rattle.plc_check.specs.Refusals.{lex_refusal, parse_refusal}

-- the unit of a file is that of the tokens that its bytes spell
pub unit_of : (bytes : List ℕ) (ts : List Token) (u : FileUnit) (f : IsFileOf bytes u) → ts ≡ f.tokens → IsUnitOf ts u
unit_of bytes ts u f same = subst (λ (us : List Token). IsUnitOf us u) (sym same) f.spells.unit

module _ (bytes : List ℕ) where
  pub lex_refused : (fault : LexFault) → StopsWith 0 bytes fault
      → ((u : FileUnit) → IsFileOf bytes u → fault ≡ lex.Memory)
      → HasFault bytes (lex_refusal fault) × SpellsNothing bytes (lex_refusal fault)
  lex_refused lex.Memory stops h = (tt, tt)
  lex_refused (lex.BadByte at) stops h = (record { stops = stops; other = λ e. absurd (cc) }, λ u f. let e = h u f in absurd (cc))
  lex_refused (lex.LongName at) stops h = (record { stops = stops; other = λ e. absurd (cc) }, λ u f. let e = h u f in absurd (cc))
  lex_refused (lex.BadNumber at) stops h = (record { stops = stops; other = λ e. absurd (cc) }, λ u f. let e = h u f in absurd (cc))

  module _ (ts : List Token) (spelled : AreTokensOf bytes ts) where
    placed : (fault : ParseFault) (at : ℕ) → place_of fault ≡ Some at → IsFaultOf ts fault → HasParseFault bytes fault (line_of bytes ts at)
    placed fault at e is = record { tokens = ts; spelled = spelled; is_fault = is; place = at; placed = e; line_is = refl }

    pub parse_refused : (fault : ParseFault) → IsFaultOf ts fault
        → ((u : FileUnit) → IsFileOf bytes u → fault ≡ parse.Memory)
        → HasFault bytes (parse_refusal bytes ts fault) × SpellsNothing bytes (parse_refusal bytes ts fault)
    parse_refused parse.Memory is h = (tt, tt)
    parse_refused (parse.Syntax at) is h = (placed (parse.Syntax at) at refl is, λ u f. let e = h u f in absurd (cc))
    parse_refused (parse.Undeclared at) is h = (placed (parse.Undeclared at) at refl is, λ u f. let e = h u f in absurd (cc))
    parse_refused (parse.Duplicate at) is h = (placed (parse.Duplicate at) at refl is, λ u f. let e = h u f in absurd (cc))
    parse_refused (parse.WrongSort at) is h = (placed (parse.WrongSort at) at refl is, λ u f. let e = h u f in absurd (cc))
    parse_refused (parse.NoSuchCall at) is h = (placed (parse.NoSuchCall at) at refl is, λ u f. let e = h u f in absurd (cc))
    parse_refused (parse.Limit what count) is h = (inl (record { tokens = ts; spelled = spelled; is_fault = is }), λ u f. let e = h u f in absurd (cc))
