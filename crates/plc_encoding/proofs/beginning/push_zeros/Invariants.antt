use Rattle.std.proofs.Common.{◌≡◌, map, drop}
use Rattle.plc_lang.specs.Locals.{is_other_data}
use Rattle.plc_lang.specs.Numbering.{places_from}
use Rattle.plc_ground.specs.declared.terms.Symbol.TheVariants as symbols
use Rattle.plc_symbolic.specs.Numbering.{written_all}
use Rattle.plc_encoding.specs.Items.{equals}
use Rattle.plc_encoding.proofs.beginning.push_zeros.Given as goal

abbrev pub invariant-loop-place : goal.invariant-loop-place
invariant-loop-place l =
    written_all l.initial.out (map (λ k. equals (symbols.Mine k) (symbols.Number 0)) (places_from is_other_data 0 l.locals))
    ≡ written_all l.out
    (map (λ k. equals (symbols.Mine k) (symbols.Number 0)) (places_from is_other_data l.place (drop l.place l.locals)))
