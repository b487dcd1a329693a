use Rattle.std.proofs.Common.{◌≡◌, map, drop}
use Rattle.plc_ground.specs.declared.terms.Symbol.TheVariants as symbols
use Rattle.plc_symbolic.specs.Numbering.{written_all}
use Rattle.plc_encoding.specs.Items.{equals}
use Rattle.plc_encoding.proofs.beginning.push_nulls.Given as goal

abbrev pub invariant-loop-p : goal.invariant-loop-p
invariant-loop-p l =
    written_all l.initial.out (map (λ p. equals p symbols.Null) l.pointers)
    ≡ written_all l.out (map (λ p. equals p symbols.Null) (drop l.p-index l.pointers))
