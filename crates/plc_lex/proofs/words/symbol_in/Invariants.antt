use Rattle.std.proofs.Common.{◌≡◌, map, length}
use Rattle.plc_lex.specs.Characters.{symbol_in}
use Rattle.plc_lex.proofs.words.symbol_in.Given as goal

abbrev pub invariant-loop-table : goal.invariant-loop-table
invariant-loop-table l = symbol_in (map (λ s. (s.0.now, s.1)) l.table) l.bytes ≡ symbol_in (map (λ s. (s.0.now, s.1)) l.fn.table) l.bytes

abbrev pub decreases-loop-table : goal.decreases-loop-table
decreases-loop-table l = length l.table
