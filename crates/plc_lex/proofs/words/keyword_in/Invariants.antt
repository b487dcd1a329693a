use Rattle.std.proofs.Common.{◌≡◌, map, length}
use Rattle.plc_lex.specs.Characters.{keyword_in}
use Rattle.plc_lex.proofs.words.keyword_in.Given as goal

abbrev pub invariant-loop-table : goal.invariant-loop-table
invariant-loop-table l = keyword_in (map (λ k. (k.0.now, k.1)) l.table) l.run ≡ keyword_in (map (λ k. (k.0.now, k.1)) l.fn.table) l.run

abbrev pub decreases-loop-table : goal.decreases-loop-table
decreases-loop-table l = length l.table
