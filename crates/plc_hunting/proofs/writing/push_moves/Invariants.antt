use Rattle.std.proofs.Common.{◌≡◌, ◌++◌, drop}
use Rattle.plc_hunting.specs.Texts.{moves_text}
use Rattle.plc_hunting.proofs.writing.push_moves.Given as goal

abbrev pub invariant-loop-m : goal.invariant-loop-m
invariant-loop-m l =
    l.out.items ++ moves_text l.flow l.ticks (drop l.m-index l.moves) ≡ l.initial.out.items ++ moves_text l.flow l.ticks l.moves
