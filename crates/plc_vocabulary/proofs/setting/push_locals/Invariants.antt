use Rattle.std.proofs.Common.{◌≡◌, ◌++◌, drop, map}
use Rattle.plc_lang.specs.Numbering.{places_from}
use Rattle.plc_vocabulary.specs.Setting.{local_symbol}
use Rattle.plc_vocabulary.specs.Kinds.{is_kind}
use Rattle.plc_vocabulary.proofs.setting.push_locals.Given as goal

abbrev pub invariant-loop-place : goal.invariant-loop-place
invariant-loop-place l =
    l.list ++ map (local_symbol l.owner) (places_from (is_kind l.pointers) l.place (drop l.place l.locals))
    ≡ l.initial.list ++ map (local_symbol l.owner) (places_from (is_kind l.pointers) 0 l.locals)
