use Rattle.std.proofs.Common.{◌≡◌, drop, slice_get}
use Rattle.plc_lang.specs.Locals.{is_pointer}
use Rattle.plc_lang.specs.Numbering.{places_from, pointer_place}
use Rattle.plc_lang.proofs.numbering.pointer_place.Given as goal

abbrev pub invariant-loop-place : goal.invariant-loop-place
invariant-loop-place l = slice_get (places_from is_pointer l.place (drop l.place l.locals)) l.left ≡ pointer_place l.locals l.number
