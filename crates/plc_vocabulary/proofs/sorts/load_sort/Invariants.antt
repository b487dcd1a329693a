use Rattle.std.proofs.Common.{◌≡◌, drop, slice_get}
use Rattle.plc_vocabulary.specs.Sorts.{loads_of}
use Rattle.plc_vocabulary.proofs.sorts.load_sort.Given as goal

abbrev pub invariant-loop-act : goal.invariant-loop-act
invariant-loop-act l = slice_get (loads_of (drop l.act-index l.acts)) l.left ≡ slice_get (loads_of l.acts) l.k
