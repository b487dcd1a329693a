-- Primitives in order, one after the other as the code takes them.
use Rattle.std.proofs.Common.{ℕ, zero, suc, ◌<◌, List, [], ◌∷◌, length, get_or, arith}
use Rattle.plc_lang.specs.declared.syntax.Primitive.{Primitive}
use Rattle.plc_gc.specs.Fit.{Frame, FrameHas, FrameHasAll}

pub has_at : (f : Frame) (ps : List Primitive) (k : ℕ) (d : Primitive) → FrameHasAll f ps → k < length ps → FrameHas f (get_or ps k d)
has_at f [] k d all l = absurd (omega arith)
has_at f (p ∷ ps) zero d all l = all.0
has_at f (p ∷ ps) (suc k) d all l = has_at f ps k d all.1 (omega arith)
