-- The typing on which all that judges a file goes on: the strongest one, or the condition that none meets.
use Rattle.std.specs.Prelude.{List}
use Rattle.plc_type.specs.declared.env.Env.{Env}
use Rattle.plc_xfer.specs.Typings.{IsTyping, IsStrongest, IsStuckAt}
use Rattle.plc_flow.specs.Skeleton.{skeleton_of}
use Rattle.plc_check.specs.declared.judged.Judged.{Judged}
use Rattle.plc_check.specs.declared.verdict.Typed.{Typed}
use Rattle.plc_check.specs.declared.verdict.Typed.TheVariants.{Typing, Untyped}

-- a typing that is below every pre-typing
pub record IsStrongestTyping (j : Judged) (typing : List Env) : Type 0 where
  pub typed : IsTyping j.observer (skeleton_of j.flow) typing
  pub strongest : IsStrongest j.observer (skeleton_of j.flow) typing

-- the strongest typing; or where there is none, the condition that fails under every pre-typing, as no earlier one does
abbrev pub IsTypedAs : Judged → Typed → Type 0
IsTypedAs j (Typing typing) = IsStrongestTyping j typing.env
IsTypedAs j (Untyped step prim fault) = IsStuckAt j.observer (skeleton_of j.flow) step.0 prim fault
