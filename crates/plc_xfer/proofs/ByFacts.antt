-- What a condition asks goes by the facts of a primitive. The last clause speaks for all others, so a new one needs none.
use Rattle.std.proofs.Common.{refl}
use Rattle.plc_lang.specs.declared.syntax.Primitive.TheVariants.{Null}
use Rattle.plc_xfer.specs.Laws.{ConditionsGoByFacts}

pub by_facts : ConditionsGoByFacts
by_facts e (Null p) = refl
by_facts e k = refl
