-- The limit of what is judged of a unit is that of the unit.
use Rattle.std.proofs.Common.{◌≡◌, ◌≤◌, Result, Ok, Err, inl, inr, subst}
use Rattle.plc_parse.specs.declared.unit.Unit.{Unit as FileUnit}
use Rattle.plc_flow.specs.Lowering.{made_of, most_points}
use Rattle.plc_check.specs.declared.judged.Judged.{Judged}
use Rattle.plc_check.specs.declared.judged.LoadFault.{LoadFault}
use Rattle.plc_check.specs.declared.judged.LoadFault.TheVariants as faults
use Rattle.plc_check.specs.Answered.{judged_of}
use Rattle.plc_check.specs.Refusals.{IsLowered, IsLimited, IsJudgedOf}

pub limited_of : (u : FileUnit) (j : Judged) → j ≡ judged_of u → (made_of u.file).points ≤ most_points
    → (r : Result Judged LoadFault) → IsLimited j r → IsJudgedOf u r
limited_of u j same few r h = of_unit r (subst (λ (k : Judged). IsLimited k r) same h)
  where
    of_unit : (r : Result Judged LoadFault) → IsLimited (judged_of u) r → IsJudgedOf u r
    of_unit (Ok k) l = (l.0, few, l.1)
    of_unit (Err (faults.Limit what count)) l = inr (record { few = few; passed = l.0; count_is = l.1 })
    of_unit (Err faults.Memory) l = tt
    of_unit (Err (faults.Lex fault)) l = absurd l
    of_unit (Err (faults.Parse fault line)) l = absurd l

-- a fault of the lowering is one of the unit
pub lowering_refused : (u : FileUnit) (e : LoadFault) → IsLowered u (Err e) → IsJudgedOf u (Err e)
lowering_refused u (faults.Limit what count) l = inl l
lowering_refused u faults.Memory l = tt
lowering_refused u (faults.Lex fault) l = absurd l
lowering_refused u (faults.Parse fault line) l = absurd l
