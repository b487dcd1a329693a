-- The verdict on a file, by its types and by its outline.
use Rattle.std.specs.Prelude.{◌≡◌, length}
use Rattle.plc_xfer.specs.Typings.{HasTyping, IsTyping, IsStrongest, IsStuckAt}
use Rattle.plc_flow.specs.Skeleton.{skeleton_of}
use Rattle.plc_ground.specs.Model.{IsModel}
use Rattle.plc_oblig.specs.Obligations.{obligations}
use Rattle.plc_oblig.specs.GroundSets.{ground_set}
use Rattle.plc_oblig.specs.Outlines.{OutlineHolds, IsLeastOpen}
use Rattle.plc_check.specs.declared.judged.Judged.{Judged}
use Rattle.plc_check.specs.declared.verdict.Verdict.{Verdict}
use Rattle.plc_check.specs.declared.verdict.Verdict.TheVariants.{Safe, Untyped, Unproved}

-- safe with the strongest typing, where the outline holds; the condition that fails under every pre-typing; or, only
-- where a typing exists, the least obligation whose ground set has a model, with the set and any of its models
abbrev pub IsVerdictOn : Judged → Verdict → Type 0
IsVerdictOn j (Safe typing count) =
    IsTyping j.observer (skeleton_of j.flow) typing.env × IsStrongest j.observer (skeleton_of j.flow) typing.env
    × OutlineHolds j.flow j.unit_outline × (count ≡ length (obligations j.flow j.unit_outline))
IsVerdictOn j (Untyped step prim fault) = IsStuckAt j.observer (skeleton_of j.flow) step.0 prim fault
IsVerdictOn j (Unproved obligation set model) =
    HasTyping j.observer (skeleton_of j.flow) × IsLeastOpen j.flow j.unit_outline obligation
    × (set ≡ ground_set j.flow j.unit_outline obligation) × IsModel set model.class
