-- Bytes spell at most one file, since they spell at most one list of tokens, and tokens mean one thing.
use Rattle.std.proofs.Common.{◌≡◌, ◌<◌, ◌≤◌, ◌+◌, ℕ, List, Some, Result, Ok, Err, ap, sym, subst, inl, inr, arith}
use Rattle.std.specs.Prelude.{All, Any}
use Rattle.plc_base.specs.Limits.{most}
use Rattle.plc_base.specs.declared.limits.What1.{What1}
use Rattle.plc_base.specs.declared.limits.What1.TheVariants as limits
use Rattle.plc_lex.specs.declared.token.Token.{Token}
use Rattle.plc_lex.specs.Spelling.{AreTokensOf}
use Rattle.plc_lex.proofs.Unique.{same_tokens}
use Rattle.plc_parse.specs.declared.unit.Unit.{Unit as FileUnit}
use Rattle.plc_parse.specs.Units.{IsUnitOf}
use Rattle.plc_parse.proofs.Answering.{one_meaning}
use Rattle.plc_flow.specs.Lowering.{made_of, flow_of, most_points}
use Rattle.plc_check.specs.declared.judged.Judged.{Judged}
use Rattle.plc_check.specs.declared.judged.LoadFault.{LoadFault}
use Rattle.plc_check.specs.declared.judged.LoadFault.TheVariants as faults
use Rattle.plc_check.specs.Loading.{IsFileOf, SpellsUnit}
use Rattle.plc_check.specs.Answered.{IsLoaded, HasLimitFault, FilesAreUnique}
use Rattle.plc_check.specs.Refusals.{IsPassedLimit, IsJudgedOf}
use Rattle.plc_check.proofs.Refusals.{unit_of}

pub one_unit : (ts : List Token) (u v : FileUnit) → IsUnitOf ts u → IsUnitOf ts v → u ≡ v
one_unit ts u v f g = let is = one_meaning ts (Ok u) (Ok v) f.means g.means in cc

pub one_file : FilesAreUnique
one_file bytes u v f g = one_unit f.tokens u v f.spells.unit (unit_of bytes f.tokens v g (same_tokens 0 1 bytes f.tokens g.tokens f.spells.spelled g.spells.spelled))

-- where one thing of a list has more than it may, not all have few
not_all : {A : Type 0} (size : A → ℕ) (n : ℕ) (xs : List A) → Any (λ x. n < size x) xs → All (λ x. size x ≤ n) xs → ⊥
not_all size n xs (k, x, within, is, many) few = let small = few k x within in omega (arith, many, subst (λ y. size y ≤ n) is small)

-- what is judged of a unit is the answer to bytes that spell it
module _ (bytes : List ℕ) (ts : List Token) (spelled : AreTokensOf bytes ts) (u : FileUnit) (unit : IsUnitOf ts u) where
  its_unit : (v : FileUnit) → IsFileOf bytes v → u ≡ v
  its_unit v f = one_unit ts u v unit (unit_of bytes ts v f (same_tokens 0 1 bytes ts f.tokens spelled f.spells.spelled))

  many_points : most_points < (made_of u.file).points → (v : FileUnit) → IsFileOf bytes v → ⊥
  many_points many v f = omega (arith, f.spells.few, many, ap (λ (x : FileUnit). (made_of x.file).points) (its_unit v f))

  spells : (made_of u.file).points ≤ most_points → SpellsUnit bytes ts u
  spells few = record { spelled = spelled; unit = unit; few = few }

  -- the file that other bytes of this unit would be is within the limits that it passes
  passes : (what : What1) → IsPassedLimit (flow_of u.file) u.outline (Some what) → IsFileOf bytes u → ⊥
  passes limits.Obligations many f = omega (arith, many, f.few)
  passes limits.Clauses large f = not_all _ _ _ large.1 f.small
  passes other h f = absurd h

  too_many : (what : What1) (count : ℕ) → (made_of u.file).points ≤ most_points
      → IsPassedLimit (flow_of u.file) u.outline (Some what) → count ≡ most what + 1 → HasLimitFault bytes what count
  too_many limits.Obligations count few h e =
      inr (inr (inl (record { tokens = ts; unit = u; spells = spells few; many = h; what_is = cc; count_is = e })))
  too_many limits.Clauses count few h e =
      inr (inr (inr (record { tokens = ts; unit = u; spells = spells few; few = h.0; many = h.1; what_is = cc; count_is = e })))
  too_many other count few h e = absurd h

  pub judged_loaded : (r : Result Judged LoadFault) → IsJudgedOf u r → IsLoaded bytes r
  judged_loaded (Ok j) h = (u, record { tokens = ts; spells = spells h.1; few = h.2.0; small = h.2.1 }, h.0)
  judged_loaded (Err faults.Memory) h = (tt, tt)
  judged_loaded (Err (faults.Limit what count)) (inl h) = (
    inr (inl (record { tokens = ts; spelled = spelled; unit = u; of_tokens = unit; many = h.many; what_is = h.what_is; count_is = h.count_is })),
    many_points h.many,
  )
  judged_loaded (Err (faults.Limit what count)) (inr h) = (
    too_many what count h.few h.passed h.count_is,
    λ v f. passes what h.passed (subst (IsFileOf bytes) (sym (its_unit v f)) f),
  )
  judged_loaded (Err (faults.Lex f)) h = absurd h
  judged_loaded (Err (faults.Parse f l)) h = absurd h
