-- What a table gives of its threads, with a default for an idle one, after something was put in for one of them.
use Rattle.std.proofs.Common.{◌≡◌, ℕ, List, Option, None, get_or, ap}
use Rattle.std.specs.Option.{unwrap_or}
use Rattle.plc_base.specs.Tables.{put_at}
use Rattle.plc_base.proofs.Tables.{get-put_same, get-put_other}

pub held-put_same : {L : Type 0} (none : L) (table : List (Option L)) (t : ℕ) (l : Option L)
    → unwrap_or (get_or (put_at None table t l) t None) none ≡ unwrap_or l none
held-put_same none table t l = ap (λ o. unwrap_or o none) (get-put_same None table t l)

pub held-put_other : {L : Type 0} (none : L) (table : List (Option L)) (t : ℕ) (l : Option L) (u : ℕ) → (u ≡ t → ⊥)
    → unwrap_or (get_or (put_at None table t l) u None) none ≡ unwrap_or (get_or table u None) none
held-put_other none table t l u ne = ap (λ o. unwrap_or o none) (get-put_other None table t l u ne)
