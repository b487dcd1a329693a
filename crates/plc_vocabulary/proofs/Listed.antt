-- What was made, where its lists were listed.
use Rattle.std.proofs.Common.{◌≡◌, Result, Ok, Err, OnOk, IfOk, IsOk, sym, subst}

pub made_listed : {X Y E : Type 0} (listed : Result X E) (result : Result Y E) (made : Y) (Q : Type 0) (P : Y → Type 0)
    → (Q → P made) → OnOk listed Q → IfOk result (λ r. r ≡ made) → IfOk result (λ r. IsOk listed) → IfOk result P
made_listed (Ok x) (Ok r) made Q P f h same is = subst P (sym same) (f h)
made_listed (Err e) (Ok r) made Q P f h same is = absurd cc
made_listed listed (Err e) made Q P f h same is = tt
