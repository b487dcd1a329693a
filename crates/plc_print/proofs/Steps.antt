-- Answers that come again.
use Rattle.std.proofs.Common.{◌≡◌, ℕ, Bool, true, false, if◌then◌else◌, List, Some, slice_get, Result, Ok, Err, refl, ap, ◌∙◌}
use Rattle.plc_scope.specs.declared.fault.ParseFault.{ParseFault}
use Rattle.plc_scope.specs.Scope.{◌>>=◌}
use Rattle.plc_scope.proofs.Holds.{Has}

pub within : {A : Type 0} (past : Bool) (e : ParseFault) (r s : Result A ParseFault) → past ≡ false → r ≡ s → (if past then Err e else r) ≡ s
within true e r s h k = absurd cc
within false e r s h k = k

-- after an answer
pub after : {A B : Type 0} (r : Result A ParseFault) (f : A → Result B ParseFault) (x : A) (y : Result B ParseFault) → r ≡ Ok x → f x ≡ y → (r >>= f) ≡ y
after r f x y e k = ap (λ z. z >>= f) e ∙ k

-- a step and the one after it, with the answer of the first
pub along : {A B : Type 0} (P : A → Type 0) (Q : B → Type 0) (r : Result A ParseFault) (f : A → Result B ParseFault) → Has P r → ((x : A) → P x → r ≡ Ok x → Has Q (f x)) → Has Q (r >>= f)
along P Q (Ok x) f h k = k x h refl
along P Q (Err e) f h k = tt

-- an answer, and what is known of it
pub held : {A : Type 0} (P Q : A → Type 0) (r : Result A ParseFault) → Has P r → ((x : A) → P x → r ≡ Ok x → Q x) → Has Q r
held P Q (Ok x) h k = k x h refl
held P Q (Err e) h k = tt

-- what stands in a list stands in the other at the same place
abbrev pub Within : {A : Type 0} → List A → List A → Type 0
Within {A} xs ys = (i : ℕ) (x : A) → slice_get xs i ≡ Some x → slice_get ys i ≡ Some x
