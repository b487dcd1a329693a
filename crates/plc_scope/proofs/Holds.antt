-- What holds of an answer if there is one, step by step.
use Rattle.std.proofs.Common.{◌≡◌, ◌==◌, ℕ, ◌≤◌, ◌<◌, Bool, true, false, if◌then◌else◌, Option, Some, None, IfSome, Result, Ok, Err, subst, refl, arith}
use Rattle.std.proofs.lemmas.Bool.{eqb-false}
use Rattle.plc_scope.specs.declared.fault.ParseFault.{ParseFault}
use Rattle.plc_scope.specs.Scope.{◌>>=◌, known}

-- what holds of an answer, if there is one
abbrev pub Has : {A : Type 0} → (A → Type 0) → Result A ParseFault → Type 0
Has P (Ok x) = P x
Has P (Err e) = Unit {0}

pub has_along : {A : Type 0} (P : A → Type 0) (r : Result A ParseFault) (x : A) → r ≡ Ok x → Has P r → P x
has_along P (Ok y) x e h = let same : y ≡ x = cc in subst P same h
has_along P (Err f) x e h = absurd cc

pub weaker : {A : Type 0} (P Q : A → Type 0) (r : Result A ParseFault) → ((x : A) → P x → Q x) → Has P r → Has Q r
weaker P Q (Ok x) k h = k x h
weaker P Q (Err e) k h = tt

pub next : {A B : Type 0} (P : A → Type 0) (Q : B → Type 0) (r : Result A ParseFault) (f : A → Result B ParseFault) → Has P r → ((x : A) → P x → Has Q (f x)) → Has Q (r >>= f)
next P Q (Ok x) f h k = k x h
next P Q (Err e) f h k = tt

pub any : {A B : Type 0} (Q : B → Type 0) (r : Result A ParseFault) (f : A → Result B ParseFault) → ((x : A) → Has Q (f x)) → Has Q (r >>= f)
any Q (Ok x) f k = k x
any Q (Err e) f k = tt

-- an answer that comes first
pub unless : {A : Type 0} (P : A → Type 0) (b : Bool) (e : ParseFault) (r : Result A ParseFault) → (b ≡ false → Has P r) → Has P (if b then Err e else r)
unless P true e r h = tt
unless P false e r h = h refl

pub if_ok : {A : Type 0} (P : A → Type 0) (b : Bool) (x : A) (e : ParseFault) → P x → Has P (if b then Ok x else Err e)
if_ok P true x e h = h
if_ok P false x e h = tt

pub both_err : {A : Type 0} (P : A → Type 0) (b c : Bool) (e f g : ParseFault) → Has P (if b then Err e else (if c then Err f else Err g))
both_err P true c e f g = tt
both_err P false true e f g = tt
both_err P false false e f g = tt

-- within a limit fewer were declared before
pub below : {A : Type 0} (P : A → Type 0) (n limit : ℕ) (e : ParseFault) (r : Result A ParseFault) → n ≤ limit → (n < limit → Has P r) → Has P (if n == limit then Err e else r)
below P n limit e r le h = unless P (n == limit) e r (λ is. h (omega (arith, eqb-false n limit is)))

-- what holds of what a name is found to be
pub known_has : {K : Type 0} (P : K → Type 0) (at : ℕ) (o : Option K) → IfSome o P → Has P (known at o)
known_has P at (Some k) h = h
known_has P at None h = tt
