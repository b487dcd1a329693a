-- Meanings in order, and faults that end them.
use Rattle.std.proofs.Common.{◌≡◌, Result, Ok, Err, refl, sym, ap, ◌∙◌}
use Rattle.plc_scope.specs.declared.fault.ParseFault.{ParseFault}
use Rattle.plc_scope.specs.declared.fault.ParseFault.TheVariants as faults
use Rattle.plc_scope.specs.Answers.{FailsAs}
use Rattle.plc_scope.specs.Scope.{◌>>=◌}

pub bind_same : {A B : Type 0} (r : Result A ParseFault) (f g : A → Result B ParseFault) → ((x : A) → f x ≡ g x) → (r >>= f) ≡ (r >>= g)
bind_same (Ok x) f g h = h x
bind_same (Err e) f g h = refl

pub bind_joins : {A B C : Type 0} (r : Result A ParseFault) (f : A → Result B ParseFault) (g : B → Result C ParseFault) → ((r >>= f) >>= g) ≡ (r >>= λ x. f x >>= g)
bind_joins (Ok x) f g = refl
bind_joins (Err e) f g = refl

-- what means the same goes on
pub bind_within : {A B C : Type 0} (r : Result A ParseFault) (F : A → Result C ParseFault)
    (G : A → Result B ParseFault) (f : B → Result C ParseFault) → ((x : A) → F x ≡ (G x >>= f))
    → (r >>= F) ≡ ((r >>= G) >>= f)
bind_within (Ok x) F G f h = h x
bind_within (Err e) F G f h = refl

-- a fault is passed on
pub bind_stops : {A B : Type 0} (e : ParseFault) (r : Result A ParseFault) (f : A → Result B ParseFault) → FailsAs e r → FailsAs e (r >>= f)
bind_stops faults.Memory r f h = tt
bind_stops e r f h = ap (λ x. x >>= f) h

pub fails_along : {A : Type 0} (e : ParseFault) (r s : Result A ParseFault) → r ≡ s → FailsAs e r → FailsAs e s
fails_along faults.Memory r s p h = tt
fails_along e r s p h = sym p ∙ h

-- what goes on with a value fails where it failed before
pub fails_before : {A B : Type 0} (e : ParseFault) (m : Result A ParseFault) (f : A → B)
    → FailsAs e (m >>= λ x. Ok (f x)) → FailsAs e m
fails_before faults.Memory m f h = tt
fails_before e (Ok x) f h = absurd cc
fails_before e (Err g) f h = let same : g ≡ e = cc in ap Err same
