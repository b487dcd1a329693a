-- What holds of declarations that are listed.
use Rattle.std.proofs.Common.{◌≡◌, ◌==◌, ℕ, zero, suc, ◌+◌, false, Some, Result, Ok, List, [], ◌∷◌, length, ◌++◌}
use Rattle.std.proofs.Common.{slice_get, subst, sym, append_assoc, append-nil, arith}
use Rattle.plc_base.specs.Limits.{most}
use Rattle.plc_base.specs.declared.limits.What1.{What1}
use Rattle.plc_syntax.specs.Trees.{Text, Placed}
use Rattle.plc_scope.specs.declared.fault.ParseFault.{ParseFault}
use Rattle.plc_scope.specs.declared.scope.Scope.{Scope}
use Rattle.plc_scope.specs.declared.binding.Binding.{Binding}
use Rattle.plc_scope.specs.Scope.{◌>>=◌, declared}
use Rattle.plc_scope.proofs.Holds.{Has, next, unless}
use Rattle.plc_scope.specs.Limits.{within_limit}
use Rattle.plc_outparse.specs.Meaning.{in_turn}
use Rattle.plc_parse.specs.Meaning.{listed}

-- P holds of what parts in order make, where each part keeps it
pub turns : {S X : Type 0} (P : S → Type 0) (step : S → X → Result S ParseFault)
    → ((s : S) (x : X) → P s → Has P (step s x)) → (s : S) (xs : List X) → P s → Has P (in_turn step s xs)
turns P step keeps s [] h = h
turns P step keeps s (x ∷ xs) h =
    next P P (step s x) _ (keeps s x h) (λ t k. turns P step keeps t xs k)

-- P holds of each, and the state of the scope goes by how many were declared

pub record OneHas {Y : Type 0} (P : Y → Type 0) (State : ℕ → Scope → Type 0) (n : ℕ) (r : Y × Scope) : Type 0 where
  pub is : P r.0
  pub state : State (n + 1) r.1

pub record EachHas {Y : Type 0} (P : Y → Type 0) (State : ℕ → Scope → Type 0) (n : ℕ) (r : List Y × Scope) : Type 0 where
  pub each : (k : ℕ) (y : Y) → slice_get r.0 k ≡ Some y → P y
  pub state : State (n + length r.0) r.1

-- a declaration that is one name
pub one_name : {Y : Type 0} (P : Y → Type 0) (State : ℕ → Scope → Type 0) (n : ℕ) (what : What1) (s : Scope) (name : Placed Text) (b : Binding) (y : Y)
    → P y → ((n == most what) ≡ false → Has (State (n + 1)) (declared s name b)) → Has (OneHas P State n) (within_limit n what (declared s name b >>= λ t. Ok (y, t)))
one_name P State n what s name b y is h = unless (OneHas P State n) (n == most what) _ _ (λ few. next (State (n + 1)) (OneHas P State n) (declared s name b) _ (h few) (λ t k. record { is = is; state = k }))

each_of : {Y : Type 0} (P : Y → Type 0) (y : Y) (ys : List Y) → P y → ((k : ℕ) (z : Y) → slice_get ys k ≡ Some z → P z) → (k : ℕ) (z : Y) → slice_get (y ∷ ys) k ≡ Some z → P z
each_of P y ys h others zero z e = let same : y ≡ z = cc in subst P same h
each_of P y ys h others (suc k) z e = others k z e

module _ {X Y : Type 0} (means : Scope → ℕ → X → Result (Y × Scope) ParseFault) (P : Y → Type 0) (State : ℕ → Scope → Type 0)
    (one : (s : Scope) (n : ℕ) (x : X) → State n s → Has (OneHas P State n) (means s n x)) where
  pub each_has : (s : Scope) (n : ℕ) (xs : List X) → State n s → Has (EachHas P State n) (listed means s n xs)
  each_has s n [] h = let none : n ≡ n + 0 = omega arith in record { each = λ k y e. absurd cc; state = subst (λ k. State k s) none h }
  each_has s n (x ∷ xs) h = next (OneHas P State n) (EachHas P State n) (means s n x) _ (one s n x h) (λ first f.
      next (EachHas P State (n + 1)) (EachHas P State n) (listed means first.1 (n + 1) xs) _ (each_has first.1 (n + 1) xs f.state) (λ others k.
      let more : n + 1 + length others.0 ≡ n + length (first.0 ∷ others.0) = omega arith in
      record { each = each_of P first.0 others.0 f.is k.each; state = subst (λ m. State m others.1) more k.state }))

-- P holds of each, and the state of the scope goes by all that was declared before

pub record OneOn {Y : Type 0} (P : Y → Type 0) (State : List Y → Scope → Type 0) (ys : List Y) (r : Y × Scope) : Type 0 where
  pub is : P r.0
  pub state : State (ys ++ r.0 ∷ []) r.1

pub record EachOn {Y : Type 0} (P : Y → Type 0) (State : List Y → Scope → Type 0) (ys : List Y) (r : List Y × Scope) : Type 0 where
  pub each : (k : ℕ) (y : Y) → slice_get r.0 k ≡ Some y → P y
  pub state : State (ys ++ r.0) r.1

module _ {X Y : Type 0} (means : Scope → ℕ → X → Result (Y × Scope) ParseFault) (P : Y → Type 0) (State : List Y → Scope → Type 0)
    (one : (ys : List Y) (s : Scope) (n : ℕ) (x : X) → State ys s → Has (OneOn P State ys) (means s n x)) where
  pub each_on : (ys : List Y) (s : Scope) (n : ℕ) (xs : List X) → State ys s → Has (EachOn P State ys) (listed means s n xs)
  each_on ys s n [] h = record { each = λ k y e. absurd cc; state = subst (λ zs. State zs s) (sym (append-nil ys)) h }
  each_on ys s n (x ∷ xs) h = next (OneOn P State ys) (EachOn P State ys) (means s n x) _ (one ys s n x h) (λ first f.
      next (EachOn P State (ys ++ first.0 ∷ [])) (EachOn P State ys) (listed means first.1 (n + 1) xs) _ (each_on (ys ++ first.0 ∷ []) first.1 (n + 1) xs f.state) (λ others k.
      record { each = each_of P first.0 others.0 f.is k.each; state = subst (λ zs. State zs others.1) (append_assoc ys (first.0 ∷ []) others.0) k.state }))

-- nothing is asked of it
abbrev pub Free : {Y : Type 0} → Y → Type 0
Free y = Unit {0}
