-- A list as a table with a default past its end, so that a definition that writes asks nothing of places.
use Rattle.std.specs.Prelude.{ℕ, zero, suc, List, [], ◌∷◌}

-- the table with a value put at a place
abbrev pub put_at : {A : Type 0} → A → List A → ℕ → A → List A
put_at d [] zero v = v ∷ []
put_at d [] (suc i) v = d ∷ put_at d [] i v
put_at d (x ∷ xs) zero v = v ∷ xs
put_at d (x ∷ xs) (suc i) v = x ∷ put_at d xs i v
