-- A run of constants by their numbers, one longer.
use Rattle.std.proofs.Common.{◌≡◌, ℕ, ◌+◌, List, [], ◌∷◌, ◌++◌, map, sym, ap, ◌∙◌, append_assoc, arith}
use Rattle.std.proofs.lemmas.List.FromFn.{map-range_with_len_more}
use Rattle.plc_vocabulary.specs.Setting.{below}

pub pushed_run : {X : Type 0} (f : ℕ → X) (start list : List X) (i : ℕ) → list ≡ start ++ map f (below i)
    → list ++ f i ∷ [] ≡ start ++ map f (below (i + 1))
pushed_run f start list i e =
    ap (λ xs. xs ++ f i ∷ []) e ∙ append_assoc start (map f (below i)) (f i ∷ [])
    ∙ ap (λ xs. start ++ xs) (sym (map-range_with_len_more f 0 i i (omega arith)))

-- one run more, after a list that is known
pub follows : {X : Type 0} (old new start more known : List X) → new ≡ old ++ more → more ≡ known → old ≡ start
    → new ≡ start ++ known
follows old new start more known e m h = e ∙ ap (λ xs. xs ++ more) h ∙ ap (λ xs. start ++ xs) m

-- nine runs after a list, the second of four parts and the sixth of two
pub nine_runs : {X : Type 0} (n a b1 b2 b3 b4 c d e f1 f2 g h i : List X) →
    ((((((((n ++ a) ++ (b1 ++ (b2 ++ (b3 ++ b4)))) ++ c) ++ d) ++ e) ++ (f1 ++ f2)) ++ g) ++ h) ++ i
    ≡ n ++ (a ++ (b1 ++ (b2 ++ (b3 ++ (b4 ++ (c ++ (d ++ (e ++ (f1 ++ (f2 ++ (g ++ (h ++ i))))))))))))
nine_runs n a b1 b2 b3 b4 c d e f1 f2 g h i = simp append_assoc
