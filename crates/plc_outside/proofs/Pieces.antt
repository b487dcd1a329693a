-- What was read piece by piece is the start of what there was to read.
use Rattle.std.proofs.Common.{◌≡◌, ℕ, ◌+◌, List, ◌++◌, length, take, drop, Option, Some, None, sym, ap, ◌∙◌}
use Rattle.std.specs.Prelude.{IfSome}
use Rattle.std.proofs.Math.Seq.{take-add, drop-append-add}
use Rattle.std.proofs.lemmas.List.{take-append-drop}

-- one more piece of a list
take-piece : (w old next : List ℕ) (n : ℕ) → old ≡ take (length old) w → next ≡ old ++ take n (drop (length old) w) → length next ≡ length old + n → next ≡ take (length next) w
take-piece w old next n p q e =
    q ∙ ap (λ (t : List ℕ). t ++ take n (drop (length old) w)) p ∙ sym (take-add (length old) n w) ∙ ap (λ (k : ℕ). take k w) (sym e)

drop-piece : (w old : List ℕ) (n k : ℕ) → old ≡ take (length old) w → k ≡ length old + n → drop n (drop (length old) w) ≡ drop k w
drop-piece w old n k p e =
    let whole : old ++ drop (length old) w ≡ w = ap (λ (t : List ℕ). t ++ drop (length old) w) p ∙ take-append-drop (length old) w in
    sym (drop-append-add old (drop (length old) w) n) ∙ ap (λ (t : List ℕ). drop (length old + n) t) whole ∙ ap (λ (j : ℕ). drop j w) (sym e)

pub piece-so_far : (told mid new : Option (List ℕ)) (old next : List ℕ) (n : ℕ) → IfSome told (λ left. old ≡ take (length old) left) → IfSome told (λ left. mid ≡ Some (drop (length old) left)) → IfSome mid (λ left. (next ≡ old ++ take n left) × (new ≡ Some (drop n left))) → length next ≡ length old + n → IfSome told (λ left. next ≡ take (length next) left)
piece-so_far None mid new old next n p q r e = tt
piece-so_far (Some w) mid new old next n p q r e =
    let s = rw q at r in
    take-piece w old next n p s.0 e

pub piece-rest : (told mid new : Option (List ℕ)) (old next : List ℕ) (n : ℕ) → IfSome told (λ left. old ≡ take (length old) left) → IfSome told (λ left. mid ≡ Some (drop (length old) left)) → IfSome mid (λ left. (next ≡ old ++ take n left) × (new ≡ Some (drop n left))) → length next ≡ length old + n → IfSome told (λ left. new ≡ Some (drop (length next) left))
piece-rest None mid new old next n p q r e = tt
piece-rest (Some w) mid new old next n p q r e =
    let s = rw q at r in
    s.1 ∙ ap Some (drop-piece w old n (length next) p e)
