-- What words that are left say of those that could have been spelled.
use Rattle.std.proofs.Common.{◌≡◌, ℕ, ◌<◌, ◌≤◌, ◌^◌, ◌==◌, false, List, [], ◌∷◌, ◌++◌, length, map, codes, Option, Some}
use Rattle.std.proofs.Common.{None, All, sym, ap, ◌∙◌, arith, length-append}
use Rattle.std.specs.Borrow.{Bor}
use Rattle.std.specs.Fmt.{decimal}
use Rattle.std.specs.List.{slice_split}
use Rattle.std.specs.Option.{is_none}
use Rattle.std.proofs.lemmas.List.{length-map}
use Rattle.std.proofs.lemmas.List.Elements.{All-head, All-tail}
use Rattle.std.proofs.lemmas.List.Splits.{length-slice_split}
use Rattle.plc_base.specs.Bounds.{most_addresses, most_threads}
use Rattle.plc_sched.specs.declared.words.Words.{Words}
use Rattle.plc_sched.specs.Entries.{head_words}
use Rattle.plc_sched.specs.Numbers.{most_arguments}
use Rattle.plc_sched.specs.NumberWords.{IsNextNumber, IsLastNumber}
use Rattle.plc_sched.specs.Reading.{IsAddress, IsHead}
use Rattle.plc_sched.specs.Words.{pieces_after, words_left}
use Rattle.plc_sched.proofs.WordsOfEntries.{split_head, line_from_words}

some_piece : (left : Option (Bor (List ℕ))) → is_none left ≡ false → 0 < length (pieces_after 32 left)
some_piece None e = absurd cc
some_piece (Some bytes) e = omega (arith, length-slice_split (λ b. b == 32) bytes.now)

-- where something is left, a word is
pub words_remain : (words : Words) → is_none words.left ≡ false → 0 < length (words_left words)
words_remain words e = some_piece words.left e

-- one number isn't all words where more are left
pub more_than_one : (n number : ℕ) (rest words : List (List ℕ)) → 0 < length rest → decimal number ∷ rest ≡ words → decimal n ∷ [] ≡ words → ⊥
more_than_one n number rest words some read e = omega (arith, ap length (e ∙ sym read))

-- words that are no one number are no address
pub no_address : (words : List (List ℕ)) → 0 < length words → IsLastNumber words 1 most_addresses None → IsAddress words None
no_address words some none None fit e = omega (arith, ap length e)
no_address words some none (Some address) fit e = none address fit.0 fit.1 e

-- numbers that were read, with words after them, are no fewer numbers
pub too_many : (numbers others : List ℕ) (rest words : List (List ℕ)) → length numbers ≡ most_arguments → length others ≤ most_arguments → 0 < length rest → map decimal numbers ++ rest ≡ words → map decimal others ≡ words → ⊥
too_many numbers others rest words full few some read e =
    omega (arith, ap length (e ∙ sym read), length-append (map decimal numbers) rest, length-map numbers decimal, length-map others decimal)

no_next : (numbers others : List ℕ) (rest : List (List ℕ)) → 0 < length rest → IsNextNumber rest 0 4294967295 None → All (λ n. n < 2 ^ 32) others → map decimal numbers ++ rest ≡ map decimal others → ⊥
no_next [] [] rest some none each e = omega (arith, ap length e)
no_next [] (n ∷ ns) rest some none each e = none n (map decimal ns) (omega arith) (omega (arith, All-head (λ d. d < 2 ^ 32) n ns each)) (sym e)
no_next (m ∷ ms) [] rest some none each e = absurd cc
no_next (m ∷ ms) (n ∷ ns) rest some none each e = no_next ms ns rest some none (All-tail (λ d. d < 2 ^ 32) n ns each) cc

-- where no number comes next, the words are no numbers
pub not_numbers : (numbers others : List ℕ) (rest words : List (List ℕ)) → 0 < length rest → IsNextNumber rest 0 4294967295 None → All (λ n. n < 2 ^ 32) others → map decimal numbers ++ rest ≡ words → map decimal others ≡ words → ⊥
not_numbers numbers others rest words some none each read e = no_next numbers others rest some none each (read ∙ sym e)

-- what is read of the words after `threads` is read of the first line
pub head_is : (line kind : List ℕ) (left : List (List ℕ)) (read : Option ℕ) → slice_split (λ b. b == 32) line ≡ kind ∷ left → kind ≡ codes "threads" → IsLastNumber left 1 most_threads read → IsHead line read
head_is line kind left (Some n) split is h = let last = h.2 in ((h.0, h.1), line_from_words (head_words n) line cc)
head_is line kind left None split is h = λ n fit same.
    let words : slice_split (λ b. b == 32) line ≡ head_words n = ap (slice_split (λ b. b == 32)) (sym same) ∙ split_head n fit in
    h n fit.0 fit.1 cc
