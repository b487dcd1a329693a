-- The words of an entry are words, so cutting its line apart gives them back, and entries of two kinds have different words.
use Rattle.std.proofs.Common.{◌≡◌, ℕ, ◌+◌, ◌<◌, ◌≤◌, ◌^◌, ◌==◌, ◌&&◌, Bool, true, false, List, [], ◌∷◌, length, map, get_or, codes, nat_le, Option, Some, None, Result, Ok, Err, IfOk, All, refl, sym, ap, ◌∙◌, subst, arith, eqb-true, eq-eqb}
use Rattle.std.specs.Fmt.{decimal}
use Rattle.std.specs.List.{list_all, slice_split, join_with_byte}
use Rattle.std.specs.Str.Parse.{AllDigits}
use Rattle.std.proofs.lemmas.Bool.{and_parts, false≢true, le-leb}
use Rattle.std.proofs.lemmas.Fmt.{decimal_is_IsNumeral}
use Rattle.std.proofs.lemmas.Str.Parse.{digit_from_value}
use Rattle.std.proofs.lemmas.List.Elements.{All-nil, All-cons, All-map, All-weaker}
use Rattle.std.proofs.lemmas.List.Splits.{join_with_byte-slice_split}
use Rattle.plc_base.specs.Limits.{most_name_bytes}
use Rattle.plc_sched.specs.declared.schedule.Entry.{Entry}
use Rattle.plc_sched.specs.declared.schedule.Entry.TheVariants.{Start, Step, Return, Tick}
use Rattle.plc_lex.specs.Characters.{in_name, is_letter}
use Rattle.plc_sched.specs.Entries.{is_name, address_words, entry_words, line_of, entry_text, head_words, head_text, AddressFits, StepFits, EntryFits, ThreadsFit}
use Rattle.plc_sched.specs.Reading.{IsEntryOf, IsLine}
use Rattle.plc_sched.proofs.Cuts.{IsWord, split_joined}
use Rattle.plc_sched.proofs.Decimals.{is_above}

-- a byte is no space
abbrev NoSpace : ℕ → Type 0
NoSpace b = (b == 32) ≡ false

digits_are_word : (ds : List ℕ) → AllDigits 10 ds → IsWord ds
digits_are_word [] e = All-nil NoSpace
digits_are_word (d ∷ ds) e = let range = digit_from_value d e.0 in All-cons NoSpace d ds (is_above d 32 (omega (arith, range))) (digits_are_word ds e.1)

decimal_is_word : (n : ℕ) → n < 2 ^ 64 → IsWord (decimal n)
decimal_is_word n h = digits_are_word (decimal n) (decimal_is_IsNumeral n h).0.1

in_name_no_space : (b : ℕ) (space : Bool) → (b == 32) ≡ space → in_name b ≡ true → space ≡ false
in_name_no_space b true s e = let f : in_name 32 ≡ true = subst (λ x. in_name x ≡ true) (eqb-true b 32 s) e in absurd cc
in_name_no_space b false s e = refl

in_name_is_word : (bs : List ℕ) → list_all in_name bs ≡ true → IsWord bs
in_name_is_word [] e = All-nil NoSpace
in_name_is_word (b ∷ bs) e = let parts = and_parts (in_name b) (list_all in_name bs) e in All-cons NoSpace b bs (in_name_no_space b (b == 32) refl parts.0) (in_name_is_word bs parts.1)

name_is_word : (op : List ℕ) → is_name op ≡ true → IsWord op
name_is_word [] e = All-nil NoSpace
name_is_word (b ∷ bs) e =
    let small : Bool = nat_le (length (b ∷ bs)) most_name_bytes in
    let whole : Bool = list_all in_name (b ∷ bs) in
    in_name_is_word (b ∷ bs) (and_parts small whole (and_parts (is_letter b) (small && whole) e).1).1

address_are_words : (addr : Option ℕ) → AddressFits addr → All IsWord (address_words addr)
address_are_words None fit = All-nil IsWord
address_are_words (Some a) fit = All-cons IsWord (decimal a) [] (decimal_is_word a (omega (arith, fit.1))) (All-nil IsWord)

entry_are_words : (threads : ℕ) (entry : Entry) → threads ≤ 2 ^ 32 → EntryFits threads entry → All IsWord (entry_words entry)
entry_are_words threads (Start t op args) few fit =
    All-cons IsWord (codes "start") (decimal t ∷ op ∷ map decimal args) (in_name_is_word (codes "start") refl)
    (All-cons IsWord (decimal t) (op ∷ map decimal args) (decimal_is_word t (omega (arith, fit.thread)))
    (All-cons IsWord op (map decimal args) (name_is_word op fit.name)
    (All-map IsWord decimal args (All-weaker (λ d. d < 2 ^ 32) (λ d. IsWord (decimal d)) (λ d h. decimal_is_word d (omega arith)) args fit.arguments))))
entry_are_words threads (Step t nth addr) few fit =
    All-cons IsWord (codes "step") (decimal t ∷ decimal nth ∷ address_words addr) (in_name_is_word (codes "step") refl)
    (All-cons IsWord (decimal t) (decimal nth ∷ address_words addr) (decimal_is_word t (omega (arith, fit.thread)))
    (All-cons IsWord (decimal nth) (address_words addr) (decimal_is_word nth (omega (arith, fit.place))) (address_are_words addr fit.address)))
entry_are_words threads (Return t) few fit =
    All-cons IsWord (codes "return") (decimal t ∷ []) (in_name_is_word (codes "return") refl) (All-cons IsWord (decimal t) [] (decimal_is_word t (omega arith)) (All-nil IsWord))
entry_are_words threads Tick few fit = All-cons IsWord (codes "tick") [] (in_name_is_word (codes "tick") refl) (All-nil IsWord)

some_words : (entry : Entry) → 0 < length (entry_words entry)
some_words (Start t op args) = omega arith
some_words (Step t nth addr) = omega arith
some_words (Return t) = omega arith
some_words Tick = omega arith

-- the line of an entry is cut apart into its words
pub split_entry : (threads : ℕ) (entry : Entry) → threads ≤ 2 ^ 32 → EntryFits threads entry → slice_split (λ b. b == 32) (entry_text entry) ≡ entry_words entry
split_entry threads entry few fit = split_joined (entry_words entry) (some_words entry) (entry_are_words threads entry few fit)

-- and so is the first line
pub split_head : (threads : ℕ) → ThreadsFit threads → slice_split (λ b. b == 32) (head_text threads) ≡ head_words threads
split_head threads fit =
    split_joined (head_words threads) (omega arith)
    (All-cons IsWord (codes "threads") (decimal threads ∷ []) (in_name_is_word (codes "threads") refl) (All-cons IsWord (decimal threads) [] (decimal_is_word threads (omega (arith, fit.1))) (All-nil IsWord)))

-- words that a line is cut into make that line
pub line_from_words : (words : List (List ℕ)) (line : List ℕ) → words ≡ slice_split (λ b. b == 32) line → line_of words ≡ line
line_from_words words line e = ap (join_with_byte 32) e ∙ join_with_byte-slice_split 32 line

line_is : (threads : ℕ) (line : List ℕ) (read : Option Entry) → threads ≤ 2 ^ 32 → IsEntryOf threads (slice_split (λ b. b == 32) line) read → IsLine threads line read
line_is threads line (Some entry) few h = (h.0, line_from_words (entry_words entry) line h.1)
line_is threads line None few h = λ entry fit same. h entry fit (sym (split_entry threads entry few fit) ∙ ap (slice_split (λ b. b == 32)) same)

-- what is read of a line's words is read of the line
pub lines_are : {E : Type 0} (threads : ℕ) (line : List ℕ) (read : Result (Option Entry) E) → threads ≤ 2 ^ 32 → IfOk read (IsEntryOf threads (slice_split (λ b. b == 32) line)) → IfOk read (IsLine threads line)
lines_are threads line (Ok entry) few h = line_is threads line entry few h
lines_are threads line (Err fault) few h = tt

-- two bytes of the first word, which tell the kinds of entries apart
abbrev mark : List (List ℕ) → ℕ
mark words = get_or (get_or words 0 []) 0 0 + get_or (get_or words 0 []) 2 0

third : (a b c : Bool) → a ≡ true → b ≡ true → c ≡ (a && (b && c))
third a b c e f = rw (e, f) refl

-- a test of a word that begins as a name does and is short enough
pub name_is : (word : List ℕ) → 1 ≤ length word → is_letter (get_or word 0 0) ≡ true → length word ≤ most_name_bytes → list_all in_name word ≡ is_name word
name_is [] some letter short = absurd (omega arith)
name_is (b ∷ bs) some letter short = third (is_letter b) (nat_le (length (b ∷ bs)) most_name_bytes) (list_all in_name (b ∷ bs)) letter (le-leb (length (b ∷ bs)) most_name_bytes short)

-- words of entries of two kinds
pub two_kinds : (words others : List (List ℕ)) → (mark words == mark others) ≡ false → words ≡ others → ⊥
two_kinds words others apart same = let e : (mark others == mark others) ≡ false = subst (λ ws. (mark ws == mark others) ≡ false) same apart in absurd (false≢true (sym e ∙ eq-eqb (mark others) (mark others) refl))

-- words of a step are those of no other entry
pub only_steps : (threads : ℕ) (words : List (List ℕ)) → ((t nth : ℕ) (addr : Option ℕ) → StepFits threads t nth addr → decimal t ∷ decimal nth ∷ address_words addr ≡ words → ⊥) → IsEntryOf threads (codes "step" ∷ words) None
only_steps threads words none (Start t op args) fit same = two_kinds _ _ refl same
only_steps threads words none (Step t nth addr) fit same = none t nth addr fit cc
only_steps threads words none (Return t) fit same = two_kinds _ _ refl same
only_steps threads words none Tick fit same = two_kinds _ _ refl same

-- words of a tick are those of no other entry
pub only_ticks : (threads : ℕ) (words : List (List ℕ)) → ([] ≡ words → ⊥) → IsEntryOf threads (codes "tick" ∷ words) None
only_ticks threads words none (Start t op args) fit same = two_kinds _ _ refl same
only_ticks threads words none (Step t nth addr) fit same = two_kinds _ _ refl same
only_ticks threads words none (Return t) fit same = two_kinds _ _ refl same
only_ticks threads words none Tick fit same = none cc
