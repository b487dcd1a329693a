-- A sample has as many lines as are said, one fewer where one is left out.
use Rattle.std.proofs.Common.{◌≡◌, ◌≤◌, ◌<◌, ◌*◌, ◌+◌, ◌^◌, ◌%◌, ◌==◌, ℕ, suc, zero, Bool, true, false, cond, List, []}
use Rattle.std.proofs.Common.{◌∷◌, ◌++◌, refl, arith}
use Rattle.std.specs.Fmt.{decimal}
use Rattle.std.proofs.lemmas.Bool.{eqb-true, eqb-false, ne_eqb}
use Rattle.std.proofs.lemmas.Fmt.{decimal_by_steps}
use Rattle.std.proofs.lemmas.List.Sums.{sum_by-cons, sum_by-append}
use Rattle.plc_base.specs.Bounds.{most_copies}
use Rattle.plc_sample.specs.Numbers.{sample_lines}
use Rattle.plc_sample.specs.Sample.{declarations, operations, invariants, clauses, ending, numbered_byte, numbered}
use Rattle.plc_sample.specs.Sample.{copies, whole_text, kept_byte, without_from, sample_text, lines_out}
use Rattle.plc_lex.specs.Spelling.{next_line}
use Rattle.plc_lex.specs.Stops.{line_feeds}

-- ---- line feeds one by one

-- so many lines a byte ends
abbrev ended : ℕ → ℕ
ended byte = cond (byte == 10) 1 0

feeds_after : (byte : ℕ) (more : List ℕ) → line_feeds (byte ∷ more) ≡ ended byte + line_feeds more
feeds_after byte more = sum_by-cons ended byte more

feeds_together : (text more : List ℕ) → line_feeds (text ++ more) ≡ line_feeds text + line_feeds more
feeds_together text more = sum_by-append ended text more

-- a byte above that of a line feed ends none
none_ended : (byte : ℕ) → 10 < byte → ended byte ≡ 0
none_ended byte above = rw (ne_eqb byte 10 (λ e. omega (arith, above, e))) refl

ended_few : (byte : ℕ) → ended byte ≤ 1
ended_few byte = go (byte == 10)
  where
    go : (b : Bool) → cond b 1 0 ≤ 1
    go true = omega arith
    go false = omega arith

line_counted : (line byte : ℕ) → next_line line byte ≡ line + ended byte
line_counted line byte = go (byte == 10) refl
  where
    go : (b : Bool) → (byte == 10) ≡ b → next_line line byte ≡ line + ended byte
    go true e = rw e refl
    go false e = rw e (omega arith)

-- ---- a copy

digit_feeds_none : (n : ℕ) → line_feeds ((48 + n) ∷ []) ≡ 0
digit_feeds_none n = omega (arith, feeds_after (48 + n) [], none_ended (48 + n) (omega arith))

number_feeds_none : (number : ℕ) → number < 2 ^ 64 → line_feeds (decimal number) ≡ 0
number_feeds_none = decimal_by_steps (λ n digits. line_feeds digits ≡ 0) (λ n small. digit_feeds_none n)
    (λ n digits large before. omega (arith, feeds_together digits ((48 + n % 10) ∷ []), before, digit_feeds_none (n % 10)))

byte_feeds : (number byte : ℕ) → number ≤ most_copies → line_feeds (numbered_byte number byte) ≡ ended byte
byte_feeds number byte few = go (byte == 35) refl
  where
    go : (b : Bool) → (byte == 35) ≡ b → line_feeds (numbered_byte number byte) ≡ ended byte
    go true e = rw e (omega (arith, number_feeds_none number (omega (arith, few)), none_ended byte (omega (arith, eqb-true byte 35 e))))
    go false e = rw e (omega (arith, feeds_after byte []))

numbered_feeds : (number : ℕ) (part : List ℕ) → number ≤ most_copies → line_feeds (numbered number part) ≡ line_feeds part
numbered_feeds number [] few = refl
numbered_feeds number (byte ∷ more) few =
    omega (
      arith,
      feeds_together (numbered_byte number byte) (numbered number more),
      byte_feeds number byte few,
      numbered_feeds number more few,
      feeds_after byte more,
    )

copies_feed : (k lines : ℕ) (part : List ℕ) → k ≤ most_copies → line_feeds part ≡ lines → line_feeds (copies k part) ≡ k * lines
copies_feed zero lines part few has = omega arith
copies_feed (suc k) lines part few has =
    omega (
      arith,
      feeds_together (copies k part) (numbered (suc k) part),
      copies_feed k lines part (omega (arith, few)) has,
      numbered_feeds (suc k) part few,
      has,
    )

-- ---- the parts

-- so many lines stand in the declarations, the operations, the invariants, the clauses and the ending
lines_of_parts : (line_feeds declarations ≡ 6) × (line_feeds operations ≡ 35) × (line_feeds invariants ≡ 6)
    × (line_feeds clauses ≡ 9) × (line_feeds ending ≡ 1)
unfolding declarations operations invariants clauses ending
lines_of_parts = (refl, refl, refl, refl, refl)

whole_feeds : (k : ℕ) → k ≤ most_copies → line_feeds (whole_text k) ≡ sample_lines k
whole_feeds k few =
    omega (
      arith,
      feeds_together (declarations ++ copies k operations ++ invariants ++ copies k clauses) ending,
      feeds_together (declarations ++ copies k operations ++ invariants) (copies k clauses),
      feeds_together (declarations ++ copies k operations) invariants,
      feeds_together declarations (copies k operations),
      copies_feed k 35 operations few lines_of_parts.1,
      copies_feed k 9 clauses few lines_of_parts.3,
      lines_of_parts.0,
      lines_of_parts.2,
      lines_of_parts.4,
    )

-- ---- a line left out

-- each line but the one that is left out is kept
kept_feeds : (without line byte : ℕ) (b : Bool) → (line == without) ≡ b → line_feeds (kept_byte without line byte) ≡ cond b 0 (ended byte)
kept_feeds without line byte true e = rw e refl
kept_feeds without line byte false e = rw e (omega (arith, feeds_after byte []))

-- after the line that is left out
passed : (without line : ℕ) (text : List ℕ) → without < line → line_feeds (without_from without line text) ≡ line_feeds text
passed without line [] after = refl
passed without line (byte ∷ more) after =
    omega (
      arith,
      feeds_together (kept_byte without line byte) (without_from without (next_line line byte) more),
      kept_feeds without line byte false (ne_eqb line without (λ e. omega (arith, after, e))),
      passed without (next_line line byte) more (omega (arith, after, line_counted line byte)),
      feeds_after byte more,
    )

left_out : (without line : ℕ) (text : List ℕ) → line ≤ without → without < line + line_feeds text → line_feeds (without_from without line text) + 1 ≡ line_feeds text
left_out without line [] before within = absurd (omega (arith, before, within))
left_out without line (byte ∷ more) before within =
    go (λ still. left_out without (next_line line byte) more still (omega (arith, within, line_counted line byte, feeds_after byte more)))
    (line == without) (byte == 10) refl refl
  where
    rest : List ℕ
    rest = without_from without (next_line line byte) more

    both : line_feeds (without_from without line (byte ∷ more)) ≡ line_feeds (kept_byte without line byte) + line_feeds rest
    both = feeds_together (kept_byte without line byte) rest

    go : (next_line line byte ≤ without → line_feeds rest + 1 ≡ line_feeds more) → (here ends : Bool) → (line == without) ≡ here → (byte == 10) ≡ ends → line_feeds (without_from without line (byte ∷ more)) + 1 ≡ line_feeds (byte ∷ more)
    go later true true e f =
        let one : ended byte ≡ 1 = rw f refl in
        let over = passed without (next_line line byte) more (omega (arith, eqb-true line without e, line_counted line byte, one)) in
        omega (arith, both, kept_feeds without line byte true e, over, one, feeds_after byte more)
    go later true false e f =
        let none : ended byte ≡ 0 = rw f refl in
        let still = later (omega (arith, before, line_counted line byte, none)) in
        omega (arith, both, kept_feeds without line byte true e, still, none, feeds_after byte more)
    go later false ends e f =
        let few : ended byte ≤ 1 = ended_few byte in
        let apart = eqb-false line without e in
        let still = later (omega (arith, before, apart, few, line_counted line byte)) in
        omega (arith, both, kept_feeds without line byte false e, still, feeds_after byte more)

pub lines_kept : (k n : ℕ) (text : List ℕ) → k ≤ most_copies → n ≤ sample_lines k → text ≡ sample_text k n → line_feeds text + lines_out n ≡ sample_lines k
lines_kept k zero text few within is = rw is (omega (arith, passed 0 1 (whole_text k) (omega arith), whole_feeds k few))
lines_kept k (suc n) text few within is =
    let all = whole_feeds k few in
    rw is (omega (arith, left_out (suc n) 1 (whole_text k) (omega arith) (omega (arith, within, all)), all))
