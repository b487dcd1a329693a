-- A text spells one list of tokens, or stops at one place: what comes next is a function of the bytes.
use Rattle.std.proofs.Common.{◌≡◌, ℕ, ◌+◌, Bool, true, false, List, [], ◌∷◌, drop, Result, Ok, Err, sym, refl, ap, ◌∙◌}
use Rattle.std.proofs.Common.{subst, eqb-true}
use Rattle.std.proofs.lemmas.Bool.{and_parts}
use Rattle.plc_lex.specs.declared.token.Token.{Token}
use Rattle.plc_lex.specs.declared.token.TokenKind.{TokenKind}
use Rattle.plc_lex.specs.Characters.{is_space}
use Rattle.plc_lex.specs.declared.fault.LexFault.{LexFault}
use Rattle.plc_lex.specs.declared.fault.LexFault.TheVariants.{BadByte, LongName, BadNumber, Memory}
use Rattle.plc_lex.specs.Refused.{StopsWith}
use Rattle.plc_lex.specs.Spelling.{Refusal, bad_byte, long_name, bad_number, token_at, is_blank, is_comment}
use Rattle.plc_lex.specs.Spelling.{comment_length, next_line, token_from, Spells, at_end, after_space, after_comment}
use Rattle.plc_lex.specs.Spelling.{token}
use Rattle.plc_lex.specs.Stops.{Stops, here, past_space, past_comment, past_token}

-- what stands at the front: the end, so many bytes up to a line, or a token or its refusal on a line
data Next : Type 0 where
  ending : Next
  blank : ℕ → ℕ → Next
  piece : ℕ → Result (TokenKind × ℕ) Refusal → Next

abbrev pick : Bool → Bool → Next → Next → Next → Next
pick true c x y z = x
pick false true x y z = y
pick false false x y z = z

next : ℕ → List ℕ → Next
next line [] = ending
next line (b ∷ bs) = pick (is_space b) (is_comment (b ∷ bs)) (blank 1 (next_line line b)) (blank (comment_length (b ∷ bs)) line) (piece line (token_at (b ∷ bs)))

next_end : (line : ℕ) → next line [] ≡ ending
unfolding next
next_end line = refl

next_space : (line b : ℕ) (bs : List ℕ) → is_space b ≡ true → next line (b ∷ bs) ≡ blank 1 (next_line line b)
unfolding next
next_space line b bs e = ap (λ s. pick s (is_comment (b ∷ bs)) (blank 1 (next_line line b)) (blank (comment_length (b ∷ bs)) line) (piece line (token_at (b ∷ bs)))) e

next_comment : (line : ℕ) (bs : List ℕ) → is_comment bs ≡ true → next line bs ≡ blank (comment_length bs) line
unfolding next
next_comment line [] e = absurd cc
next_comment line (b ∷ bs) e =
    let slash : 47 ≡ b = eqb-true 47 b (and_parts _ _ e).0 in
    let space : is_space b ≡ false = rw (← slash) refl in
    rw (space, e) refl

next_token : (line : ℕ) (bs : List ℕ) (kind : TokenKind) (n : ℕ) → is_blank bs ≡ false → is_comment bs ≡ false → token_at bs ≡ Ok (kind, n) → next line bs ≡ piece line (Ok (kind, n))
unfolding next
next_token line [] kind n space comment e = absurd cc
next_token line (b ∷ bs) kind n space comment e = rw (space, comment) (ap (piece line) e)

next_fault : (line b : ℕ) (bs : List ℕ) (why : Refusal) → is_space b ≡ false → is_comment (b ∷ bs) ≡ false → token_at (b ∷ bs) ≡ Err why → next line (b ∷ bs) ≡ piece line (Err why)
unfolding next
next_fault line b bs why space comment e = rw (space, comment) (ap (piece line) e)

-- what is spelled from the front on, by what comes next
abbrev Spelled : ℕ → List ℕ → List Token → Next → Type 0
Spelled at bs ts ending = ts ≡ []
Spelled at bs ts (blank n line) = Spells (at + n) line (drop n bs) ts
Spelled at bs ts (piece line (Ok t)) = (us : List Token) × (ts ≡ token_from at line t.0 t.1 ∷ us) × Spells (at + t.1) line (drop t.1 bs) us
Spelled at bs ts (piece line (Err why)) = ⊥

-- where the text stops, by what comes next
abbrev Stopped : ℕ → List ℕ → Refusal → ℕ → Next → Type 0
Stopped at bs why place ending = ⊥
Stopped at bs why place (blank n line) = Stops (at + n) (drop n bs) why place
Stopped at bs why place (piece line (Ok t)) = Stops (at + t.1) (drop t.1 bs) why place
Stopped at bs why place (piece line (Err w)) = (w ≡ why) × (at ≡ place)

spelled : (at line : ℕ) (bs : List ℕ) (ts : List Token) → Spells at line bs ts → Spelled at bs ts (next line bs)
spelled _ _ _ _ (at_end at line) = subst (Spelled at [] []) (sym (next_end line)) refl
spelled _ _ _ _ (after_space at line b bs ts e s) = subst (Spelled at (b ∷ bs) ts) (sym (next_space line b bs e)) s
spelled _ _ _ _ (after_comment at line bs ts e s) = subst (Spelled at bs ts) (sym (next_comment line bs e)) s
spelled _ _ _ _ (token at line n bs kind ts space comment e s) = subst (Spelled at bs (token_from at line kind n ∷ ts)) (sym (next_token line bs kind n space comment e)) (ts, refl, s)

stopped : (at line : ℕ) (bs : List ℕ) (why : Refusal) (place : ℕ) → Stops at bs why place → Stopped at bs why place (next line bs)
stopped _ line _ _ _ (here at b bs why space comment e) = subst (Stopped at (b ∷ bs) why at) (sym (next_fault line b bs why space comment e)) (refl, refl)
stopped _ line _ _ _ (past_space at b place bs why e s) = subst (Stopped at (b ∷ bs) why place) (sym (next_space line b bs e)) s
stopped _ line _ _ _ (past_comment at place bs why e s) = subst (Stopped at bs why place) (sym (next_comment line bs e)) s
stopped _ line _ _ _ (past_token at n place bs kind why space comment e s) = subst (Stopped at bs why place) (sym (next_token line bs kind n space comment e)) s

pub same_tokens : (at line : ℕ) (bs : List ℕ) (ts us : List Token) → Spells at line bs ts → Spells at line bs us → ts ≡ us
same_tokens _ _ _ _ us (at_end at line) t = sym (subst (Spelled at [] us) (next_end line) (spelled at line [] us t))
same_tokens _ _ _ _ us (after_space at line b bs ts e s) t = same_tokens _ _ _ _ us s (subst (Spelled at (b ∷ bs) us) (next_space line b bs e) (spelled at line (b ∷ bs) us t))
same_tokens _ _ _ _ us (after_comment at line bs ts e s) t = same_tokens _ _ _ _ us s (subst (Spelled at bs us) (next_comment line bs e) (spelled at line bs us t))
same_tokens _ _ _ _ us (token at line n bs kind ts space comment e s) t =
    let more = subst (Spelled at bs us) (next_token line bs kind n space comment e) (spelled at line bs us t) in
    ap (λ vs. token_from at line kind n ∷ vs) (same_tokens _ _ _ _ more.0 s more.2) ∙ sym more.1

pub same_place : (at : ℕ) (bs : List ℕ) (why other : Refusal) (p q : ℕ) → Stops at bs why p → Stops at bs other q → (why ≡ other) × (p ≡ q)
same_place _ _ _ other _ q (here at b bs why space comment e) t = subst (Stopped at (b ∷ bs) other q) (next_fault 1 b bs why space comment e) (stopped at 1 (b ∷ bs) other q t)
same_place _ _ _ other _ q (past_space at b place bs why e s) t = same_place _ _ _ other _ q s (subst (Stopped at (b ∷ bs) other q) (next_space 1 b bs e) (stopped at 1 (b ∷ bs) other q t))
same_place _ _ _ other _ q (past_comment at place bs why e s) t = same_place _ _ _ other _ q s (subst (Stopped at bs other q) (next_comment 1 bs e) (stopped at 1 bs other q t))
same_place _ _ _ other _ q (past_token at n place bs kind why space comment e s) t = same_place _ _ _ other _ q s (subst (Stopped at bs other q) (next_token 1 bs kind n space comment e) (stopped at 1 bs other q t))

pub not_both : (at line : ℕ) (bs : List ℕ) (ts : List Token) (why : Refusal) (p : ℕ) → Spells at line bs ts → Stops at bs why p → ⊥
not_both _ _ _ _ why p (at_end at line) t = subst (Stopped at [] why p) (next_end line) (stopped at line [] why p t)
not_both _ _ _ _ why p (after_space at line b bs ts e s) t = not_both _ _ _ _ why p s (subst (Stopped at (b ∷ bs) why p) (next_space line b bs e) (stopped at line (b ∷ bs) why p t))
not_both _ _ _ _ why p (after_comment at line bs ts e s) t = not_both _ _ _ _ why p s (subst (Stopped at bs why p) (next_comment line bs e) (stopped at line bs why p t))
not_both _ _ _ _ why p (token at line n bs kind ts space comment e s) t = not_both _ _ _ _ why p s (subst (Stopped at bs why p) (next_token line bs kind n space comment e) (stopped at line bs why p t))

-- a text that spells tokens is refused for running out of memory alone
pub memory_alone : (bytes : List ℕ) (ts : List Token) (fault : LexFault) → Spells 0 1 bytes ts → StopsWith 0 bytes fault → fault ≡ Memory
memory_alone bytes ts (BadByte place) s t = absurd (not_both 0 1 bytes ts bad_byte place s t)
memory_alone bytes ts (LongName place) s t = absurd (not_both 0 1 bytes ts long_name place s t)
memory_alone bytes ts (BadNumber place) s t = absurd (not_both 0 1 bytes ts bad_number place s t)
memory_alone bytes ts Memory s t = refl
