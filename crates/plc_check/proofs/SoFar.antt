-- What is known in the middle of a walk over a list: what was handed out so far keeps a property.
use Rattle.std.proofs.Common.{◌≡◌, List, [], ◌∷◌, ◌++◌, length, refl, sym, ap, ◌∙◌, subst, arith}
use Rattle.std.specs.Prelude.{All, Contains}
use Rattle.std.proofs.lemmas.List.{append_assoc, append-nil, length-append}
use Rattle.std.proofs.Math.Seq.{get_or-append_seam}
use Rattle.std.proofs.lemmas.List.Elements.{All-nil, All-push}

-- of the whole list these are left, and each before them keeps it
pub record SoFar {A : Type 0} (P : A → Type 0) (whole left : List A) : Type 0 where
  pub before : List A
  pub listed : whole ≡ before ++ left
  pub kept : All P before

-- one more was handed out of those that were left
pub listed_more : {A : Type 0} (whole before left new : List A) (x : A) → whole ≡ before ++ left → left ≡ x ∷ new → whole ≡ (before ++ x ∷ []) ++ new
listed_more {A} whole before left new x listed e = listed ∙ ap (λ (ys : List A). before ++ ys) e ∙ sym (append_assoc before (x ∷ []) new)

-- what is handed out is in the list
pub is_listed : {A : Type 0} (whole before left new : List A) (x : A) → whole ≡ before ++ left → left ≡ x ∷ new → Contains whole x
is_listed {A} whole before left new x listed e =
    let split : whole ≡ before ++ x ∷ new = listed ∙ ap (λ (ys : List A). before ++ ys) e in
    subst (λ (ys : List A). Contains ys x) (sym split)
    (length before, omega (arith, length-append before (x ∷ new)), get_or-append_seam before x new x)

-- where none is left, those that were handed out are all
pub listed_all : {A : Type 0} (whole before left : List A) → whole ≡ before ++ left → left ≡ [] → whole ≡ before
listed_all {A} whole before left listed e = listed ∙ ap (λ (ys : List A). before ++ ys) e ∙ append-nil before

module _ {A : Type 0} (P : A → Type 0) (whole : List A) where
  pub begun : SoFar P whole whole
  begun = record { before = []; listed = refl; kept = All-nil P }

  pub advanced : (left new : List A) (x : A) → SoFar P whole left → left ≡ x ∷ new → P x → SoFar P whole new
  advanced left new x s e p = record {
    before = s.before ++ x ∷ [];
    listed = listed_more whole s.before left new x s.listed e;
    kept = All-push P s.before x s.kept p;
  }
