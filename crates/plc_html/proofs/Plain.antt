-- In what stands for a byte, and so in what stands for a text, no byte is markup; and fragments, one after another, are
-- a fragment.
use native.Mathlib.Omega.{arith}
use Rattle.std.proofs.Common.{◌≡◌, ◌++◌, ℕ, Bool, true, false, List, [], ◌∷◌, Some, suc, drop, refl, sym, subst₂, append-nil}
use Rattle.std.specs.Prelude.{Contains, if◌then◌else◌, nat_eq}
use Rattle.std.specs.List.{flat_map, list_any, starts_with}
use Rattle.std.proofs.lemmas.Grind.{flat_map-append}
use Rattle.std.proofs.lemmas.List.Elements.{All-append, All-cons, All-nil}
use Rattle.plc_html.specs.Escaping.{escaped, escaped_byte, is_markup}
use Rattle.plc_html.specs.Fragments.{Piece, IsListed, spelled, IsFragment, listed_tag}
use Rattle.plc_html.specs.Tags.{tags}

byte_is_plain : (b : ℕ) → list_any is_markup (escaped_byte b) ≡ false
byte_is_plain b = grind arith

pub text_is_plain : (bytes : List ℕ) → list_any is_markup (escaped bytes) ≡ false
text_is_plain [] = refl
text_is_plain (b ∷ bs) = grind (arith, byte_is_plain b, text_is_plain bs)

pub nothing_is_fragment : IsFragment []
nothing_is_fragment = record { pieces = []; listed = All-nil IsListed; are = refl }

pub joined : (a b : List ℕ) → IsFragment a → IsFragment b → IsFragment (a ++ b)
joined a b f g = record {
  pieces = f.pieces ++ g.pieces;
  listed = All-append IsListed f.pieces g.pieces f.listed g.listed;
  are =
      subst₂ (λ (x y : List ℕ). x ++ y ≡ flat_map spelled (f.pieces ++ g.pieces)) (sym f.are) (sym g.are)
      (sym (flat_map-append spelled f.pieces g.pieces));
}

pub piece_is_fragment : (piece : Piece) → IsListed piece → IsFragment (spelled piece)
piece_is_fragment piece listed = record {
  pieces = piece ∷ [];
  listed = All-cons IsListed piece [] listed (All-nil IsListed);
  are = sym (append-nil (spelled piece));
}

-- a tag that is found in a table is one of it
found_in : (table : List (List ℕ)) (text tag : List ℕ) → listed_tag table text ≡ Some tag → Contains table tag
found_in [] text tag e = absurd cc
found_in (first ∷ more) text tag e = go (starts_with nat_eq text (drop 1 first)) (λ f. found_in more text tag f) e
  where
    go : (b : Bool) → (listed_tag more text ≡ Some tag → Contains more tag)
        → (if b then Some first else listed_tag more text) ≡ Some tag → Contains (first ∷ more) tag
    go true later e = (0, omega arith, cc)
    go false later e =
        let there = later e in
        (suc there.0, omega (arith, there.1), there.2)

pub among : (text tag : List ℕ) → listed_tag tags text ≡ Some tag → Contains tags tag
among text tag e = found_in tags text tag e
