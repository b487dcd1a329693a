-- What may stand in the parts of a page: listed tags, and text in which no byte is markup.
use Rattle.std.specs.Prelude.{◌≡◌, ℕ, ◌-◌, ◌==◌, if◌then◌else◌, List, [], ◌∷◌, ◌++◌, length, drop, decimal, nat_eq}
use Rattle.std.specs.Prelude.{Option, None, Some, All, Contains}
use Rattle.std.specs.List.{flat_map, starts_with, slice_split}
use Rattle.plc_html.specs.declared.tag.Tag.{Tag}
use Rattle.plc_html.specs.Escaping.{escaped, escaped_byte}
use Rattle.plc_html.specs.Tags.{tags, tag_text}

-- a byte of text, a number, a tag, and a tag with numbers
pub data Piece : Type 0 where
  Byte : ℕ → Piece
  Number : ℕ → Piece
  Plain : List ℕ → Piece
  Numbered : Tag → Piece

-- a tag without numbers is one of the list
abbrev pub IsListed : Piece → Type 0
IsListed (Byte byte) = Unit {0}
IsListed (Number number) = Unit {0}
IsListed (Plain tag) = Contains tags tag
IsListed (Numbered tag) = Unit {0}

-- its bytes
abbrev pub spelled : Piece → List ℕ
spelled (Byte byte) = escaped_byte byte
spelled (Number number) = decimal number
spelled (Plain tag) = tag
spelled (Numbered tag) = tag_text tag

-- these bytes are such pieces one after another
pub record IsFragment (bytes : List ℕ) : Type 0 where
  pub pieces : List Piece
  pub listed : All IsListed pieces
  pub are : bytes ≡ flat_map spelled pieces

-- ---- markup as it stands in the program

-- the tag of a table that begins at a `<` which is followed by this text
abbrev pub listed_tag : List (List ℕ) → List ℕ → Option (List ℕ)
listed_tag [] text = None
listed_tag (tag ∷ more) text = if starts_with nat_eq text (drop 1 tag) then Some tag else listed_tag more text

-- a tag and the text behind it; without a tag the `<` is text
abbrev pub tag_and_text : Option (List ℕ) → List ℕ → List ℕ
tag_and_text None text = escaped (60 ∷ []) ++ escaped text
tag_and_text (Some tag) text = tag ++ escaped (drop (length tag - 1) text)

-- what stands for a `<` and the text behind it, up to the next one
abbrev pub marked_part : List ℕ → List ℕ
marked_part text = tag_and_text (listed_tag tags text) text

-- text before the first `<`, and what each begins
abbrev pub marked_parts : List (List ℕ) → List ℕ
marked_parts [] = []
marked_parts (text ∷ parts) = escaped text ++ flat_map marked_part parts

-- what stands for markup: each listed tag as it is, and all else as text
abbrev pub marked : List ℕ → List ℕ
marked piece = marked_parts (slice_split (λ byte. byte == 60) piece)
