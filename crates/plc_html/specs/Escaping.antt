-- Text in a page: each byte that could begin or end markup stands as its name.
use Rattle.std.specs.Prelude.{◌==◌, ◌||◌, ◌&&◌, ℕ, Bool, not, if◌then◌else◌, List, [], ◌∷◌, codes, nat_lt}
use Rattle.std.specs.List.{flat_map}

-- a byte that is no character of a text: one below the space, but the tab and the line feed, or the last one of ASCII
abbrev pub is_control : ℕ → Bool
is_control b = (nat_lt b 32 && not ((b == 9) || (b == 10))) || (b == 127)

-- what stands for a byte
abbrev pub escaped_byte : ℕ → List ℕ
escaped_byte b =
    if b == 38 then codes "&amp;" else
    if b == 60 then codes "&lt;" else
    if b == 62 then codes "&gt;" else
    if b == 34 then codes "&quot;" else
    if b == 39 then codes "&#39;" else
    if is_control b then codes "?" else b ∷ []

-- what stands for a text
abbrev pub escaped : List ℕ → List ℕ
escaped bytes = flat_map escaped_byte bytes

-- a byte that begins or ends a tag or a quoted value
abbrev pub is_markup : ℕ → Bool
is_markup b = (b == 60) || ((b == 62) || ((b == 34) || (b == 39)))
