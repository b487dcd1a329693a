-- A page, byte for byte but for its two parts.
use Rattle.std.specs.Prelude.{◌≡◌, ℕ, List, [], ◌∷◌, ◌++◌, codes}
use Rattle.plc_html.specs.declared.frame.TheConstants.{STYLE}
use Rattle.plc_html.specs.Badges.{badge_row}
use Rattle.plc_html.specs.Escaping.{escaped}
use Rattle.plc_html.specs.Fragments.{IsFragment}

-- texts one after another
abbrev pub joined : List (List ℕ) → List ℕ
joined [] = []
joined (text ∷ texts) = text ++ joined texts

-- what stands before both parts: the head with the title and the style, the heading, and the row with the badge
unfoldable pub beginning : List ℕ → List ℕ → List (List ℕ)
beginning title row =
    codes "<!DOCTYPE html>\n<html lang=\"en\">\n<head>\n<meta charset=\"utf-8\">\n"
    ∷ codes "<meta name=\"viewport\" content=\"width=device-width, initial-scale=1\">\n<title>"
    ∷ title ∷ codes "</title>\n<style>\n" ∷ STYLE.now ∷ codes "</style>\n</head>\n<body>\n<h1>"
    ∷ title ∷ codes "</h1>\n" ∷ row ∷ []

-- the answer's element, what may follow it, and the end
unfoldable pub ending : List ℕ → List ℕ → List (List ℕ)
ending answer part =
    codes "<details id=\"answer\"><summary>The answer in full</summary>\n<pre class=\"answer\">"
    ∷ answer ∷ codes "</pre>\n</details>\n" ∷ part ∷ codes "</body>\n</html>\n" ∷ []

-- the page of a title, a status with its answer, and two parts
abbrev pub framed : List ℕ → ℕ → List ℕ → List ℕ → List ℕ → List ℕ
framed title status answer first second =
    joined (beginning (escaped title) (badge_row status answer)) ++ first ++ joined (ending (escaped answer) second)

-- a page that shows an answer with its status under a title; what else stands on it are two fragments
pub record IsPage (title : List ℕ) (status : ℕ) (answer page : List ℕ) : Type 0 where
  pub first : List ℕ
  pub second : List ℕ
  pub listed : IsFragment first
  pub listed_after : IsFragment second
  pub is : page ≡ framed title status answer first second
