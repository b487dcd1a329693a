-- The tags that stand in the parts of a page beside what the frame writes. What none of them holds stands in `Laws`.
use Rattle.std.specs.Prelude.{ℕ, Bool, if◌then◌else◌, List, [], ◌∷◌, ◌++◌, codes, decimal}
use Rattle.plc_html.specs.declared.tag.Tag.{Tag}
use Rattle.plc_html.specs.declared.tag.Tag.TheVariants.{LinkToLine, LinkToEntry, LinkToPoint, RowOfLine, RowOfLineHere}
use Rattle.plc_html.specs.declared.tag.Tag.TheVariants.{RowOfEntry, DetailsOfPoint, Svg, Frame, Rule, NameAt, FieldAt}
use Rattle.plc_html.specs.declared.tag.Tag.TheVariants.{Straight, Around, HeadRight, HeadUp}

-- those without numbers
unfoldable pub tags : List (List ℕ)
tags =
    codes "</a>" ∷ codes "<b>" ∷ codes "</b>" ∷ codes "<br>" ∷ codes "<code>" ∷ codes "</code>"
    ∷ codes "<details>" ∷ codes "<details open>" ∷ codes "</details>" ∷ codes "<summary>" ∷ codes "</summary>"
    ∷ codes "<div>" ∷ codes "<div class=\"pair\">" ∷ codes "<div class=\"wide\">" ∷ codes "</div>"
    ∷ codes "<h2>" ∷ codes "<h2 id=\"file\">" ∷ codes "<h2 id=\"points\">" ∷ codes "<h2 id=\"run\">" ∷ codes "</h2>"
    ∷ codes "<h3>" ∷ codes "</h3>" ∷ codes "<h4>" ∷ codes "</h4>"
    ∷ codes "<ul>" ∷ codes "</ul>" ∷ codes "<li>" ∷ codes "</li>"
    ∷ codes "<p>" ∷ codes "<p class=\"legend\">" ∷ codes "<p class=\"nulls\">" ∷ codes "</p>"
    ∷ codes "<pre>" ∷ codes "</pre>" ∷ codes "<span class=\"changed\">" ∷ codes "</span>"
    ∷ codes "<table>" ∷ codes "<table class=\"listing\">" ∷ codes "<table class=\"picture\">" ∷ codes "</table>"
    ∷ codes "<tr>" ∷ codes "</tr>" ∷ codes "<th>" ∷ codes "</th>"
    ∷ codes "<td>" ∷ codes "<td class=\"steps\">" ∷ codes "</td>"
    ∷ codes "</svg>" ∷ codes "</text>" ∷ []

-- texts, each with a number behind it, and the last text
abbrev pub between : List (List ℕ × ℕ) → List ℕ → List ℕ
between [] end = end
between (part ∷ parts) end = part.0 ++ decimal part.1 ++ between parts end

-- how a text in a box begins, the line of an arrow, and its head, each with a second class where it changed
abbrev pub name_text : Bool → List ℕ
name_text changed =
    if changed then codes "<text class=\"head changed\" x=\"" else codes "<text class=\"head\" x=\""

abbrev pub field_text : Bool → List ℕ
field_text changed =
    if changed then codes "<text class=\"row changed\" x=\"" else codes "<text class=\"row\" x=\""

abbrev pub arrow_text : Bool → List ℕ
arrow_text changed =
    if changed then codes "<path class=\"arrow changed\" fill=\"none\" stroke=\"currentColor\" d=\"M"
    else codes "<path class=\"arrow\" fill=\"none\" stroke=\"currentColor\" d=\"M"

abbrev pub head_text : Bool → List ℕ
head_text changed =
    if changed then codes "<path class=\"arrowhead changed\" d=\"M" else codes "<path class=\"arrowhead\" d=\"M"

-- those with numbers: texts, each with a number behind it, and the last text
abbrev pub tag_parts : Tag → List (List ℕ × ℕ) × List ℕ
tag_parts (LinkToLine number) = ((codes "<a href=\"#L", number) ∷ [], codes "\">")
tag_parts (LinkToEntry number) = ((codes "<a href=\"#S", number) ∷ [], codes "\">")
tag_parts (LinkToPoint number) = ((codes "<a href=\"#p", number) ∷ [], codes "\">")
tag_parts (RowOfLine number) = ((codes "<tr id=\"L", number) ∷ [], codes "\">")
tag_parts (RowOfLineHere number) = ((codes "<tr class=\"here\" id=\"L", number) ∷ [], codes "\">")
tag_parts (RowOfEntry number) = ((codes "<tr id=\"S", number) ∷ [], codes "\">")
tag_parts (DetailsOfPoint number) = ((codes "<details id=\"p", number) ∷ [], codes "\">")
tag_parts (Svg width height) = (
  (codes "<svg class=\"picture\" fill=\"currentColor\" width=\"", width)
      ∷ (codes "\" height=\"", height) ∷ (codes "\" viewBox=\"0 0 ", width) ∷ (codes " ", height) ∷ [],
  codes "\">",
)
tag_parts (Frame at width height) = (
  (codes "<rect class=\"box\" x=\"", at.across) ∷ (codes "\" y=\"", at.down)
      ∷ (codes "\" width=\"", width) ∷ (codes "\" height=\"", height) ∷ [],
  codes "\" fill=\"none\" stroke=\"currentColor\"/>",
)
tag_parts (Rule at right) = (
  (codes "<path class=\"box\" d=\"M", at.across) ∷ (codes " ", at.down) ∷ (codes "H", right) ∷ [],
  codes "\" fill=\"none\" stroke=\"currentColor\"/>",
)
tag_parts (NameAt at changed) =
    ((name_text changed, at.across) ∷ (codes "\" y=\"", at.down) ∷ [], codes "\">")
tag_parts (FieldAt at changed) =
    ((field_text changed, at.across) ∷ (codes "\" y=\"", at.down) ∷ [], codes "\">")
tag_parts (Straight at right changed) =
    ((arrow_text changed, at.across) ∷ (codes " ", at.down) ∷ (codes "H", right) ∷ [], codes "\"/>")
tag_parts (Around by changed) = (
  (arrow_text changed, by.from.across) ∷ (codes " ", by.from.down) ∷ (codes "H", by.right) ∷ (codes "V", by.lane)
      ∷ (codes "H", by.to.across) ∷ (codes "V", by.to.down) ∷ [],
  codes "\"/>",
)
tag_parts (HeadRight at changed) =
    ((head_text changed, at.across) ∷ (codes " ", at.down) ∷ [], codes "l-8 -4v8z\"/>")
tag_parts (HeadUp at changed) =
    ((head_text changed, at.across) ∷ (codes " ", at.down) ∷ [], codes "l-4 8h8z\"/>")

-- the text of such a tag
abbrev pub tag_text : Tag → List ℕ
tag_text tag = between (tag_parts tag).0 (tag_parts tag).1
