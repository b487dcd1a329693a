-- What no page does, as laws about its constant texts. What a page holds beside them are numbers, and text in which no
-- byte begins a tag.
use Rattle.std.specs.Prelude.{◌≡◌, ◌||◌, ℕ, Bool, false, if◌then◌else◌, List, [], ◌∷◌, ◌++◌, codes, length, drop, map}
use Rattle.std.specs.Prelude.{nat_eq}
use Rattle.std.specs.Char.{eq_ignore_ascii_case}
use Rattle.std.specs.List.{list_any, starts_with}
use Rattle.plc_html.specs.declared.badges.Badge.{Badge}
use Rattle.plc_html.specs.declared.frame.TheConstants.{STYLE}
use Rattle.plc_html.specs.declared.tag.Tag.{Tag}
use Rattle.plc_html.specs.Badges.{row_of}
use Rattle.plc_html.specs.Frame.{beginning, ending, joined}
use Rattle.plc_html.specs.Tags.{tags, tag_text}

-- a text stands somewhere in another, in small letters or in capitals
abbrev pub holds : List ℕ → List ℕ → Bool
holds text [] = false
holds text (byte ∷ bytes) = starts_with eq_ignore_ascii_case (byte ∷ bytes) text || holds text bytes

-- one of these does
abbrev pub holds_one : List (List ℕ) → List ℕ → Bool
holds_one texts bytes = list_any (λ text. holds text bytes) texts

-- what runs: a script, and an attribute `on..` behind a blank of any kind, a quote or a slash
abbrev pub of_scripts : List (List ℕ)
of_scripts =
    codes "script"
    ∷ map (λ before. before ∷ codes "on") (9 ∷ 10 ∷ 12 ∷ 13 ∷ 32 ∷ 34 ∷ 39 ∷ 47 ∷ [])

-- attributes that fetch or lead elsewhere, and how an address begins
abbrev pub of_attributes : List (List ℕ)
of_attributes =
    codes "src" ∷ codes "href" ∷ codes "url" ∷ codes "action" ∷ codes "ping" ∷ codes "data=" ∷ codes "background="
    ∷ codes "poster" ∷ codes "manifest" ∷ codes "codebase" ∷ codes "http" ∷ []

-- elements that do
abbrev pub of_elements : List (List ℕ)
of_elements =
    codes "<link" ∷ codes "<base" ∷ codes "<img" ∷ codes "image" ∷ codes "<use" ∷ codes "frame" ∷ codes "<object"
    ∷ codes "<embed" ∷ codes "<applet" ∷ codes "<audio" ∷ codes "<video" ∷ codes "<form" ∷ codes "<input" ∷ []

-- what would fetch or run wherever it stands in markup
abbrev pub of_markup : List (List ℕ)
of_markup = of_scripts ++ of_attributes ++ of_elements

-- what would do so round the parts, or begin a comment
abbrev pub of_frames : List (List ℕ)
of_frames = codes "<!--" ∷ of_markup

-- what would do so in a tag, hide it by the name of a character, or be no part's
abbrev pub of_tags : List (List ℕ)
of_tags =
    codes "style" ∷ codes "badge" ∷ codes "answer" ∷ codes "meta" ∷ codes "!" ∷ codes "&" ∷ codes ":" ∷ of_markup

-- what would fetch in a style, hide it by the number of a character, or end the style
abbrev pub of_styles : List (List ℕ)
of_styles = codes "url" ∷ codes "src" ∷ codes "import" ∷ codes "image" ∷ codes "\\" ∷ codes "<" ∷ []

-- how a link to a place on the page itself begins
abbrev pub to_place : List ℕ
to_place = codes "<a href=\"#"

-- the text behind such a beginning, where there is one
abbrev pub unlinked : List ℕ → List ℕ
unlinked text = if starts_with nat_eq text to_place then drop (length to_place) text else text

-- the frame, each badge, the style and each tag have none of those; of a link to a place this is said of what follows
pub record NothingFetches : Type 0 where
  pub frame : list_any (holds_one of_frames) (joined (beginning [] []) ∷ joined (ending [] []) ∷ []) ≡ false
  pub badge : (badge : Badge) → holds_one of_frames (row_of badge) ≡ false
  pub style : holds_one of_styles STYLE.now ≡ false
  pub listed : list_any (holds_one of_tags) tags ≡ false
  pub numbered : (tag : Tag) → holds_one of_tags (unlinked (tag_text tag)) ≡ false
