-- No tag with numbers fetches, whatever the numbers are, and no badge does.
use Rattle.std.proofs.Common.{◌≡◌, ℕ, true, false, List, [], ◌∷◌, refl}
use Rattle.std.specs.Prelude.{codes}
use Rattle.std.specs.List.{list_any}
use Rattle.plc_html.specs.declared.badges.Badge.{Badge}
use Rattle.plc_html.specs.declared.badges.Badge.TheVariants.{Safe, Ended, Untyped, Unproved, Race, Impossible}
use Rattle.plc_html.specs.declared.badges.Badge.TheVariants.{Forbidden, Refused, Other}
use Rattle.plc_html.specs.declared.tag.Tag.{Tag}
use Rattle.plc_html.specs.declared.tag.Tag.TheVariants.{LinkToLine, LinkToEntry, LinkToPoint, RowOfLine, RowOfLineHere}
use Rattle.plc_html.specs.declared.tag.Tag.TheVariants.{RowOfEntry, DetailsOfPoint, Svg, Frame, Rule, NameAt, FieldAt}
use Rattle.plc_html.specs.declared.tag.Tag.TheVariants.{Straight, Around, HeadRight, HeadUp}
use Rattle.plc_html.specs.Badges.{row_of}
use Rattle.plc_html.specs.Laws.{holds_one, of_frames, of_tags, unlinked}
use Rattle.plc_html.specs.Tags.{between, tag_parts, tag_text}
use Rattle.plc_html.proofs.Digits.{all_between}

pub badges_fetch_nothing : (badge : Badge) → holds_one of_frames (row_of badge) ≡ false
badges_fetch_nothing Safe = refl
badges_fetch_nothing Ended = refl
badges_fetch_nothing Untyped = refl
badges_fetch_nothing Unproved = refl
badges_fetch_nothing Race = refl
badges_fetch_nothing Impossible = refl
badges_fetch_nothing Forbidden = refl
badges_fetch_nothing Refused = refl
badges_fetch_nothing Other = refl

-- texts with numbers between them, of which none fetches
round : (parts : List (List ℕ × ℕ) × List ℕ) → list_any (λ part. holds_one of_tags part.0) parts.0 ≡ false
    → holds_one of_tags parts.1 ≡ false → holds_one of_tags (between parts.0 parts.1) ≡ false
round parts before last = all_between of_tags parts.0 parts.1 refl before last

pub tags_fetch_nothing : (tag : Tag) → holds_one of_tags (unlinked (tag_text tag)) ≡ false
tags_fetch_nothing (LinkToLine number) = round ((codes "L", number) ∷ [], codes "\">") refl refl
tags_fetch_nothing (LinkToEntry number) = round ((codes "S", number) ∷ [], codes "\">") refl refl
tags_fetch_nothing (LinkToPoint number) = round ((codes "p", number) ∷ [], codes "\">") refl refl
tags_fetch_nothing (RowOfLine number) = round (tag_parts (RowOfLine number)) refl refl
tags_fetch_nothing (RowOfLineHere number) = round (tag_parts (RowOfLineHere number)) refl refl
tags_fetch_nothing (RowOfEntry number) = round (tag_parts (RowOfEntry number)) refl refl
tags_fetch_nothing (DetailsOfPoint number) = round (tag_parts (DetailsOfPoint number)) refl refl
tags_fetch_nothing (Svg width height) = round (tag_parts (Svg width height)) refl refl
tags_fetch_nothing (Frame at width height) = round (tag_parts (Frame at width height)) refl refl
tags_fetch_nothing (Rule at right) = round (tag_parts (Rule at right)) refl refl
tags_fetch_nothing (NameAt at true) = round (tag_parts (NameAt at true)) refl refl
tags_fetch_nothing (NameAt at false) = round (tag_parts (NameAt at false)) refl refl
tags_fetch_nothing (FieldAt at true) = round (tag_parts (FieldAt at true)) refl refl
tags_fetch_nothing (FieldAt at false) = round (tag_parts (FieldAt at false)) refl refl
tags_fetch_nothing (Straight at right true) = round (tag_parts (Straight at right true)) refl refl
tags_fetch_nothing (Straight at right false) = round (tag_parts (Straight at right false)) refl refl
tags_fetch_nothing (Around by true) = round (tag_parts (Around by true)) refl refl
tags_fetch_nothing (Around by false) = round (tag_parts (Around by false)) refl refl
tags_fetch_nothing (HeadRight at true) = round (tag_parts (HeadRight at true)) refl refl
tags_fetch_nothing (HeadRight at false) = round (tag_parts (HeadRight at false)) refl refl
tags_fetch_nothing (HeadUp at true) = round (tag_parts (HeadUp at true)) refl refl
tags_fetch_nothing (HeadUp at false) = round (tag_parts (HeadUp at false)) refl refl
