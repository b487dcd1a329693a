-- The badge of an answer, and its sentence.
use Rattle.std.specs.Prelude.{ℕ, ◌==◌, ◌&&◌, if◌then◌else◌, List, [], ◌∷◌, ◌++◌, codes, nat_eq}
use Rattle.std.specs.List.{starts_with}
use Rattle.plc_html.specs.declared.badges.Badge.{Badge}
use Rattle.plc_html.specs.declared.badges.Badge.TheVariants.{Safe, Ended, Untyped, Unproved, Race, Impossible}
use Rattle.plc_html.specs.declared.badges.Badge.TheVariants.{Forbidden, Refused, Other}

-- a status, the first word of an answer with the blank behind it, and their badge
unfoldable pub badges : List (ℕ × List ℕ × Badge)
badges =
    (0, codes "at ", Safe) ∷ (0, codes "safe ", Safe) ∷ (0, codes "end ", Ended)
    ∷ (1, codes "untyped ", Untyped) ∷ (1, codes "unproved ", Unproved) ∷ (1, codes "race ", Race)
    ∷ (1, codes "impossible ", Impossible) ∷ (1, codes "forbidden ", Forbidden) ∷ (2, codes "refused ", Refused) ∷ []

-- the badge of the first row that has the status and begins the answer
abbrev pub badge_in : List (ℕ × List ℕ × Badge) → ℕ → List ℕ → Badge
badge_in [] status answer = Other
badge_in (row ∷ rows) status answer =
    if (row.0 == status) && starts_with nat_eq answer row.1 then row.2 else badge_in rows status answer

-- the row of a badge
abbrev pub row_of : Badge → List ℕ
row_of Safe =
    codes "<p><b class=\"badge safe\">SAFE</b> In no run of this program, with any number of threads, is a step "
    ++ codes "a pointer race or a second retire, whatever allowed frees the reclaimer chooses. Each claim and "
    ++ codes "each clause of the outline is true in every run.</p>\n"
row_of Ended =
    codes "<p><b class=\"badge\">END</b> The schedule is followed to its end: no line of it is a race.</p>\n"
row_of Untyped =
    codes "<p><b class=\"badge open\">UNTYPED</b> The types don't say that each pointer may be used where it "
    ++ codes "is used.</p>\n"
row_of Unproved =
    codes "<p><b class=\"badge open\">UNPROVED</b> The types are there, and the outline isn't enough.</p>\n"
row_of Race = codes "<p><b class=\"badge race\">RACE</b> A step of this run is a race.</p>\n"
row_of Impossible = codes "<p><b class=\"badge\">IMPOSSIBLE</b> A line of the schedule can't be taken.</p>\n"
row_of Forbidden =
    codes "<p><b class=\"badge\">FORBIDDEN FREE</b> The reclaimer frees what the observer forbids to free.</p>\n"
row_of Refused = codes "<p><b class=\"badge\">REFUSED</b> The bytes are no file, or no schedule for it.</p>\n"
row_of Other = codes "<p><b class=\"badge\">ANSWER</b></p>\n"

-- the row of an answer with its status
abbrev pub badge_row : ℕ → List ℕ → List ℕ
badge_row status answer = row_of (badge_in badges status answer)
