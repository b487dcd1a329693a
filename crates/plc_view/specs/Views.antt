-- What the requests of the program stand for.
use Rattle.std.specs.Prelude.{ℕ, ◌<◌}
use Rattle.plc_view.specs.declared.words.Request.{Request as Asked}
use Rattle.plc_view.specs.declared.words.Request.TheVariants as asked
use Rattle.plc_view.specs.Requests.{Request, Page, Lines, Run}

-- a request, with the bytes of its words
abbrev pub request_view : Asked → Request
request_view (asked.Page file) = Page file.now
request_view (asked.Lines file) = Lines file.now
request_view (asked.Run file schedule name reclaimer) = Run file.now schedule.now name.now reclaimer

-- the reclaimer of a request is one of so many
abbrev pub IsInRange : ℕ → Asked → Type 0
IsInRange count (asked.Page file) = Unit {0}
IsInRange count (asked.Lines file) = Unit {0}
IsInRange count (asked.Run file schedule name reclaimer) = reclaimer < count
