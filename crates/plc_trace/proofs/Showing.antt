-- A page that shows what is answered to a schedule for what was loaded shows the answer to the bytes.
use Rattle.std.proofs.Common.{inr, ℕ, List, Result, Ok, subst}
use Rattle.std.specs.Prelude.{IfOk}
use Rattle.plc_reclaim.specs.Meanings.{Meanings}
use Rattle.plc_check.specs.declared.judged.Judged.{Judged}
use Rattle.plc_check.specs.Answered.{IsLoaded}
use Rattle.plc_cli.specs.Answer.{IsScheduleAnswered}
use Rattle.plc_cli.proofs.Answering.{if_ok_from}
use Rattle.plc_page.specs.declared.page.Page.{Page}
use Rattle.plc_trace.specs.Pages.{ShowsReplay, ShowsSchedule}

-- any right answer is due
loaded_shows : (title : List ℕ) (m : Meanings) (bytes second : List ℕ) (j : Judged) (page : Page) → IsLoaded bytes (Ok j) → ShowsSchedule title j m second page → ShowsReplay title m bytes second page
loaded_shows title m bytes second j page loaded h = record {
  status = h.status;
  text = h.text;
  due = inr (record {
    unit = loaded.0;
    spelled = loaded.1;
    answer = subst (λ (x : Judged). IsScheduleAnswered x m second h.status h.text) loaded.2 h.due;
  });
  shows = h.shows;
}

pub if_shown : {E : Type 0} (r : Result Page E) (title : List ℕ) (m : Meanings) (bytes second : List ℕ) (j : Judged) → IsLoaded bytes (Ok j) → IfOk r (ShowsSchedule title j m second) → IfOk r (ShowsReplay title m bytes second)
if_shown r title m bytes second j loaded h =
    if_ok_from r _ _ (λ page h. loaded_shows title m bytes second j page loaded h) h
