-- A page that says the verdict on what was loaded shows the answer to the bytes.
use Rattle.std.proofs.Common.{◌≡◌, ◌≢◌, inl, inr, ℕ, List, Result, Ok, Err, refl, subst}
use Rattle.std.specs.Prelude.{IfOk}
use Rattle.plc_check.specs.declared.judged.Judged.{Judged}
use Rattle.plc_check.specs.declared.judged.LoadFault.{LoadFault}
use Rattle.plc_check.specs.declared.judged.LoadFault.TheVariants.{Lex, Parse, Limit, Memory}
use Rattle.plc_check.specs.Answered.{IsLoaded}
use Rattle.plc_cli.specs.Files.{IsJudgedAs, IsRefusedFile}
use Rattle.plc_cli.specs.Refusals.{load_fault_text}
use Rattle.plc_cli.specs.Statuses.{refused}
use Rattle.plc_cli.specs.Verdicts.{verdict_status, verdict_text}
use Rattle.plc_cli.proofs.Answering.{if_ok_from}
use Rattle.plc_page.specs.declared.page.Page.{Page}
use Rattle.plc_page.specs.declared.plain.Lines.{Lines}
use Rattle.plc_page.specs.Pages.{HasCheckStatus, HasVerdictStatus, ShowsCheck, ShowsVerdict}

-- any right verdict is an answer
loaded_shows : (title bytes : List ℕ) (j : Judged) (page : Page) → IsLoaded bytes (Ok j) → ShowsVerdict title j page → ShowsCheck title bytes page
loaded_shows title bytes j page loaded h = record {
  status = verdict_status h.0;
  text = verdict_text j h.0;
  due = inr (record {
    unit = loaded.0;
    spelled = loaded.1;
    answer = subst (λ (x : Judged). IsJudgedAs x (verdict_status h.0) (verdict_text j h.0)) loaded.2
        (record { what = h.0; right = h.1; status_is = refl; text_is = refl });
  });
  shows = h.2;
}

pub if_shown : {E : Type 0} (r : Result Page E) (title bytes : List ℕ) (j : Judged) → IsLoaded bytes (Ok j) → IfOk r (ShowsVerdict title j) → IfOk r (ShowsCheck title bytes)
if_shown r title bytes j loaded h = if_ok_from r _ _ (λ page h. loaded_shows title bytes j page loaded h) h

-- so is the status of lines that was that of a verdict on what was loaded
loaded_counts : (bytes : List ℕ) (j : Judged) (status : ℕ) → IsLoaded bytes (Ok j) → HasVerdictStatus j status → HasCheckStatus bytes status
loaded_counts bytes j status loaded h = record {
  text = verdict_text j h.0;
  due = inr (record {
    unit = loaded.0;
    spelled = loaded.1;
    answer = subst (λ (x : Judged). IsJudgedAs x status (verdict_text j h.0)) loaded.2
        (record { what = h.0; right = h.1; status_is = h.2; text_is = refl });
  });
}

pub if_counted : {E : Type 0} (r : Result Lines E) (bytes : List ℕ) (j : Judged) → IsLoaded bytes (Ok j) → IfOk r (λ lines. HasVerdictStatus j lines.status) → IfOk r (λ lines. HasCheckStatus bytes lines.status)
if_counted r bytes j loaded h = if_ok_from r _ _ (λ lines h. loaded_counts bytes j lines.status loaded h) h

-- a refusal that is told is an answer, whatever the lines say
refused_file : (bytes : List ℕ) (fault : LoadFault) (status : ℕ) → IsLoaded bytes (Err fault) → fault ≢ Memory → status ≡ refused → IsRefusedFile bytes status (load_fault_text fault)
refused_file bytes (Lex inner) status loaded told is =
    record { fault = Lex inner; has = loaded.0; told = told; none = loaded.1; status_is = is; text_is = refl }
refused_file bytes (Parse inner line) status loaded told is =
    record { fault = Parse inner line; has = loaded.0; told = told; none = loaded.1; status_is = is; text_is = refl }
refused_file bytes (Limit what count) status loaded told is =
    record { fault = Limit what count; has = loaded.0; told = told; none = loaded.1; status_is = is; text_is = refl }
refused_file bytes Memory status loaded told is = absurd (told refl)

pub if_refused : {E : Type 0} (r : Result Lines E) (bytes : List ℕ) (fault : LoadFault) → IsLoaded bytes (Err fault) → IfOk r (λ lines. lines.status ≡ refused) → IfOk r (λ _. fault ≢ Memory) → IfOk r (λ lines. HasCheckStatus bytes lines.status)
if_refused (Ok lines) bytes fault loaded is told = record {
  text = load_fault_text fault;
  due = inl (refused_file bytes fault lines.status loaded told is);
}
if_refused (Err e) bytes fault loaded is told = tt
