-- What a page of a file says of it.
use Rattle.std.specs.Prelude.{◌≡◌, ℕ, List}
use Rattle.plc_html.specs.Frame.{IsPage}
use Rattle.plc_check.specs.declared.judged.Judged.{Judged}
use Rattle.plc_check.specs.declared.judged.LoadFault.{LoadFault}
use Rattle.plc_check.specs.declared.verdict.Verdict.{Verdict}
use Rattle.plc_check.specs.Verdicts.{IsVerdictOn}
use Rattle.plc_cli.specs.Files.{IsAnswerTo}
use Rattle.plc_cli.specs.Refusals.{load_fault_text}
use Rattle.plc_cli.specs.Statuses.{refused}
use Rattle.plc_cli.specs.Verdicts.{verdict_status, verdict_text}
use Rattle.plc_page.specs.declared.page.Page.{Page}

-- the page shows an answer, by its status and its text, under a title: the frame says the badge, and where it stands
pub record ShowsAnswer (title : List ℕ) (status : ℕ) (text : List ℕ) (page : Page) : Type 0 where
  pub status_is : page.status ≡ status
  pub shown : IsPage title status text page.bytes

-- the page shows what `check` answers to the bytes of a file
pub record ShowsCheck (title bytes : List ℕ) (page : Page) : Type 0 where
  pub status : ℕ
  pub text : List ℕ
  pub due : IsAnswerTo bytes status text
  pub shows : ShowsAnswer title status text page

-- this is the status of what `check` answers to the bytes of a file
pub record HasCheckStatus (bytes : List ℕ) (status : ℕ) : Type 0 where
  pub text : List ℕ
  pub due : IsAnswerTo bytes status text

-- this is the status of the verdict on a file
abbrev pub HasVerdictStatus : Judged → ℕ → Type 0
HasVerdictStatus j status = (verdict : Verdict) × IsVerdictOn j verdict × (status ≡ verdict_status verdict)

-- the page says this verdict on a file
abbrev pub SaysVerdict : List ℕ → Judged → Verdict → Page → Type 0
SaysVerdict title j verdict page = ShowsAnswer title (verdict_status verdict) (verdict_text j verdict) page

-- the page says the verdict on a file
abbrev pub ShowsVerdict : List ℕ → Judged → Page → Type 0
ShowsVerdict title j page = (verdict : Verdict) × IsVerdictOn j verdict × SaysVerdict title j verdict page

-- the page says why a file is refused
abbrev pub SaysRefusal : List ℕ → LoadFault → Page → Type 0
SaysRefusal title fault page = ShowsAnswer title refused (load_fault_text fault) page
