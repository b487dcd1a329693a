-- What the readers of lines answer: what was spelled, or that nothing of its kind was.
use Rattle.std.specs.Prelude.{◌≡◌, ℕ, List, map, Option, Some, None, All}
use Rattle.plc_sched.specs.declared.schedule.Entry.{Entry}
use Rattle.plc_sched.specs.declared.fault.SchedFault.{SchedFault}
use Rattle.plc_sched.specs.declared.fault.SchedFault.TheVariants.{Line, Limit, Memory}
use Rattle.plc_sched.specs.Entries.{AddressFits, EntryFits, ThreadsFit, address_words}
use Rattle.plc_sched.specs.Entries.{entry_words, entry_text, head_text}
use Rattle.plc_sched.specs.Schedules.{IsNoEntry, StopsAt}

-- the address that the words spell
abbrev pub IsAddress : List (List ℕ) → Option (Option ℕ) → Type 0
IsAddress words (Some addr) = AddressFits addr × (address_words addr ≡ words)
IsAddress words None = (addr : Option ℕ) → AddressFits addr → address_words addr ≡ words → ⊥

-- the entry that the words spell
abbrev pub IsEntryOf : ℕ → List (List ℕ) → Option Entry → Type 0
IsEntryOf threads words (Some entry) = EntryFits threads entry × (entry_words entry ≡ words)
IsEntryOf threads words None = (entry : Entry) → EntryFits threads entry → entry_words entry ≡ words → ⊥

-- the entry that a line spells
abbrev pub IsLine : ℕ → List ℕ → Option Entry → Type 0
IsLine threads line (Some entry) = EntryFits threads entry × (entry_text entry ≡ line)
IsLine threads line None = IsNoEntry threads line

-- the number of threads that a line spells
abbrev pub IsHead : List ℕ → Option ℕ → Type 0
IsHead line (Some threads) = ThreadsFit threads × (head_text threads ≡ line)
IsHead line None = (threads : ℕ) → ThreadsFit threads → head_text threads ≡ line → ⊥

-- the entries of the lines after the head
pub record AreEntries (threads : ℕ) (lines : List (List ℕ)) (entries : List Entry) : Type 0 where
  pub lines_are : lines ≡ map entry_text entries
  pub fit : All (EntryFits threads) entries

-- why the lines after the head spell no entries; running out of memory tells nothing
abbrev pub StopsAfter : ℕ → List (List ℕ) → SchedFault → Type 0
StopsAfter threads lines (Line n) = StopsAt threads lines n
StopsAfter threads lines (Limit count) = ⊥
StopsAfter threads lines Memory = Unit {0}
