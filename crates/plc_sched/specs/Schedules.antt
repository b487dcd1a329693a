-- Which schedule a file spells, and why one spells none.
use Rattle.std.specs.Prelude.{◌≡◌, ◌≢◌, ◌<◌, ◌≤◌, ◌+◌}
use Rattle.std.specs.Prelude.{ℕ, List, ◌∷◌, ◌++◌, length, map, All}
use Rattle.plc_base.specs.declared.limits.What1.TheVariants.{Lines}
use Rattle.plc_base.specs.Limits.{most}
use Rattle.plc_sched.specs.declared.schedule.Entry.{Entry}
use Rattle.plc_sched.specs.declared.schedule.Schedule.{Schedule}
use Rattle.plc_sched.specs.declared.fault.SchedFault.{SchedFault}
use Rattle.plc_sched.specs.declared.fault.SchedFault.TheVariants.{Line, Limit, Memory}
use Rattle.plc_sched.specs.Entries.{EntryFits, ThreadsFit, entry_text, head_text}
use Rattle.plc_sched.specs.Lines.{lines_of}

-- the most lines of a file
abbrev pub line_limit : ℕ
line_limit = most Lines

-- a file spells a schedule: its lines are the head and then one for each entry
pub record IsScheduleOf (bytes : List ℕ) (s : Schedule) : Type 0 where
  pub lines : lines_of bytes ≡ head_text s.threads ∷ map entry_text s.entries
  pub threads : ThreadsFit s.threads
  pub entries : All (EntryFits s.threads) s.entries
  pub count : length (lines_of bytes) ≤ line_limit

-- no number of threads begins these lines
abbrev pub HasNoHead : List (List ℕ) → Type 0
HasNoHead lines =
    (threads : ℕ) (more : List (List ℕ)) → ThreadsFit threads → lines ≡ head_text threads ∷ more → ⊥

-- no entry among so many threads has this line
abbrev pub IsNoEntry : ℕ → List ℕ → Type 0
IsNoEntry threads line = (entry : Entry) → EntryFits threads entry → entry_text entry ≡ line → ⊥

-- after the head the lines of some entries are followed by one that no entry has; n is its number in the file
pub record StopsAt (threads : ℕ) (lines : List (List ℕ)) (n : ℕ) : Type 0 where
  pub before : List Entry
  pub line : List ℕ
  pub after : List (List ℕ)
  pub lines_are : lines ≡ map entry_text before ++ line ∷ after
  pub fit : All (EntryFits threads) before
  pub none : IsNoEntry threads line
  pub number : n ≡ length before + 2

-- line n is the first that isn't one of a schedule
pub data IsFirstBad : List (List ℕ) → ℕ → Type 0 where
  at_head : (lines : List (List ℕ)) (n : ℕ) → n ≡ 1 → HasNoHead lines → IsFirstBad lines n
  after_head : (lines : List (List ℕ)) (n threads : ℕ) (more : List (List ℕ)) → ThreadsFit threads
      → lines ≡ head_text threads ∷ more → StopsAt threads more n → IsFirstBad lines n

-- why a file spells no schedule; running out of memory says nothing
abbrev pub IsScheduleFault : List ℕ → SchedFault → Type 0
IsScheduleFault bytes (Line n) = (length (lines_of bytes) ≤ line_limit) × IsFirstBad (lines_of bytes) n
IsScheduleFault bytes (Limit count) = (count ≡ line_limit + 1) × (line_limit < length (lines_of bytes))
IsScheduleFault bytes Memory = Unit {0}

-- a file spells one schedule, or has one fault beside running out of memory, and not both
pub record SchedulesAreUnique : Type 0 where
  pub schedules : (bytes : List ℕ) (s t : Schedule) → IsScheduleOf bytes s → IsScheduleOf bytes t → s ≡ t
  pub faults : (bytes : List ℕ) (f g : SchedFault) → IsScheduleFault bytes f → IsScheduleFault bytes g
      → f ≢ Memory → g ≢ Memory → f ≡ g
  pub apart : (bytes : List ℕ) (s : Schedule) (f : SchedFault) → IsScheduleOf bytes s → IsScheduleFault bytes f
      → f ≡ Memory

-- the limits of schedules
pub record IsWithinLimits (s : Schedule) : Type 0 where
  pub threads : ThreadsFit s.threads
  pub entries : length s.entries < line_limit

-- a schedule that some file spells is within the limits
abbrev pub SchedulesAreWithinLimits : Type 0
SchedulesAreWithinLimits = (bytes : List ℕ) (s : Schedule) → IsScheduleOf bytes s → IsWithinLimits s
