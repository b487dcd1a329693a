-- How a line spells an entry, and which entries a schedule may hold.
use Rattle.std.specs.Prelude.{◌≡◌, ◌<◌, ◌≤◌, ◌&&◌, ◌^◌, ℕ, Bool, true, false, List, [], ◌∷◌, length, map, codes, nat_le}
use Rattle.std.specs.Prelude.{Option, Some, None, All}
use Rattle.std.specs.List.{list_all, join_with_byte}
use Rattle.std.specs.Fmt.{decimal}
use Rattle.plc_base.specs.Limits.{most_name_bytes}
use Rattle.plc_base.specs.Bounds.{most_threads, most_addresses, greatest_place}
use Rattle.plc_lex.specs.Characters.{is_letter, in_name}
use Rattle.plc_sched.specs.declared.schedule.Entry.{Entry}
use Rattle.plc_sched.specs.declared.schedule.Entry.TheVariants.{Start, Step, Return, Tick}
use Rattle.plc_sched.specs.Numbers.{most_arguments}

-- a letter or `_`, and then bytes that go on a name, within the limit of names
abbrev pub is_name : List ℕ → Bool
is_name [] = false
is_name (b ∷ bs) = is_letter b && (nat_le (length (b ∷ bs)) most_name_bytes && list_all in_name (b ∷ bs))

-- the words of an address that a step may have
abbrev pub address_words : Option ℕ → List (List ℕ)
address_words None = []
address_words (Some address) = decimal address ∷ []

-- the words of an entry
abbrev pub entry_words : Entry → List (List ℕ)
entry_words (Start t op args) = codes "start" ∷ decimal t ∷ op ∷ map decimal args
entry_words (Step t nth addr) = codes "step" ∷ decimal t ∷ decimal nth ∷ address_words addr
entry_words (Return t) = codes "return" ∷ decimal t ∷ []
entry_words Tick = codes "tick" ∷ []

-- words parted by one space
abbrev pub line_of : List (List ℕ) → List ℕ
line_of words = join_with_byte 32 words

-- the line of an entry
abbrev pub entry_text : Entry → List ℕ
entry_text entry = line_of (entry_words entry)

-- the words of the first line
abbrev pub head_words : ℕ → List (List ℕ)
head_words threads = codes "threads" ∷ decimal threads ∷ []

-- the first line
abbrev pub head_text : ℕ → List ℕ
head_text threads = line_of (head_words threads)

-- an address that a step may have
abbrev pub AddressFits : Option ℕ → Type 0
AddressFits None = Unit {0}
AddressFits (Some address) = (1 ≤ address) × (address ≤ most_addresses)

-- a start among so many threads
pub record StartFits (threads t : ℕ) (op args : List ℕ) : Type 0 where
  pub thread : t < threads
  pub name : is_name op ≡ true
  pub count : length args ≤ most_arguments
  pub arguments : All (λ d. d < 2 ^ 32) args

-- a step among so many threads
pub record StepFits (threads t nth : ℕ) (addr : Option ℕ) : Type 0 where
  pub thread : t < threads
  pub place : nth ≤ greatest_place
  pub address : AddressFits addr

-- an entry among so many threads
abbrev pub EntryFits : ℕ → Entry → Type 0
EntryFits threads (Start t op args) = StartFits threads t op args
EntryFits threads (Step t nth addr) = StepFits threads t nth addr
EntryFits threads (Return t) = t < threads
EntryFits threads Tick = Unit {0}

-- how many threads a schedule may have
abbrev pub ThreadsFit : ℕ → Type 0
ThreadsFit threads = (1 ≤ threads) × (threads ≤ most_threads)
