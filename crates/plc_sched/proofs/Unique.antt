-- A file spells one schedule, or stops at one line: an entry is known from its line.
use Rattle.std.proofs.Common.{◌≡◌, ◌≢◌, ℕ, ◌<◌, ◌≤◌, ◌^◌, ◌==◌, List, [], ◌∷◌, ◌++◌, length, map, Option, Some, None, All, refl, sym, ap, ◌∙◌, subst, arith}
use Rattle.std.specs.Fmt.{decimal}
use Rattle.std.specs.List.{slice_split}
use Rattle.std.proofs.lemmas.Fmt.{decimal_injective}
use Rattle.std.proofs.lemmas.List.Elements.{All-head, All-tail}
use Rattle.plc_sched.specs.declared.schedule.Entry.{Entry}
use Rattle.plc_sched.specs.declared.schedule.Entry.TheVariants.{Start, Step, Return, Tick}
use Rattle.plc_sched.specs.declared.schedule.Schedule.{Schedule}
use Rattle.plc_sched.specs.declared.fault.SchedFault.{SchedFault}
use Rattle.plc_sched.specs.declared.fault.SchedFault.TheVariants.{Line, Limit, Memory}
use Rattle.plc_sched.specs.Entries.{address_words, entry_words, entry_text, head_words, head_text, AddressFits, EntryFits, ThreadsFit}
use Rattle.plc_sched.specs.Lines.{lines_of}
use Rattle.plc_sched.specs.Schedules.{line_limit, IsNoEntry, StopsAt, IsFirstBad, at_head, after_head, IsScheduleOf, IsScheduleFault}
use Rattle.plc_sched.specs.Reading.{StopsAfter}
use Rattle.plc_sched.proofs.WordsOfEntries.{split_entry, split_head, two_kinds}

same_numbers : (ms ns : List ℕ) → All (λ d. d < 2 ^ 32) ms → All (λ d. d < 2 ^ 32) ns → map decimal ms ≡ map decimal ns → ms ≡ ns
same_numbers [] [] f g e = refl
same_numbers [] (n ∷ ns) f g e = absurd cc
same_numbers (m ∷ ms) [] f g e = absurd cc
same_numbers (m ∷ ms) (n ∷ ns) f g e =
    let P : ℕ → Type 0 = λ d. d < 2 ^ 32 in
    let first : m ≡ n = decimal_injective m n (omega (arith, All-head P m ms f)) (omega (arith, All-head P n ns g)) cc in
    let rest : ms ≡ ns = same_numbers ms ns (All-tail P m ms f) (All-tail P n ns g) cc in
    cc

same_address : (a b : Option ℕ) → AddressFits a → AddressFits b → address_words a ≡ address_words b → a ≡ b
same_address None None f g e = refl
same_address None (Some b) f g e = absurd cc
same_address (Some a) None f g e = absurd cc
same_address (Some a) (Some b) f g e = ap Some (decimal_injective a b (omega (arith, f.1)) (omega (arith, g.1)) cc)

-- entries that have the same words are the same
same_words : (threads : ℕ) (entry other : Entry) → threads ≤ 2 ^ 32 → EntryFits threads entry → EntryFits threads other → entry_words entry ≡ entry_words other → entry ≡ other
same_words threads (Start t op args) (Start u op' args') few f g e =
    let thread : t ≡ u = decimal_injective t u (omega (arith, f.thread)) (omega (arith, g.thread)) cc in
    let arguments : args ≡ args' = same_numbers args args' f.arguments g.arguments cc in
    let name : op ≡ op' = cc in
    cc
same_words threads (Step t nth addr) (Step u nth' addr') few f g e =
    let thread : t ≡ u = decimal_injective t u (omega (arith, f.thread)) (omega (arith, g.thread)) cc in
    let place : nth ≡ nth' = decimal_injective nth nth' (omega (arith, f.place)) (omega (arith, g.place)) cc in
    let address : addr ≡ addr' = same_address addr addr' f.address g.address cc in
    cc
same_words threads (Return t) (Return u) few f g e = ap Return (decimal_injective t u (omega arith) (omega arith) cc)
same_words threads Tick Tick few f g e = refl
same_words threads (Start t op args) (Step u nth addr) few f g e = absurd (two_kinds _ _ refl e)
same_words threads (Start t op args) (Return u) few f g e = absurd (two_kinds _ _ refl e)
same_words threads (Start t op args) Tick few f g e = absurd (two_kinds _ _ refl e)
same_words threads (Step t nth addr) (Start u op args) few f g e = absurd (two_kinds _ _ refl e)
same_words threads (Step t nth addr) (Return u) few f g e = absurd (two_kinds _ _ refl e)
same_words threads (Step t nth addr) Tick few f g e = absurd (two_kinds _ _ refl e)
same_words threads (Return t) (Start u op args) few f g e = absurd (two_kinds _ _ refl e)
same_words threads (Return t) (Step u nth addr) few f g e = absurd (two_kinds _ _ refl e)
same_words threads (Return t) Tick few f g e = absurd (two_kinds _ _ refl e)
same_words threads Tick (Start u op args) few f g e = absurd (two_kinds _ _ refl e)
same_words threads Tick (Step u nth addr) few f g e = absurd (two_kinds _ _ refl e)
same_words threads Tick (Return u) few f g e = absurd (two_kinds _ _ refl e)

-- entries that have the same line are the same
same_entry : (threads : ℕ) (entry other : Entry) → threads ≤ 2 ^ 32 → EntryFits threads entry → EntryFits threads other → entry_text entry ≡ entry_text other → entry ≡ other
same_entry threads entry other few f g e =
    same_words threads entry other few f g (sym (split_entry threads entry few f) ∙ ap (slice_split (λ b. b == 32)) e ∙ split_entry threads other few g)

same_head : (threads other : ℕ) → ThreadsFit threads → ThreadsFit other → head_text threads ≡ head_text other → threads ≡ other
same_head threads other f g e =
    let words : head_words threads ≡ head_words other = sym (split_head threads f) ∙ ap (slice_split (λ b. b == 32)) e ∙ split_head other g in
    decimal_injective threads other (omega (arith, f.1)) (omega (arith, g.1)) cc

same_entries : (threads : ℕ) (entries others : List Entry) → threads ≤ 2 ^ 32 → All (EntryFits threads) entries → All (EntryFits threads) others → map entry_text entries ≡ map entry_text others → entries ≡ others
same_entries threads [] [] few f g e = refl
same_entries threads [] (o ∷ os) few f g e = absurd cc
same_entries threads (n ∷ ns) [] few f g e = absurd cc
same_entries threads (n ∷ ns) (o ∷ os) few f g e =
    let P : Entry → Type 0 = EntryFits threads in
    let first : n ≡ o = same_entry threads n o few (All-head P n ns f) (All-head P o os g) cc in
    let rest : ns ≡ os = same_entries threads ns os few (All-tail P n ns f) (All-tail P o os g) cc in
    cc

-- lines of entries don't stop
never_stops : (threads : ℕ) (entries before : List Entry) (line : List ℕ) (after : List (List ℕ)) → All (EntryFits threads) entries → IsNoEntry threads line → map entry_text entries ≡ map entry_text before ++ line ∷ after → ⊥
never_stops threads [] [] line after f none e = absurd cc
never_stops threads [] (b ∷ bs) line after f none e = absurd cc
never_stops threads (n ∷ ns) [] line after f none e = none n (All-head (EntryFits threads) n ns f) cc
never_stops threads (n ∷ ns) (b ∷ bs) line after f none e = never_stops threads ns bs line after (All-tail (EntryFits threads) n ns f) none cc

-- lines stop after one number of entries
one_stop : (threads : ℕ) (before before' : List Entry) (line line' : List ℕ) (after after' : List (List ℕ)) → All (EntryFits threads) before → All (EntryFits threads) before' → IsNoEntry threads line → IsNoEntry threads line'
    → map entry_text before ++ line ∷ after ≡ map entry_text before' ++ line' ∷ after' → length before ≡ length before'
one_stop threads [] [] line line' after after' f g none none' e = refl
one_stop threads [] (n ∷ ns) line line' after after' f g none none' e = absurd (none n (All-head (EntryFits threads) n ns g) cc)
one_stop threads (n ∷ ns) [] line line' after after' f g none none' e = absurd (none' n (All-head (EntryFits threads) n ns f) cc)
one_stop threads (m ∷ ms) (n ∷ ns) line line' after after' f g none none' e =
    let rest : length ms ≡ length ns = one_stop threads ms ns line line' after after' (All-tail (EntryFits threads) m ms f) (All-tail (EntryFits threads) n ns g) none none' cc in
    omega arith

-- a stop at one line of a file is the stop at every line that is told of it
one_number : (threads : ℕ) (lines : List (List ℕ)) (m n : ℕ) → StopsAt threads lines m → StopsAt threads lines n → m ≡ n
one_number threads lines m n s t =
    let same : length s.before ≡ length t.before = one_stop threads s.before t.before s.line t.line s.after t.after s.fit t.fit s.none t.none (sym s.lines_are ∙ t.lines_are) in
    omega (arith, s.number, t.number)

-- two heads of the same lines
one_head : (lines more more' : List (List ℕ)) (threads other : ℕ) → ThreadsFit threads → ThreadsFit other → lines ≡ head_text threads ∷ more → lines ≡ head_text other ∷ more' → (threads ≡ other) × (more ≡ more')
one_head lines more more' threads other f g e h =
    let first : head_text threads ≡ head_text other = cc in
    let rest : more ≡ more' = cc in
    (same_head threads other f g first, rest)

one_bad : (lines : List (List ℕ)) (m n : ℕ) → IsFirstBad lines m → IsFirstBad lines n → m ≡ n
one_bad _ _ n (at_head lines m e none) (at_head _ _ e' none') = omega arith
one_bad _ _ n (at_head lines m e none) (after_head _ _ threads more fit is stop) = absurd (none threads more fit is)
one_bad _ _ n (after_head lines m threads more fit is stop) (at_head _ _ e none) = absurd (none threads more fit is)
one_bad _ _ n (after_head lines m threads more fit is stop) (after_head _ _ other more' fit' is' stop') =
    let same = one_head lines more more' threads other fit fit' is is' in
    one_number other more' m n (subst (λ ls. StopsAt other ls m) same.1 (subst (λ k. StopsAt k more m) same.0 stop)) stop'

good_or_bad : (lines : List (List ℕ)) (threads : ℕ) (entries : List Entry) (n : ℕ) → lines ≡ head_text threads ∷ map entry_text entries → ThreadsFit threads → All (EntryFits threads) entries → IsFirstBad lines n → ⊥
good_or_bad _ threads entries _ is fit each (at_head lines n e none) = none threads (map entry_text entries) fit is
good_or_bad _ threads entries _ is fit each (after_head lines n other more fit' is' stop) =
    let same = one_head lines (map entry_text entries) more threads other fit fit' is is' in
    never_stops threads entries stop.before stop.line stop.after each (subst (λ k. IsNoEntry k stop.line) (sym same.0) stop.none) (same.1 ∙ stop.lines_are)

-- a schedule from its parts
abbrev pub schedule_of : ℕ → List Entry → Schedule
schedule_of threads entries = record { threads = threads; entries = entries }

same_schedule : (s t : Schedule) → s.threads ≡ t.threads → s.entries ≡ t.entries → s ≡ t
same_schedule s t threads entries = let e : schedule_of s.threads s.entries ≡ schedule_of t.threads t.entries = cc in e

pub schedules_are_one : (bytes : List ℕ) (s t : Schedule) → IsScheduleOf bytes s → IsScheduleOf bytes t → s ≡ t
schedules_are_one bytes s t a b =
    let same = one_head (lines_of bytes) (map entry_text s.entries) (map entry_text t.entries) s.threads t.threads a.threads b.threads a.lines b.lines in
    let threads : s.threads ≡ t.threads = same.0 in
    let entries : s.entries ≡ t.entries = same_entries t.threads s.entries t.entries (omega (arith, b.threads.1)) (subst (λ k. All (EntryFits k) s.entries) threads a.entries) b.entries same.1 in
    same_schedule s t threads entries

pub faults_are_one : (bytes : List ℕ) (f g : SchedFault) → IsScheduleFault bytes f → IsScheduleFault bytes g → f ≢ Memory → g ≢ Memory → f ≡ g
faults_are_one bytes (Line m) (Line n) a b f g = ap Line (one_bad (lines_of bytes) m n a.1 b.1)
faults_are_one bytes (Line m) (Limit n) a b f g = absurd (omega (arith, a.0, b.1))
faults_are_one bytes (Limit m) (Line n) a b f g = absurd (omega (arith, a.1, b.0))
faults_are_one bytes (Limit m) (Limit n) a b f g = ap Limit (a.0 ∙ sym b.0)
faults_are_one bytes Memory g a b f h = absurd (f refl)
faults_are_one bytes (Line m) Memory a b f h = absurd (h refl)
faults_are_one bytes (Limit m) Memory a b f h = absurd (h refl)

pub memory_alone : (bytes : List ℕ) (s : Schedule) (fault : SchedFault) → IsScheduleOf bytes s → IsScheduleFault bytes fault → fault ≡ Memory
memory_alone bytes s (Line n) a b = absurd (good_or_bad (lines_of bytes) s.threads s.entries n a.lines a.threads a.entries b.1)
memory_alone bytes s (Limit count) a b = absurd (omega (arith, a.count, b.1))
memory_alone bytes s Memory a b = refl

-- why the lines after the head stop is why the file is refused
pub fault_after : (bytes after : List ℕ) (threads : ℕ) (fault : SchedFault) → length (lines_of bytes) ≤ line_limit → ThreadsFit threads → lines_of bytes ≡ head_text threads ∷ lines_of after → StopsAfter threads (lines_of after) fault → IsScheduleFault bytes fault
fault_after bytes after threads (Line n) count fit is stop = (count, after_head (lines_of bytes) n threads (lines_of after) fit is stop)
fault_after bytes after threads (Limit count') count fit is stop = absurd stop
fault_after bytes after threads Memory count fit is stop = tt
