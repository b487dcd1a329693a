-- Lines come to one end: a line asks for one move at most, and a move that is the last leads nowhere.
use Rattle.std.proofs.Common.{◌≡◌, ℕ, ◌+◌, ◌<◌, ◌≤◌, List, [], ◌∷◌, ◌++◌, Option, Some, None, fold, sym, ap, ◌∙◌, subst, arith, ◌⊎◌, inl, inr}
use Rattle.plc_base.specs.declared.ids.OpId.{OpId}
use Rattle.plc_auto.specs.declared.event.Event.{Event}
use Rattle.plc_auto.specs.declared.observer.Observer.{Observer}
use Rattle.plc_flow.specs.declared.flow.Flow.{Flow}
use Rattle.plc_moves.specs.declared.words.Move.{Move}
use Rattle.plc_moves.specs.declared.words.Move.TheVariants as moves
use Rattle.plc_mem.specs.declared.cell.RaceKind.{RaceKind}
use Rattle.plc_auto.specs.declared.scheme.Scheme.{Scheme}
use Rattle.plc_reclaim.specs.Meanings.{Meanings}
use Rattle.plc_run.specs.Run.{Configuration, Moves, Races, first_configuration}
use Rattle.plc_run.specs.Position.{IsForbidden}
use Rattle.plc_run.proofs.Runs.{run_laws}
use Rattle.plc_sched.specs.declared.schedule.Entry.{Entry}
use Rattle.plc_sched.specs.declared.schedule.Entry.TheVariants.{Start, Step, Return, Tick}
use Rattle.plc_sched.specs.declared.schedule.Schedule.{Schedule}
use Rattle.plc_replay.specs.declared.end.End.{End}
use Rattle.plc_replay.specs.declared.end.End.TheVariants.{Ended, Race, Impossible, ForbiddenFree}
use Rattle.plc_replay.specs.Outcome.{IsOperation, Asks, IsQuiet, IsUnknown, Hands, MoveLeads, MoveEnds, LineLeads, LineEnds, ComesFrom, Comes, ComesTo}

-- ---- what a line asks for

order : (j k : ℕ) → (j < k) ⊎ (k ≤ j)
order j k = grind arith

one_operation : (flow : Flow) (name : List ℕ) (j k : ℕ) → IsOperation flow name j → IsOperation flow name k → j ≡ k
one_operation flow name j k a b = elim (order j k) [
  | inl below ↦ absurd (b.first j a.operation below a.there a.called)
  | inr above ↦ elim (order k j) [ inl below ↦ absurd (a.first k b.operation below b.there b.called) | inr same ↦ omega arith ]
]

asks_one : (flow : Flow) (reclaimer : Meanings) (held : List ℕ) (entry : Entry) (m n : Move) → Asks flow reclaimer held entry m → Asks flow reclaimer held entry n → m ≡ n
asks_one flow reclaimer held (Start t op args) m n a b = let e = one_operation flow op a.0 b.0 a.1 b.1 in a.2 ∙ ap (λ (k : ℕ). let op : OpId = record { 0 = k } in moves.Start t op args) e ∙ sym b.2
asks_one flow reclaimer held (Step t nth addr) m n a b = a ∙ sym b
asks_one flow reclaimer held (Return t) m n a b = a ∙ sym b
asks_one flow reclaimer held Tick m n a b = let x = a.1 in let y = b.1 in let e : a.0 ≡ b.0 = cc in a.2 ∙ ap moves.Free e ∙ sym b.2

asks_known : (flow : Flow) (reclaimer : Meanings) (held : List ℕ) (entry : Entry) (m : Move) → Asks flow reclaimer held entry m → IsUnknown flow entry → ⊥
asks_known flow reclaimer held (Start t op args) m a u = u a.0 a.1
asks_known flow reclaimer held (Step t nth addr) m a u = u
asks_known flow reclaimer held (Return t) m a u = u
asks_known flow reclaimer held Tick m a u = u

asks_loud : (flow : Flow) (reclaimer : Meanings) (held : List ℕ) (entry : Entry) (m : Move) → Asks flow reclaimer held entry m → IsQuiet reclaimer held entry → ⊥
asks_loud flow reclaimer held (Start t op args) m a q = q
asks_loud flow reclaimer held (Step t nth addr) m a q = q
asks_loud flow reclaimer held (Return t) m a q = q
asks_loud flow reclaimer held Tick m a q = let x = a.1 in cc

known_or_loud : (flow : Flow) (reclaimer : Meanings) (held : List ℕ) (entry : Entry) → IsUnknown flow entry → IsQuiet reclaimer held entry → ⊥
known_or_loud flow reclaimer held (Start t op args) u q = q
known_or_loud flow reclaimer held (Step t nth addr) u q = q
known_or_loud flow reclaimer held (Return t) u q = q
known_or_loud flow reclaimer held Tick u q = u

-- ---- what a move comes to

race_no_free : (flow : Flow) (threads : ℕ) (c : Configuration) (move : Move) (a : ℕ) → move ≡ moves.Free a → (kind : RaceKind) (k : ℕ) → Races flow threads c move kind k → ⊥
race_no_free flow threads c move a e kind k r = subst (λ (m : Move). Races flow threads c m kind k) e r

move_ends_one : (flow : Flow) (o : Observer) (threads : ℕ) (c : Configuration) (move : Move) (line : ℕ) (e f : End) → MoveEnds flow o threads c move line e → MoveEnds flow o threads c move line f → e ≡ f
move_ends_one flow o threads c move line (Ended l v r) f a b = absurd a
move_ends_one flow o threads c move line (Race kind n k) (Ended l v r) a b = absurd b
move_ends_one flow o threads c move line (Race kind n k) (Race other m i) a b = let same = (run_laws flow o threads).one_race c move kind other k i a.1 b.1 in let x = same.0 in let y = same.1 in let z = a.0 in let w = b.0 in cc
move_ends_one flow o threads c move line (Race kind n k) (Impossible m) a b = absurd (b.1.no_race kind k a.1)
move_ends_one flow o threads c move line (Race kind n k) (ForbiddenFree x m) a b = absurd (race_no_free flow threads c move x b.1 kind k a.1)
move_ends_one flow o threads c move line (Impossible n) (Ended l v r) a b = absurd b
move_ends_one flow o threads c move line (Impossible n) (Race kind m k) a b = absurd (a.1.no_race kind k b.1)
move_ends_one flow o threads c move line (Impossible n) (Impossible m) a b = ap Impossible (a.0 ∙ sym b.0)
move_ends_one flow o threads c move line (Impossible n) (ForbiddenFree x m) a b = absurd (a.1.not_forbidden b.2)
move_ends_one flow o threads c move line (ForbiddenFree x n) (Ended l v r) a b = absurd b
move_ends_one flow o threads c move line (ForbiddenFree x n) (Race kind m k) a b = absurd (race_no_free flow threads c move x a.1 kind k b.1)
move_ends_one flow o threads c move line (ForbiddenFree x n) (Impossible m) a b = absurd (b.1.not_forbidden a.2)
move_ends_one flow o threads c move line (ForbiddenFree x n) (ForbiddenFree y m) a b = let p = a.1 in let q = b.1 in let z = a.0 in let w = b.0 in cc

-- a move that is forbidden doesn't happen
forbidden_stays : (flow : Flow) (o : Observer) (threads : ℕ) (c d : Configuration) (move : Move) → IsForbidden o threads c move → Moves flow o threads c move d → ⊥
forbidden_stays flow o threads c d (moves.Start t op args) f m = f
forbidden_stays flow o threads c d (moves.Step t nth addr) f m = f
forbidden_stays flow o threads c d (moves.Return t) f m = f
forbidden_stays flow o threads c d (moves.Free a) f m = f.1 m.1

last_stays : (flow : Flow) (o : Observer) (threads : ℕ) (c d : Configuration) (move : Move) (line : ℕ) (e : End) → MoveEnds flow o threads c move line e → Moves flow o threads c move d → ⊥
last_stays flow o threads c d move line (Ended l v r) a m = a
last_stays flow o threads c d move line (Race kind n k) a m = (run_laws flow o threads).race_is_last c d move kind k a.1 m
last_stays flow o threads c d move line (Impossible n) a m = a.1.no_move d m
last_stays flow o threads c d move line (ForbiddenFree x n) a m = forbidden_stays flow o threads c d move a.2 m

pub same_after : (h es fs : List Event) → h ++ es ≡ h ++ fs → es ≡ fs
same_after [] es fs e = e
same_after (x ∷ h) es fs e = same_after h es fs (cc)

hands_one : (reclaimer : Meanings) (h : List Event) (held : List ℕ) (g : List Event) (kept other : List ℕ) → Hands reclaimer h held g kept → Hands reclaimer h held g other → kept ≡ other
hands_one reclaimer h held g kept other a b = let e = same_after h a.0 b.0 (sym a.1 ∙ b.1) in a.2 ∙ ap (fold reclaimer.after held) e ∙ sym b.2

move_leads_one : (flow : Flow) (o : Observer) (threads : ℕ) (reclaimer : Meanings) (c : Configuration) (held : List ℕ) (move : Move) (d e : Configuration) (kept other : List ℕ) → MoveLeads flow o threads reclaimer c held move d kept → MoveLeads flow o threads reclaimer c held move e other → (d ≡ e) × (kept ≡ other)
move_leads_one flow o threads reclaimer c held move d e kept other a b =
    let same = (run_laws flow o threads).one_end c d e move a.0 b.0 in
    (same, hands_one reclaimer c.history held d.history kept other a.1 (subst (λ (x : Configuration). Hands reclaimer c.history held x.history other) (sym same) b.1))

-- ---- what a line comes to

line_ends_one : (flow : Flow) (o : Observer) (threads : ℕ) (reclaimer : Meanings) (c : Configuration) (held : List ℕ) (entry : Entry) (line : ℕ) (e f : End) → LineEnds flow o threads reclaimer c held entry line e → LineEnds flow o threads reclaimer c held entry line f → e ≡ f
line_ends_one flow o threads reclaimer c held entry line e f (inl a) (inl b) =
    let same = asks_one flow reclaimer held entry a.0 b.0 a.1 b.1 in
    move_ends_one flow o threads c a.0 line e f a.2 (subst (λ (m : Move). MoveEnds flow o threads c m line f) (sym same) b.2)
line_ends_one flow o threads reclaimer c held entry line e f (inl a) (inr b) = absurd (asks_known flow reclaimer held entry a.0 a.1 b.0)
line_ends_one flow o threads reclaimer c held entry line e f (inr a) (inl b) = absurd (asks_known flow reclaimer held entry b.0 b.1 a.0)
line_ends_one flow o threads reclaimer c held entry line e f (inr a) (inr b) = a.1 ∙ sym b.1

line_stays : (flow : Flow) (o : Observer) (threads : ℕ) (reclaimer : Meanings) (c : Configuration) (held : List ℕ) (entry : Entry) (line : ℕ) (e : End) (d : Configuration) (kept : List ℕ) → LineEnds flow o threads reclaimer c held entry line e → LineLeads flow o threads reclaimer c held entry d kept → ⊥
line_stays flow o threads reclaimer c held entry line e d kept (inl a) (inl b) =
    let same = asks_one flow reclaimer held entry a.0 b.0 a.1 b.1 in
    last_stays flow o threads c d b.0 line e (subst (λ (m : Move). MoveEnds flow o threads c m line e) same a.2) b.2.0
line_stays flow o threads reclaimer c held entry line e d kept (inl a) (inr b) = asks_loud flow reclaimer held entry a.0 a.1 b.0
line_stays flow o threads reclaimer c held entry line e d kept (inr a) (inl b) = asks_known flow reclaimer held entry b.0 b.1 a.0
line_stays flow o threads reclaimer c held entry line e d kept (inr a) (inr b) = known_or_loud flow reclaimer held entry a.0 b.0

line_leads_one : (flow : Flow) (o : Observer) (threads : ℕ) (reclaimer : Meanings) (c : Configuration) (held : List ℕ) (entry : Entry) (d e : Configuration) (kept other : List ℕ) → LineLeads flow o threads reclaimer c held entry d kept → LineLeads flow o threads reclaimer c held entry e other → (d ≡ e) × (kept ≡ other)
line_leads_one flow o threads reclaimer c held entry d e kept other (inl a) (inl b) =
    let same = asks_one flow reclaimer held entry a.0 b.0 a.1 b.1 in
    move_leads_one flow o threads reclaimer c _ b.0 d e kept other (subst (λ (m : Move). MoveLeads flow o threads reclaimer c _ m d kept) same a.2) b.2
line_leads_one flow o threads reclaimer c held entry d e kept other (inl a) (inr b) = absurd (asks_loud flow reclaimer held entry a.0 a.1 b.0)
line_leads_one flow o threads reclaimer c held entry d e kept other (inr a) (inl b) = absurd (asks_loud flow reclaimer held entry b.0 b.1 a.0)
line_leads_one flow o threads reclaimer c held entry d e kept other (inr a) (inr b) = (a.1 ∙ sym b.1, a.2 ∙ sym b.2)

-- ---- what all lines come to

comes_one : (flow : Flow) (o : Observer) (threads : ℕ) (reclaimer : Meanings) (lines : ℕ) (c : Configuration) (held : List ℕ) (entries : List Entry) (e f : End) → ComesFrom flow o threads reclaimer lines c held entries e → ComesFrom flow o threads reclaimer lines c held entries f → e ≡ f
comes_one flow o threads reclaimer lines c held [] e f a b = a ∙ sym b
comes_one flow o threads reclaimer lines c held (entry ∷ entries) e f (inl a) (inl b) = line_ends_one flow o threads reclaimer c held entry (lines + 1) e f a b
comes_one flow o threads reclaimer lines c held (entry ∷ entries) e f (inl a) (inr b) = absurd (line_stays flow o threads reclaimer c held entry (lines + 1) e b.0 b.1 a b.2)
comes_one flow o threads reclaimer lines c held (entry ∷ entries) e f (inr a) (inl b) = absurd (line_stays flow o threads reclaimer c held entry (lines + 1) f a.0 a.1 b a.2)
comes_one flow o threads reclaimer lines c held (entry ∷ entries) e f (inr a) (inr b) =
    let same = line_leads_one flow o threads reclaimer c held entry a.0 b.0 a.1 b.1 a.2 b.2 in
    let there = subst (λ (x : Configuration). ComesFrom flow o threads reclaimer (lines + 1) x b.1 entries f) (sym same.0) b.3 in
    comes_one flow o threads reclaimer (lines + 1) a.0 a.1 entries e f a.3 (subst (λ (k : List ℕ). ComesFrom flow o threads reclaimer (lines + 1) a.0 k entries f) (sym same.1) there)

pub one_end : (flow : Flow) (o : Observer) (reclaimer : Meanings) (schemes : List Scheme) (s : Schedule) (e f : End) → ComesTo flow o reclaimer schemes s e → ComesTo flow o reclaimer schemes s f → e ≡ f
unfolding ComesTo
one_end flow o reclaimer schemes s e f = go (first_configuration flow s.threads)
  where
    held : List ℕ
    held = reclaimer.begun schemes

    go : (c : Option Configuration) → Comes flow o reclaimer held s c e → Comes flow o reclaimer held s c f → e ≡ f
    go None a b = a ∙ sym b
    go (Some c) a b = comes_one flow o s.threads reclaimer 1 c held s.entries e f a b
