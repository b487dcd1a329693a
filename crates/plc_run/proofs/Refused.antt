-- Why there is no such move: a cause is named exactly where `reach` blocks, so exactly where there is none.
use Rattle.std.proofs.Common.{Result, Ok, Err, IfOk, IsTrue, ◌≡◌, ◌↔◌, ◌⊎◌, inl, inr, ℕ, ◌+◌, ◌<◌, Bool, true, false, cond, ◌==◌, ◌&&◌, List, [], ◌∷◌, Option, Some, None, is_some, is_none, option_map, drop, length, get_or, slice_get, refl, sym, ap, ◌∙◌, subst, arith}
use Rattle.std.specs.Prelude.{nat_lt}
use Rattle.std.proofs.lemmas.Bool.{lt-ltb}
use Rattle.std.proofs.lemmas.List.{at_drop_more}
use Rattle.std.proofs.lemmas.Option.{slice_get_within, slice_get_cases}
use Rattle.plc_base.specs.declared.memory.NoMemory.{NoMemory}
use Rattle.plc_base.proofs.Lists.{held_below}
use Rattle.plc_lang.specs.declared.syntax.Op.{Op}
use Rattle.plc_lang.specs.declared.syntax.Primitive.{Primitive}
use Rattle.plc_lang.specs.Locals.{parameters_of}
use Rattle.plc_auto.specs.declared.event.Event.{Event}
use Rattle.plc_auto.specs.declared.observer.Observer.{Observer}
use Rattle.plc_auto.specs.Location.{location}
use Rattle.plc_flow.specs.declared.flow.Step.{Step}
use Rattle.plc_flow.specs.declared.flow.Gate.{Gate}
use Rattle.plc_flow.specs.declared.flow.Flow.{Flow}
use Rattle.plc_flow.specs.declared.points.Point.{Point}
use Rattle.plc_flow.specs.Points.{steps_from, names_rightly}
use Rattle.plc_flow.specs.WellFormed.{IsWellFormed, FlowFits}
use Rattle.plc_moves.specs.declared.words.Move.{Move}
use Rattle.plc_moves.specs.declared.words.Move.TheVariants.{Start, Step as Take, Return, Free}
use Rattle.plc_moves.specs.Standing.{entered, at_exit}
use Rattle.plc_mem.specs.declared.cell.Outcome.{Outcome}
use Rattle.plc_mem.specs.declared.cell.Outcome.TheVariants.{Next, Blocked, Race}
use Rattle.plc_mem.specs.declared.cell.RaceKind.{RaceKind}
use Rattle.plc_mem.specs.State.{State}
use Rattle.plc_mem.specs.Primitives.{race_of, goes, after, event_of}
use Rattle.plc_mem.specs.Outcomes.{outcome, moved, outcome_of, next_of, address_or_null}
use Rattle.plc_run.specs.declared.refusal.Refusal.{Refusal}
use Rattle.plc_run.specs.declared.refusal.Refusal.TheVariants as because
use Rattle.plc_run.specs.Run.{Ending, Fine, Stuck, Raced, turn, recorded, execute, Configuration, point_of, taken}
use Rattle.plc_run.specs.Reach.{Reached, Goes, Blocks, Forbids, Breaks, started, start_from, ended_as, step_leads, take_step, step_from, return_from, may_free, free_of, reach}
use Rattle.plc_run.specs.Position.{Position, threads_of, IsOfRun, HasNone}
use Rattle.plc_run.specs.Refusals.{blocked_turn, blocked_in, blocked_by, unstarted, untaken, start_refused, step_refused, return_refused, of_thread, move_refused, refusal_of, IsNamedExactly}
use Rattle.plc_run.proofs.Reaching.{LeadsTo, reach_leads}
use Rattle.plc_run.proofs.Judged.{run_allowed}

-- ---- primitives in order, up to the one that is blocked

-- which is blocked, by the outcome of the first of them
abbrev pub halted : Outcome → ℕ → Option ℕ → Option ℕ
halted (Next e) k later = later
halted Blocked k later = Some k
halted (Race kind) k later = None

blocked_first : (s : State) (t a k : ℕ) (p : Primitive) (ps : List Primitive) → blocked_in s t a k (p ∷ ps) ≡ halted (outcome_of s t a p) k (blocked_in (next_of s t a p) t a (k + 1) ps)
unfolding outcome_of next_of
blocked_first s t a k p ps = go (race_of s t p) (goes s t a p)
  where
    go : (r : Option RaceKind) (g : Bool) → blocked_turn r g k (blocked_in (after s t a p) t a (k + 1) ps)
        ≡ halted (outcome r g (event_of s t p)) k (blocked_in (moved r g s (after s t a p)) t a (k + 1) ps)
    go (Some kind) g = refl
    go None true = refl
    go None false = refl

-- the outcome of the primitive at a place says what is left to ask
pub blocked_at : (s : State) (t a k : ℕ) (ps : List Primitive) (d : Primitive) (o : Outcome) (r : Option ℕ) → k < length ps → o ≡ outcome_of s t a (get_or ps k d) → blocked_in s t a k (drop k ps) ≡ r
    → halted o k (blocked_in (next_of s t a (get_or ps k d)) t a (k + 1) (drop (k + 1) ps)) ≡ r
blocked_at s t a k ps d o r l out same =
    ap (λ o. halted o k (blocked_in (next_of s t a (get_or ps k d)) t a (k + 1) (drop (k + 1) ps))) out
    ∙ sym (at_drop_more (blocked_in s t a k) ps k d l ∙ blocked_first s t a k (get_or ps k d) (drop (k + 1) ps)) ∙ same

-- ---- a primitive is blocked exactly where all of them get stuck

abbrev is_stuck : Ending → Bool
is_stuck (Fine s h) = false
is_stuck Stuck = true
is_stuck (Raced kind k) = false

blocked_stuck : (s : State) (h : List Event) (t a k : ℕ) (ps : List Primitive) → is_some (blocked_in s t a k ps) ≡ is_stuck (execute s h t a k ps)
blocked_stuck s h t a k [] = refl
blocked_stuck s h t a k (p ∷ ps) =
    go (race_of s t p) (goes s t a p) (blocked_in (after s t a p) t a (k + 1) ps) (execute (after s t a p) (recorded h (event_of s t p)) t a (k + 1) ps)
    (blocked_stuck (after s t a p) (recorded h (event_of s t p)) t a (k + 1) ps)
  where
    go : (r : Option RaceKind) (g : Bool) (later : Option ℕ) (next : Ending) → is_some later ≡ is_stuck next → is_some (blocked_turn r g k later) ≡ is_stuck (turn r g k next)
    go (Some kind) g later next e = refl
    go None true later next e = e
    go None false later next e = refl

-- ---- a cause is named exactly where `reach` blocks

abbrev is_blocked : Reached → Bool
is_blocked (Goes d) = false
is_blocked Blocks = true
is_blocked (Forbids a) = false
is_blocked (Breaks kind k) = false

-- one or the other cause, by a test
either : (b : Bool) (x y : Refusal) → is_some (cond b (Some x) (Some y)) ≡ true
either true x y = refl
either false x y = refl

-- a cause where a test fails
failed : (b : Bool) (x : Refusal) (d : Configuration) → is_some (cond b None (Some x)) ≡ is_blocked (cond b (Goes d) Blocks)
failed true x d = refl
failed false x d = refl

-- a place past the last holds nothing
none_past : {A B : Type 0} (xs : List (Option A)) (t : ℕ) (x : A) → nat_lt t (length xs) ≡ false → get_or xs t None ≡ Some x → B
none_past xs t x past at = let below = lt-ltb t (length xs) (held_below xs t x at) in absurd (cc)

-- each operation has a gate
no_gate : {B : Type 0} (flow : Flow) → IsWellFormed flow → (op : ℕ) (o : Op) → slice_get flow.file.ops op ≡ Some o → slice_get flow.gates op ≡ None → B
no_gate flow well op o named none = elim (slice_get_cases flow.gates op).1 [
  | inl there ↦ (let is = there.2 in absurd (cc))
  | inr past ↦ absurd (omega (arith, slice_get_within flow.file.ops op o named, well.gates, past.0))
]

start_same : (flow : Flow) → IsWellFormed flow → (c : Configuration) (t op : ℕ) (args : List ℕ) → is_some (of_thread t (length c.points) (start_refused flow op args (point_of c t))) ≡ is_blocked (start_from flow c t op args)
start_same flow well c t op args = go (nat_lt t (length c.points)) (point_of c t)
  where
    counted : (b : Bool) (o : Op) (p : Point) → is_some (cond {A = Option Refusal} b None (Some because.Arguments)) ≡ is_blocked (started c t args (cond {A = Option (Op × Point)} b (Some (o, p)) None))
    counted true o p = refl
    counted false o p = refl

    named : (o : Option Op) → slice_get flow.file.ops op ≡ o → (g : Option Gate) → slice_get flow.gates op ≡ g → is_some (unstarted args o) ≡ is_blocked (started c t args (entered op args o g))
    named None there g opens = refl
    named (Some o) there None opens = no_gate flow well op o there opens
    named (Some o) there (Some g) opens = counted (length args == parameters_of o) o (record { op = op; at = g.entry.0 })

    go : (b : Bool) (q : Option Point) → is_some (cond b (start_refused flow op args q) (Some because.NoThread))
        ≡ is_blocked (started c t args (cond (b && is_none q) (entered op args (slice_get flow.file.ops op) (slice_get flow.gates op)) None))
    go true None = named (slice_get flow.file.ops op) refl (slice_get flow.gates op) refl
    go true (Some p) = refl
    go false q = refl

ended_same : (c : Configuration) (t : ℕ) (p : Point) (to : ℕ) (end : Ending) → is_blocked (ended_as c t p to end) ≡ is_stuck end
ended_same c t p to (Fine s h) = refl
ended_same c t p to Stuck = refl
ended_same c t p to (Raced kind k) = refl

mapped : (k : Option ℕ) → is_some (option_map blocked_by k) ≡ is_some k
mapped None = refl
mapped (Some k) = refl

step_same : (flow : Flow) (c : Configuration) (t nth : ℕ) (addr : Option ℕ) → is_some (of_thread t (length c.points) (step_refused flow c t nth addr (point_of c t))) ≡ is_blocked (step_from flow c t nth addr (point_of c t))
step_same flow c t nth addr = go (nat_lt t (length c.points)) refl (point_of c t) refl
  where
    shaped : (p : Point) (s : Step) (b : Bool)
        → is_some (cond b (option_map blocked_by (blocked_in c.state t (address_or_null addr) 0 s.prims)) (cond (is_some addr) (Some because.NotAllocating) (Some because.NoAddress)))
        ≡ is_blocked (cond b (step_leads c t p s addr) Blocks)
    shaped p s true =
        mapped (blocked_in c.state t (address_or_null addr) 0 s.prims) ∙ blocked_stuck c.state c.history t (address_or_null addr) 0 s.prims
        ∙ sym (ended_same c t p s.to.0 (taken c t addr s))
    shaped p s false = either (is_some addr) because.NotAllocating because.NoAddress

    leaving : (p : Point) (s : Option Step) → is_some (untaken c t addr s) ≡ is_blocked (take_step c t addr (option_map {U = Point × Step} (λ (s : Step). (p, s)) s))
    leaving p None = refl
    leaving p (Some s) = shaped p s (names_rightly addr s)

    go : (b : Bool) → nat_lt t (length c.points) ≡ b → (q : Option Point) → point_of c t ≡ q → is_some (cond b (step_refused flow c t nth addr q) (Some because.NoThread)) ≡ is_blocked (step_from flow c t nth addr q)
    go true known None stands = refl
    go true known (Some p) stands = leaving p (slice_get (steps_from flow p.at) nth)
    go false past None stands = refl
    go false past (Some p) stands = none_past c.points t p past stands

return_same : (flow : Flow) (c : Configuration) (t : ℕ) → is_some (of_thread t (length c.points) (return_refused flow (point_of c t))) ≡ is_blocked (return_from flow c t (point_of c t))
return_same flow c t = go (nat_lt t (length c.points)) refl (point_of c t) refl
  where
    go : (b : Bool) → nat_lt t (length c.points) ≡ b → (q : Option Point) → point_of c t ≡ q → is_some (cond b (return_refused flow q) (Some because.NoThread)) ≡ is_blocked (return_from flow c t q)
    go true known None stands = refl
    go true known (Some p) stands = failed (at_exit flow (Some p)) because.NotAtExit _
    go false past None stands = refl
    go false past (Some p) stands = none_past c.points t p past stands

free_same : (o : Observer) (c : Configuration) (a : ℕ) → is_some (cond {A = Option Refusal} (a == 0) (Some because.Null) None) ≡ is_blocked (free_of o c a)
free_same o c a = go (a == 0) (may_free o (λ t. location o c.history t a) a (length c.points)) _
  where
    go : (null may : Bool) (d : Configuration) → is_some (cond {A = Option Refusal} null (Some because.Null) None) ≡ is_blocked (cond null Blocks (cond may (Goes d) (Forbids a)))
    go true may d = refl
    go false true d = refl
    go false false d = refl

refused_same : (flow : Flow) → IsWellFormed flow → (o : Observer) (c : Configuration) (move : Move) → is_some (move_refused flow (length c.points) c move) ≡ is_blocked (reach flow o c move)
unfolding reach
refused_same flow well o c (Start t op args) = start_same flow well c t op.0 args
refused_same flow well o c (Take t nth addr) = step_same flow c t nth addr
refused_same flow well o c (Return t) = return_same flow c t
refused_same flow well o c (Free a) = free_same o c a

-- ---- exactly where there is no such move

none_exact : (flow : Flow) (o : Observer) (threads : ℕ) (c : Configuration) (move : Move) (r : Reached) → LeadsTo flow o threads c move r → IsTrue (is_blocked r) ↔ HasNone flow o threads c move
none_exact flow o threads c move (Goes d) leads = (λ e. cc, λ none. absurd (none.no_move d leads))
none_exact flow o threads c move Blocks leads = (λ e. leads, λ none. refl)
none_exact flow o threads c move (Forbids a) leads = (λ e. cc, λ none. absurd (none.not_forbidden leads.1))
none_exact flow o threads c move (Breaks kind k) leads = (λ e. cc, λ none. absurd (none.no_race kind k leads))

refused_exact : (flow : Flow) → FlowFits flow → (o : Observer) (p : Position) (move : Move) → IsOfRun flow o p → IsTrue (is_some (refusal_of flow p move)) ↔ ((p.ended ≡ true) ⊎ HasNone flow o (threads_of p) p.here move)
unfolding refusal_of
refused_exact flow fits o p move run = go p.ended
  where
    go : (b : Bool) → IsTrue (is_some (cond b (Some because.Ended) (move_refused flow (threads_of p) p.here move))) ↔ ((b ≡ true) ⊎ HasNone flow o (threads_of p) p.here move)
    go true = (λ e. inl refl, λ e. refl)
    go false =
        let same = refused_same flow fits.well o p.here move in
        let law = none_exact flow o (threads_of p) p.here move (reach flow o p.here move) (reach_leads flow o p.here move (run_allowed flow o (threads_of p) run.moves p.here run.run)) in
        (λ e. inr (law.0 (sym same ∙ e)), λ q. elim q [ inl ended ↦ cc | inr none ↦ same ∙ law.1 none ])

-- ---- what the code answers

pub cause_exact : (flow : Flow) (p : Position) (move : Move) (r : Option Refusal) → FlowFits flow → r ≡ refusal_of flow p move → IsNamedExactly flow p move r
cause_exact flow p move r fits is = λ o run.
    subst (λ (r : Option Refusal). IsTrue (is_some r) ↔ ((p.ended ≡ true) ⊎ HasNone flow o (threads_of p) p.here move)) (sym is) (refused_exact flow fits o p move run)

pub answer_exact : (flow : Flow) (p : Position) (move : Move) (r : Result (Option Refusal) NoMemory) → FlowFits flow → IfOk r (λ x. x ≡ refusal_of flow p move)
    → IfOk r (IsNamedExactly flow p move)
answer_exact flow p move (Ok x) fits is = cause_exact flow p move x fits is
answer_exact flow p move (Err x) fits is = tt

-- a race has ended the run
pub cause_ended : (flow : Flow) (p : Position) (move : Move) → p.ended ≡ true → Some because.Ended ≡ refusal_of flow p move
unfolding refusal_of
cause_ended flow p move e = ap (λ b. cond b (Some because.Ended) (move_refused flow (threads_of p) p.here move)) (sym e)

-- none has
cause_live : (flow : Flow) (p : Position) (move : Move) → p.ended ≡ false → move_refused flow (threads_of p) p.here move ≡ refusal_of flow p move
unfolding refusal_of
cause_live flow p move e = ap (λ b. cond b (Some because.Ended) (move_refused flow (threads_of p) p.here move)) (sym e)

pub answer_live : (flow : Flow) (p : Position) (move : Move) (r : Result (Option Refusal) NoMemory) → p.ended ≡ false → IfOk r (λ x. x ≡ move_refused flow (threads_of p) p.here move)
    → IfOk r (λ x. x ≡ refusal_of flow p move)
answer_live flow p move (Ok x) live is = is ∙ cause_live flow p move live
answer_live flow p move (Err x) live is = tt
