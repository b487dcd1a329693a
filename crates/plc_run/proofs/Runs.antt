-- Moves read backwards: what they come from, and that they come to one end.
use Rattle.std.proofs.Common.{◌≡◌, ℕ, ◌+◌, Bool, true, false, List, [], ◌∷◌, ◌++◌, Option, Some, None, length, slice_get, refl, sym, ap, ◌∙◌, arith}
use Rattle.plc_lang.specs.declared.syntax.Primitive.{Primitive}
use Rattle.plc_auto.specs.declared.event.Event.{Event}
use Rattle.plc_auto.specs.declared.observer.Observer.{Observer}
use Rattle.plc_flow.specs.declared.flow.Step.{Step}
use Rattle.plc_flow.specs.declared.flow.Flow.{Flow}
use Rattle.plc_moves.specs.declared.words.Move.{Move}
use Rattle.plc_moves.specs.declared.words.Move.TheVariants.{Start, Step as Take, Return, Free}
use Rattle.plc_mem.specs.declared.cell.RaceKind.{RaceKind}
use Rattle.plc_mem.specs.State.{State}
use Rattle.plc_mem.specs.Primitives.{race_of, goes, after, event_of}
use Rattle.plc_flow.specs.declared.points.Point.{Point}
use Rattle.plc_run.specs.Run.{Ending, Fine, Stuck, Raced, turn, recorded, execute, Configuration, MayTake, taken, Moves, Races, begin}
use Rattle.plc_flow.specs.Points.{steps_from}
use Rattle.plc_run.specs.Laws.{RunLaws}

-- two ways to take a step from one configuration are one
pub one_point : (flow : Flow) (threads : ℕ) (c : Configuration) (t nth : ℕ) (addr : Option ℕ) (p q : Point) (s r : Step) → MayTake flow threads c t nth addr p s → MayTake flow threads c t nth addr q r → p ≡ q
one_point flow threads c t nth addr p q s r a b = (let e = a.busy in let f = b.busy in cc)

pub one_step : (flow : Flow) (threads : ℕ) (c : Configuration) (t nth : ℕ) (addr : Option ℕ) (p q : Point) (s r : Step) → MayTake flow threads c t nth addr p s → MayTake flow threads c t nth addr q r → s ≡ r
one_step flow threads c t nth addr p q s r a b =
    let e = ap (λ (x : Point). slice_get (steps_from flow x.at) nth) (one_point flow threads c t nth addr p q s r a b) in
    let f = a.leaves_there in
    let g = b.leaves_there in
    cc

one_end : (flow : Flow) (o : Observer) (threads : ℕ) (c d e : Configuration) (move : Move) → Moves flow o threads c move d → Moves flow o threads c move e → d ≡ e
one_end flow o threads c d e (Start t op args) a b =
    let operation : a.0 ≡ b.0 = (let x = a.4 in let y = b.4 in cc) in
    let gate : a.1 ≡ b.1 = (let x = a.5 in let y = b.5 in cc) in
    let x = a.7 in
    let y = b.7 in
    cc
one_end flow o threads c d e (Take t nth addr) a b =
    let point = one_point flow threads c t nth addr a.0 b.0 a.1 b.1 a.4 b.4 in
    let step = one_step flow threads c t nth addr a.0 b.0 a.1 b.1 a.4 b.4 in
    let same = ap (taken c t addr) step in
    let x = a.5 in
    let y = b.5 in
    let state : a.2 ≡ b.2 = cc in
    let history : a.3 ≡ b.3 = cc in
    let z = a.6 in
    let w = b.6 in
    cc
one_end flow o threads c d e (Return t) a b = a.6 ∙ sym b.6
one_end flow o threads c d e (Free x) a b = a.2 ∙ sym b.2

race_is_last : (flow : Flow) (o : Observer) (threads : ℕ) (c d : Configuration) (move : Move) (kind : RaceKind) (k : ℕ) → Races flow threads c move kind k → Moves flow o threads c move d → ⊥
race_is_last flow o threads c d (Take t nth addr) kind k a b =
    let same = one_step flow threads c t nth addr a.0 b.0 a.1 b.1 a.2 b.4 in
    let e = ap (taken c t addr) same in
    let f = a.3 in
    let g = b.5 in
    cc
race_is_last flow o threads c d (Start t op args) kind k a b = a
race_is_last flow o threads c d (Return t) kind k a b = a
race_is_last flow o threads c d (Free x) kind k a b = a

one_race : (flow : Flow) (threads : ℕ) (c : Configuration) (move : Move) (kind other : RaceKind) (k n : ℕ) → Races flow threads c move kind k → Races flow threads c move other n → (kind ≡ other) × (k ≡ n)
one_race flow threads c (Take t nth addr) kind other k n a b =
    let same = ap (taken c t addr) (one_step flow threads c t nth addr a.0 b.0 a.1 b.1 a.2 b.2) in
    let x = a.3 in
    let y = b.3 in
    (cc, cc)
one_race flow threads c (Start t op args) kind other k n a b = absurd a
one_race flow threads c (Return t) kind other k n a b = absurd a
one_race flow threads c (Free x) kind other k n a b = absurd a

pub run_laws : (flow : Flow) (o : Observer) (threads : ℕ) → RunLaws flow o threads
run_laws flow o threads = record {
  begins = λ c e. begin e;
  starts = λ c t op args operation gate small idle there opens counted. (_, (operation, gate, small, idle, there, opens, counted, refl));
  steps = λ c t nth addr p step s h may fine. (_, (p, step, s, h, may, fine, refl));
  returns = λ c t p gate small busy there at_exit. (_, (p, gate, small, busy, there, at_exit, refl));
  frees = λ c a pos fine. (_, (pos, fine, refl));
  frees_allowed = λ c a m. m.1.1;
  frees_no_null = λ c m. absurd (omega (arith, m.1.0));
  one_end = one_end flow o threads;
  race_is_last = race_is_last flow o threads;
  one_race = one_race flow threads;
}

-- ---- a step taken primitive by primitive

-- what the first primitives come to is what the others begin with
abbrev pub followed : Ending → ℕ → ℕ → ℕ → List Primitive → Ending
followed (Fine s h) t a k ps = execute s h t a k ps
followed Stuck t a k ps = Stuck
followed (Raced kind n) t a k ps = Raced kind n

followed-turn : (r : Option RaceKind) (b : Bool) (k : ℕ) (next : Ending) (t a n : ℕ) (ps : List Primitive) → followed (turn r b k next) t a n ps ≡ turn r b k (followed next t a n ps)
followed-turn (Some kind) b k next t a n ps = refl
followed-turn None true k next t a n ps = refl
followed-turn None false k next t a n ps = refl

pub execute-append : (s : State) (h : List Event) (t a k : ℕ) (ps qs : List Primitive) → execute s h t a k (ps ++ qs) ≡ followed (execute s h t a k ps) t a (k + length ps) qs
execute-append s h t a k [] qs = ap (λ n. execute s h t a n qs) (omega arith)
execute-append s h t a k (p ∷ ps) qs =
    let later = execute-append (after s t a p) (recorded h (event_of s t p)) t a (k + 1) ps qs in
    let counted : k + 1 + length ps ≡ k + length (p ∷ ps) = omega arith in
    ap (turn (race_of s t p) (goes s t a p) k) (later ∙ ap (λ n. followed (execute (after s t a p) (recorded h (event_of s t p)) t a (k + 1) ps) t a n qs) counted)
    ∙ sym (followed-turn (race_of s t p) (goes s t a p) k (execute (after s t a p) (recorded h (event_of s t p)) t a (k + 1) ps) t a (k + length (p ∷ ps)) qs)
