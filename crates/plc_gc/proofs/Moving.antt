-- Garbage-collected runs go on, and each move leads to one configuration.
use Rattle.std.proofs.Common.{◌≡◌, ℕ, List, [], ◌∷◌, ◌++◌, Option, Some, None, slice_get, refl, sym, ap, ap₂, ◌∙◌, subst}
use Rattle.plc_lang.specs.declared.syntax.Op.{Op}
use Rattle.plc_flow.specs.declared.flow.Step.{Step}
use Rattle.plc_flow.specs.declared.flow.Gate.{Gate}
use Rattle.plc_flow.specs.declared.flow.Flow.{Flow}
use Rattle.plc_moves.specs.declared.words.Move.{Move}
use Rattle.plc_moves.specs.declared.words.Move.TheVariants.{Start, Step as Take, Return, Free}
use Rattle.plc_base.specs.Tables.{put_at}
use Rattle.plc_flow.specs.declared.points.Point.{Point}
use Rattle.plc_flow.specs.Points.{steps_from}
use Rattle.plc_gc.specs.State.{GcState, with_locals, starting}
use Rattle.plc_gc.specs.Run.{GcConfiguration, GcRun, first_configuration, begin, more, Moves, execute}
use Rattle.plc_gc.specs.RunLaws.{GcRunLaws}

one_value : {X : Type 0} (q : Option X) (x y : X) → q ≡ Some x → q ≡ Some y → x ≡ y
one_value q x y e f = cc

one_end : (flow : Flow) (threads : ℕ) (c d e : GcConfiguration) (move : Move) → Moves flow threads c move d → Moves flow threads c move e → d ≡ e
one_end flow threads c d e (Start t op args) m n =
    let operation = one_value _ m.0 n.0 m.4 n.4 in
    let gate = one_value _ m.1 n.1 m.5 n.5 in
    m.7 ∙ ap₂ (λ (o : Op) (g : Gate). record { state = with_locals c.state t (Some (starting o args)); points = put_at None c.points t (Some (record { op = op.0; at = g.entry.0 })) }) operation gate ∙ sym n.7
one_end flow threads c d e (Take t nth addr) m n =
    let point = one_value _ m.0 n.0 m.3.busy n.3.busy in
    let step = one_value _ m.1 n.1 m.3.leaves_there (ap (λ (p : Point). slice_get (steps_from flow p.at) nth) point ∙ n.3.leaves_there) in
    let state = one_value _ m.2 n.2 m.4 (ap (λ (s : Step). execute c.state t s.prims) step ∙ n.4) in
    m.5 ∙ ap₂ (λ (g : GcState) (q : Option Point). record { state = g; points = put_at None c.points t q }) state (ap₂ (λ (p : Point) (s : Step). Some (record p { at = s.to.0 })) point step) ∙ sym n.5
one_end flow threads c d e (Return t) m n = m.6 ∙ sym n.6
one_end flow threads c d e (Free a) m n = m ∙ sym n

-- ---- the moves of a run lead to one configuration

no_snoc : {X : Type 0} (xs : List X) (x : X) → [] ≡ xs ++ x ∷ [] → ⊥
no_snoc [] x e = cc
no_snoc (y ∷ xs) x e = cc

one_snoc : {X : Type 0} (xs ys : List X) (x y : X) → xs ++ x ∷ [] ≡ ys ++ y ∷ [] → (xs ≡ ys) × (x ≡ y)
one_snoc [] [] x y e = (refl, cc)
one_snoc [] (z ∷ ys) x y e = absurd (no_snoc ys y (cc))
one_snoc (z ∷ xs) [] x y e = absurd (no_snoc xs x (cc))
one_snoc (z ∷ xs) (w ∷ ys) x y e =
    let rest : xs ++ x ∷ [] ≡ ys ++ y ∷ [] = cc in
    let head : z ≡ w = cc in
    let parts = one_snoc xs ys x y rest in
    (ap₂ (λ v vs. v ∷ vs) head parts.0, parts.1)

-- the last move of a run, and the run before it
record Last (flow : Flow) (threads : ℕ) (moves : List Move) (move : Move) (d : GcConfiguration) : Type 0 where
  before : GcConfiguration
  run : GcRun flow threads moves before
  moved : Moves flow threads before move d

last_of : (flow : Flow) (threads : ℕ) (all moves : List Move) (move : Move) (d : GcConfiguration) → GcRun flow threads all d → all ≡ moves ++ move ∷ [] → Last flow threads moves move d
last_of flow threads all moves move d (begin e) same = absurd (no_snoc moves move same)
last_of flow threads all moves move d (more {moves = ms} {c = c} run m moved) same =
    let parts = one_snoc ms moves m move same in
    record { before = c; run = subst (λ ms. GcRun flow threads ms c) parts.0 run; moved = subst (λ m. Moves flow threads c m d) parts.1 moved }

first_of_none : (flow : Flow) (threads : ℕ) (all : List Move) (d : GcConfiguration) → GcRun flow threads all d → all ≡ [] → first_configuration flow threads ≡ Some d
first_of_none flow threads all d (begin e) same = e
first_of_none flow threads all d (more {moves = ms} {c = c} run m moved) same = absurd (no_snoc ms m (sym same))

one_run : (flow : Flow) (threads : ℕ) (moves : List Move) (c d : GcConfiguration) → GcRun flow threads moves c → GcRun flow threads moves d → c ≡ d
one_run flow threads moves c d (begin e) other = one_value _ c d e (first_of_none flow threads [] d other refl)
one_run flow threads moves c d (more {moves = ms} {c = b} run m moved) other =
    let last = last_of flow threads (ms ++ m ∷ []) ms m d other refl in
    let same : b ≡ last.before = one_run flow threads ms b last.before run last.run in
    one_end flow threads last.before c d m (subst (λ b. Moves flow threads b m c) same moved) last.moved

pub gc_run_laws : (flow : Flow) (threads : ℕ) → GcRunLaws flow threads
gc_run_laws flow threads = record {
  begins = λ c e. begin e;
  starts = λ c t op args operation gate small idle named opens given. (_, (operation, gate, small, idle, named, opens, given, refl));
  steps = λ c t nth addr p step g may taken. (_, (p, step, g, may, taken, refl));
  any_address = λ c d t nth addr other m. m;
  returns = λ c t p gate small busy opens there. (_, (p, gate, small, busy, opens, there, refl));
  frees = λ c a. refl;
  one_end = one_end flow threads;
  one_run = one_run flow threads;
}
