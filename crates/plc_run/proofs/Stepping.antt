-- What the code's parts of a move make together.
use Rattle.std.proofs.Common.{Result, Ok, Err, IfOk, OnOk, OnErr, ◌≡◌, ℕ, zero, suc, ◌+◌, ◌<◌, Bool, true, false, cond, List, [], ◌∷◌, ◌++◌, Option, Some, None, length, get_or, set, replicate, refl, sym, ap, ◌∙◌, subst, arith, append_assoc}
use Rattle.std.proofs.lemmas.List.{length-replicate}
use Rattle.plc_base.specs.declared.ids.OpId.{OpId}
use Rattle.plc_base.specs.declared.memory.NoMemory.{NoMemory}
use Rattle.plc_run.specs.Fit.{ConfigurationFits}
use Rattle.plc_moves.specs.Standing.{begun, step_of, at_exit}
use Rattle.plc_base.proofs.Tables.{put_is_set, length_put, put_put}
use Rattle.plc_moves.proofs.Moves.{exit_so}
use Rattle.plc_lang.specs.declared.syntax.Op.{Op}
use Rattle.plc_lang.specs.declared.syntax.Primitive.{Primitive}
use Rattle.plc_lang.specs.Shape.{Shape, PrimitivesIn}
use Rattle.plc_auto.specs.declared.event.Event.{Event}
use Rattle.plc_auto.specs.declared.observer.Observer.{Observer}
use Rattle.plc_flow.specs.declared.flow.Step.{Step}
use Rattle.plc_flow.specs.declared.flow.Flow.{Flow}
use Rattle.plc_flow.specs.StepsByPoint.{IsIndexOf, first_points}
use Rattle.plc_moves.specs.declared.words.Move.{Move}
use Rattle.plc_moves.specs.declared.words.Move.TheVariants.{Start, Step as Take, Return, Free}
use Rattle.plc_mem.specs.declared.cell.RaceKind.{RaceKind}
use Rattle.plc_mem.specs.State.{State, Locals, with_locals, starting}
use Rattle.plc_mem.specs.Fit.{shape}
use Rattle.plc_base.specs.Tables.{put_at}
use Rattle.plc_mem.specs.Primitives.{race_of, goes, after, event_of}
use Rattle.plc_mem.specs.declared.undo.Undo.{Undo}
use Rattle.plc_mem.specs.Undoing.{TakesBack}
use Rattle.plc_mem.specs.Outcomes.{address_or_null}
use Rattle.plc_run.specs.declared.execute.Ended.{Ended}
use Rattle.plc_run.specs.declared.execute.Ended.TheVariants as ends
use Rattle.plc_run.specs.Ended.{ending, MayExecute, MayTry}
use Rattle.plc_run.proofs.Executing.{given_back}
use Rattle.plc_flow.specs.declared.points.Point.{Point}
use Rattle.plc_run.specs.Run.{Ending, Fine, Stuck, Raced, turn, recorded, execute, Configuration, point_of, taken, Moves, Run, begin, more, beginning, initialised, first_configuration}
use Rattle.plc_flow.specs.Points.{names_rightly}
use Rattle.plc_run.specs.Reach.{Reached, Goes, Blocks, Forbids, Breaks, started, start_from, return_from, ended_as, concluded, step_leads, is_fine, Tries, Acts, ActsWith, take_step, step_from, free_of, reach, answer, Reaches}
use Rattle.plc_run.specs.declared.moved.Moved.{Moved}
use Rattle.plc_run.specs.Position.{Position, threads_of, Follows, IsOfRun, Answers}
use Rattle.plc_run.proofs.Reaching.{LeadsTo, reach_leads}
use Rattle.plc_run.proofs.Judged.{run_allowed}

-- ---- events that are gathered beside the history

-- the same end with a history before its own
abbrev pub with_history : List Event → Ending → Ending
with_history h (Fine s g) = Fine s (h ++ g)
with_history h Stuck = Stuck
with_history h (Raced kind k) = Raced kind k

recorded_with_history : (h g : List Event) (e : Option Event) → recorded (h ++ g) e ≡ h ++ recorded g e
recorded_with_history h g None = refl
recorded_with_history h g (Some e) = append_assoc h g (e ∷ [])

execute_with_history : (s : State) (h g : List Event) (t a k : ℕ) (ps : List Primitive) → execute s (h ++ g) t a k ps ≡ with_history h (execute s g t a k ps)
execute_with_history s h g t a k [] = refl
execute_with_history s h g t a k (p ∷ ps) =
    ap (λ x. turn (race_of s t p) (goes s t a p) k (execute (after s t a p) x t a (k + 1) ps)) (recorded_with_history h g (event_of s t p))
    ∙ ap (turn (race_of s t p) (goes s t a p) k) (execute_with_history (after s t a p) h (recorded g (event_of s t p)) t a (k + 1) ps)
    ∙ go (race_of s t p) (goes s t a p) (execute (after s t a p) (recorded g (event_of s t p)) t a (k + 1) ps)
  where
    go : (r : Option RaceKind) (b : Bool) (next : Ending) → turn r b k (with_history h next) ≡ with_history h (turn r b k next)
    go (Some kind) b next = refl
    go None true next = refl
    go None false next = refl

append_none : (h : List Event) → h ++ [] ≡ h
append_none [] = refl
append_none (e ∷ h) = ap (λ x. e ∷ x) (append_none h)

-- a step that may be taken
pub stepped : (flow : Flow) (c : Configuration) (t nth : ℕ) (addr : Option ℕ) (p : Point) (step : Step) → step_of flow nth (point_of c t) ≡ Some (p, step) → names_rightly addr step ≡ true
    → step_from flow c t nth addr (point_of c t) ≡ ended_as c t p step.to.0 (taken c t addr step)
stepped flow c t nth addr p step at shaped = ap (take_step c t addr) at ∙ ap (λ b. cond b (ended_as c t p step.to.0 (taken c t addr step)) Blocks) shaped

-- how primitives ended, where their events were gathered beside the history and then put after it
pub heard_end : (w new : State) (h g : List Event) (t a : ℕ) (ps : List Primitive) (e : Ended) → ending e new g ≡ execute w [] t a 0 ps → ending e new (h ++ g) ≡ execute w h t a 0 ps
heard_end w new h g t a ps e ran = go e ∙ ap (with_history h) ran ∙ sym (execute_with_history w h [] t a 0 ps) ∙ ap (λ h. execute w h t a 0 ps) (append_none h)
  where
    go : (e : Ended) → ending e new (h ++ g) ≡ with_history h (ending e new g)
    go ends.Fine = refl
    go ends.Blocked = refl
    go (ends.Raced kind k) = refl

-- where they didn't succeed, nothing is put after it
pub halted_end : (w new : State) (h g : List Event) (t a : ℕ) (ps : List Primitive) (e : Ended) → is_fine e ≡ false → ending e new g ≡ execute w [] t a 0 ps → ending e new h ≡ execute w h t a 0 ps
halted_end w new h g t a ps e halts ran = go e halts ∙ heard_end w new h g t a ps e ran
  where
    go : (e : Ended) → is_fine e ≡ false → ending e new h ≡ ending e new (h ++ g)
    go ends.Fine halts = cc
    go ends.Blocked halts = refl
    go (ends.Raced kind k) halts = refl

-- ---- where runs begin

put_first : (threads : ℕ) → 0 < threads → (xs : List (Option Locals)) → xs ≡ replicate threads None → (l : Locals) → put_at None (put_at None xs 0 (Some l)) 0 None ≡ xs
put_first zero some xs e l = absurd (omega arith)
put_first (suc n) some xs e l = put_put None xs 0 (Some l) None ∙ ap (λ ys. put_at None ys 0 None) e ∙ sym e

pub begun_with : (flow : Flow) (threads : ℕ) (m : State) (l : Locals) (h : List Event) (points : List (Option Point)) → 0 < threads → m.locals ≡ replicate threads None → points ≡ replicate threads None
    → Fine (with_locals m 0 (Some l)) h ≡ initialised flow threads → first_configuration flow threads ≡ Some (record { state = m; history = h; points = points })
unfolding with_locals
begun_with flow threads m l h points some idle same e =
    sym (ap (beginning threads) e) ∙ ap (λ xs. Some (record { state = record m { locals = xs }; history = h; points = replicate threads None })) (put_first threads some m.locals idle l) ∙ ap (λ ps. Some (record { state = m; history = h; points = ps })) (sym same)

-- ---- moves

move_threads : (flow : Flow) (o : Observer) (c d : Configuration) (move : Move) → Moves flow o (length c.points) c move d → length d.points ≡ length c.points
move_threads flow o c d (Start t op args) m = ap (λ (x : Configuration). length x.points) m.7 ∙ length_put None c.points t _ m.2
move_threads flow o c d (Take t nth addr) m = ap (λ (x : Configuration). length x.points) m.6 ∙ length_put None c.points t _ m.4.known
move_threads flow o c d (Return t) m = ap (λ (x : Configuration). length x.points) m.6 ∙ length_put None c.points t _ m.2
move_threads flow o c d (Free a) m = ap (λ (x : Configuration). length x.points) m.2

run_more : (flow : Flow) (o : Observer) (c d : Configuration) (move : Move) (n : ℕ) → Run flow o (length c.points) n c → Moves flow o (length c.points) c move d → Run flow o (length d.points) (suc n) d
run_more flow o c d move n run m = subst (λ k. Run flow o k (suc n) d) (sym (move_threads flow o c d move m)) (more run move m)

-- what each result of a move says of the answer
answers_so : (flow : Flow) (o : Observer) (p q : Position) (move : Move) (r : Reached) → p.ended ≡ false → LeadsTo flow o (threads_of p) p.here move r → Reaches r p q → Answers flow o p move (answer r) q
answers_so flow o p q move (Goes d) live leads to = (live, to.1 ∙ live, subst (Moves flow o (threads_of p) p.here move) (sym to.0) leads)
answers_so flow o p q move Blocks live leads to = (λ e. leads, to)
answers_so flow o p q move (Forbids a) live leads to = (live, leads.0, leads.1, to)
answers_so flow o p q move (Breaks kind k) live leads to = (live, leads, to)

run_so : (flow : Flow) (o : Observer) (p q : Position) (move : Move) (r : Reached) → IsOfRun flow o p → LeadsTo flow o (threads_of p) p.here move r → Reaches r p q → Follows o q → IsOfRun flow o q
run_so flow o p q move (Goes d) run leads to follows = record {
  moves = suc run.moves;
  run = subst (λ (c : Configuration). Run flow o (length c.points) (suc run.moves) c) (sym to.0) (run_more flow o p.here d move run.moves run.run leads);
  follows = follows;
  indexed = subst (IsIndexOf (first_points flow)) (sym to.2) run.indexed;
}
run_so flow o p q move Blocks run leads to follows = subst (IsOfRun flow o) (sym to) run
run_so flow o p q move (Forbids a) run leads to follows = subst (IsOfRun flow o) (sym to) run
run_so flow o p q move (Breaks kind k) run leads to follows = subst (IsOfRun flow o) (sym to) (record { moves = run.moves; run = run.run; follows = run.follows; indexed = run.indexed })

pub answered : (flow : Flow) (o : Observer) (p q : Position) (move : Move) (r : Moved) → p.ended ≡ false → IsOfRun flow o p → r ≡ answer (reach flow o p.here move) → Reaches (reach flow o p.here move) p q → Answers flow o p move r q
answered flow o p q move r live run e to =
    rw e (answers_so flow o p q move (reach flow o p.here move) live (reach_leads flow o p.here move (run_allowed flow o (threads_of p) run.moves p.here run.run)) to)

pub run_answered : (flow : Flow) (o : Observer) (p q : Position) (move : Move) → IsOfRun flow o p → Reaches (reach flow o p.here move) p q → Follows o q → IsOfRun flow o q
run_answered flow o p q move run to follows =
    run_so flow o p q move (reach flow o p.here move) run (reach_leads flow o p.here move (run_allowed flow o (threads_of p) run.moves p.here run.run)) to follows

-- ---- the primitives of a step

-- it stayed, and its locals were put back
pub restored : (v q : Position) (mid s : State) (t : ℕ) (l m : Locals) → get_or v.here.state.locals t None ≡ Some l → mid ≡ record v.here.state { locals = set v.here.state.locals t None }
    → q ≡ record v { here = record v.here { state = mid } } → m ≡ l → s ≡ with_locals q.here.state t (Some m) → record q { here = record q.here { state = s } } ≡ v
restored v q mid s t l m held rest same as_lent given =
    let back : with_locals mid t (Some l) ≡ v.here.state = ap (λ s. with_locals s t (Some l)) rest ∙ given_back v.here.state t l held in
    let state : s ≡ v.here.state = given ∙ (λ i. with_locals (same i).here.state t (Some (as_lent i))) ∙ back in
    λ i. record { here = record { state = state i; history = (same i).here.history; points = (same i).here.points }; ended = (same i).ended; located = (same i).located; steps = (same i).steps }

-- the memory is whole with the locals that were lent
pub whole : (s lent : State) (t : ℕ) (l : Locals) → get_or s.locals t None ≡ Some l → lent ≡ record s { locals = set s.locals t None } → with_locals lent t (Some l) ≡ s
whole s lent t l held rest = ap (λ (s : State). with_locals s t (Some l)) rest ∙ given_back s t l held

some_same : {A : Type 0} (x y : A) → Some x ≡ Some y → x ≡ y
some_same x y e = cc

-- a thread that is busy has locals to lend
pub has_locals : (s : State) (t : ℕ) (ps : List Primitive) (B : Type 0) → MayTry s t ps → None ≡ get_or s.locals t None → B
has_locals s t ps B may none = let e : None ≡ Some may.locals = none ∙ may.held in cc

-- primitives that fit the memory and the locals of a thread fit them while the locals are lent
pub named_lent : (s lent : State) (t : ℕ) (me : Locals) (ps : List Primitive) → MayTry s t ps → get_or s.locals t None ≡ Some me → lent ≡ record s { locals = set s.locals t None }
    → MayExecute lent me ps
named_lent s lent t me ps may held rest =
    let same = some_same may.locals me (sym may.held ∙ held) in
    record { fit = subst (λ (x : Shape). PrimitivesIn x ps) ((λ i. shape s (same i)) ∙ (λ i. shape (sym rest i) me)) may.fit; short = may.short }

-- what primitives left, once the locals that they were lent were put back
pub locals_back : (v q new : Position) (lent s : State) (t a : ℕ) (l m : Locals) (ps : List Primitive) (r : Result Ended NoMemory) → get_or v.here.state.locals t None ≡ Some l → lent ≡ record v.here.state { locals = set v.here.state.locals t None } → q ≡ new
    → IfOk r (λ e. ActsWith t a ps (record v { here = record v.here { state = lent } }) l e new m) → s ≡ with_locals q.here.state t (Some m) → IfOk r (λ e. Acts t a ps v e (record q { here = record q.here { state = s } }))
locals_back v q new lent s t a l m ps (Err x) held rest same acts given = tt
locals_back v q new lent s t a l m ps (Ok e) held rest same acts given =
    let back = whole v.here.state lent t l held rest in
    let w = subst (λ (q : Position). ActsWith t a ps (record v { here = record v.here { state = lent } }) l e q m) (sym same) acts in
    record {
      ends = ap (λ s. ending e s q.here.history) given ∙ w.ends ∙ ap (λ s. execute s v.here.history t a 0 ps) back;
      points = w.points;
      ended = w.ended;
      steps = w.steps;
      unchanged = λ halts. restored v q lent s t l m held rest (w.unchanged halts).0 (w.unchanged halts).1 given;
    }

pub locals_back_err : (v q new : Position) (lent s : State) (t : ℕ) (l m : Locals) (r : Result Ended NoMemory) → get_or v.here.state.locals t None ≡ Some l → lent ≡ record v.here.state { locals = set v.here.state.locals t None } → q ≡ new
    → OnErr r ((new ≡ record v { here = record v.here { state = lent } }) × (m ≡ l)) → s ≡ with_locals q.here.state t (Some m) → OnErr r (record q { here = record q.here { state = s } } ≡ v)
locals_back_err v q new lent s t l m (Ok e) held rest same err given = tt
locals_back_err v q new lent s t l m (Err x) held rest same err given = restored v q lent s t l m held rest (same ∙ err.0) err.1 given

-- ---- primitives that were tried

-- they left the memory and the locals so, and nothing else is new
pub tried_unheard : (t a : ℕ) (ps : List Primitive) (v : Position) (s : State) (l m : Locals) (r : Result Ended NoMemory) (us : List Undo) → TakesBack t v.here.state l us s m
    → IfOk r (λ e. ending e (with_locals s t (Some m)) v.here.history ≡ execute (with_locals v.here.state t (Some l)) v.here.history t a 0 ps) → Tries t a ps v l r (record v { here = record v.here { state = s } }) m us
tried_unheard t a ps v s l m r us takes ends = record { takes = takes; ends = ends; points = refl; ended = refl; steps = refl; unheard = λ e. (refl, refl) }

-- all of them succeeded, and their events were put after the history
pub tried_heard : (t a : ℕ) (ps : List Primitive) (v q : Position) (s : State) (g : List Event) (l m : Locals) (us : List Undo) → TakesBack t v.here.state l us s m → ending ends.Fine (with_locals s t (Some m)) g ≡ execute (with_locals v.here.state t (Some l)) [] t a 0 ps
    → q.here ≡ record v.here { state = s; history = v.here.history ++ g } → q.ended ≡ v.ended → q.steps ≡ v.steps → Tries t a ps v l (Ok ends.Fine) q m us
tried_heard t a ps v q s g l m us takes ran here ended steps = record {
  takes = subst (λ (c : Configuration). TakesBack t v.here.state l us c.state m) (sym here) takes;
  ends = (λ i. Fine (with_locals (here i).state t (Some m)) (here i).history) ∙ heard_end (with_locals v.here.state t (Some l)) (with_locals s t (Some m)) v.here.history g t a ps ends.Fine ran;
  points = ap (λ (c : Configuration). c.points) here;
  ended = ended;
  steps = steps;
  unheard = λ halts. cc;
}

-- ---- where a step leads

concluded_leads : (p q : Position) (t : ℕ) (addr : Option ℕ) (at to : Point) (step : Step) (e : Ended) → Acts t (address_or_null addr) step.prims p e q → to ≡ record at { at = step.to.0 } → concluded q.here t to e ≡ step_leads p.here t at step addr
concluded_leads p q t addr at to step e acts there = go e ∙ ap (ended_as p.here t at step.to.0) acts.ends
  where
    go : (e : Ended) → concluded q.here t to e ≡ ended_as p.here t at step.to.0 (ending e q.here.state q.here.history)
    go ends.Fine = λ i. Goes (record q.here { points = put_at None (acts.points i) t (Some (there i)) })
    go ends.Blocked = refl
    go (ends.Raced kind k) = refl

pub concluded_answer : (p q : Position) (t : ℕ) (addr : Option ℕ) (at to : Point) (step : Step) (e : Ended) (r : Moved) → Acts t (address_or_null addr) step.prims p e q → to ≡ record at { at = step.to.0 }
    → r ≡ answer (concluded q.here t to e) → r ≡ answer (step_leads p.here t at step addr)
concluded_answer p q t addr at to step e r acts there is = is ∙ ap answer (concluded_leads p q t addr at to step e acts there)

-- and from where the step began
from_before : (p q new : Position) (t : ℕ) (to : Point) (e : Ended) → q.ended ≡ p.ended → q.steps ≡ p.steps → (is_fine e ≡ false → q ≡ p) → Reaches (concluded q.here t to e) q new → Reaches (concluded q.here t to e) p new
from_before p q new t to ends.Fine live same stayed reaches = (reaches.0, reaches.1 ∙ live, reaches.2 ∙ same)
from_before p q new t to ends.Blocked live same stayed reaches = reaches ∙ stayed refl
from_before p q new t to (ends.Raced kind k) live same stayed reaches = reaches ∙ ap (λ (p : Position). record p { ended = true }) (stayed refl)

pub concluded_so : (p q new : Position) (t : ℕ) (addr : Option ℕ) (at to : Point) (step : Step) (e : Ended) → Acts t (address_or_null addr) step.prims p e q → to ≡ record at { at = step.to.0 }
    → Reaches (concluded q.here t to e) q new → Reaches (step_leads p.here t at step addr) p new
concluded_so p q new t addr at to step e acts there reaches =
    subst (λ (r : Reached). Reaches r p new) (concluded_leads p q t addr at to step e acts there) (from_before p q new t to e acts.ended acts.steps acts.unchanged reaches)

-- ---- starts and returns in code

begun_threads : (threads : ℕ) (end : Ending) (c : Configuration) → beginning threads end ≡ Some c → length c.points ≡ threads
begun_threads threads (Fine s h) c e = (let same : replicate threads None ≡ c.points = cc in sym (ap length same) ∙ length-replicate threads None)
begun_threads threads Stuck c e = cc
begun_threads threads (Raced kind k) c e = cc

pub begun_run : (flow : Flow) (o : Observer) (threads : ℕ) (p : Position) → first_configuration flow threads ≡ Some p.here → Follows o p → IsIndexOf (first_points flow) p.steps → IsOfRun flow o p × (threads_of p ≡ threads)
begun_run flow o threads p e follows indexed =
    let many = begun_threads threads (initialised flow threads) p.here e in
    (record { moves = 0; run = subst (λ n. Run flow o n 0 p.here) (sym many) (begin e); follows = follows; indexed = indexed }, many)

pub returned : (flow : Flow) (c : Configuration) (t : ℕ) (s : State) (ps : List (Option Point)) → ConfigurationFits flow (length c.points) c → at_exit flow (point_of c t) ≡ true
    → s ≡ record c.state { locals = set c.state.locals t None } → ps ≡ put_at None c.points t None → return_from flow c t (point_of c t) ≡ Goes (record c { state = s; points = ps })
unfolding with_locals
returned flow c t s ps fits exit new points =
    let small = (exit_so flow c.points t exit).2.known in
    let gone : with_locals c.state t None ≡ s = ap (λ xs. record c.state { locals = xs }) (put_is_set None c.state.locals t None (omega (arith, fits.standing.locals, small))) ∙ sym new in
    ap (λ b. cond b (Goes (record c { state = with_locals c.state t None; points = put_at None c.points t None })) Blocks) exit
    ∙ ap (λ s. Goes (record c { state = s; points = put_at None c.points t None })) gone ∙ ap (λ ps. Goes (record c { state = s; points = ps })) (sym points)

pub started_so : (flow : Flow) (c : Configuration) (t op : ℕ) (args : List ℕ) (o : Op) (p : Point) (s : State) (ps : List (Option Point)) → begun flow c.points t op args ≡ Some (o, p)
    → s ≡ with_locals c.state t (Some (starting o args)) → ps ≡ put_at None c.points t (Some p) → start_from flow c t op args ≡ Goes (record c { state = s; points = ps })
started_so flow c t op args o p s ps begins new points =
    ap (started c t args) begins ∙ ap (λ s. Goes (record c { state = s; points = put_at None c.points t (Some p) })) (sym new) ∙ ap (λ ps. Goes (record c { state = s; points = ps })) (sym points)

-- ---- the kinds of moves

pub reach_start : (flow : Flow) (o : Observer) (c : Configuration) (t : ℕ) (op : OpId) (args : List ℕ) → reach flow o c (Start t op args) ≡ start_from flow c t op.0 args
unfolding reach
reach_start flow o c t op args = refl

pub reach_take : (flow : Flow) (o : Observer) (c : Configuration) (t nth : ℕ) (addr : Option ℕ) → reach flow o c (Take t nth addr) ≡ step_from flow c t nth addr (point_of c t)
unfolding reach
reach_take flow o c t nth addr = refl

pub reach_return : (flow : Flow) (o : Observer) (c : Configuration) (t : ℕ) → reach flow o c (Return t) ≡ return_from flow c t (point_of c t)
unfolding reach
reach_return flow o c t = refl

pub reach_free : (flow : Flow) (o : Observer) (c : Configuration) (a : ℕ) → reach flow o c (Free a) ≡ free_of o c a
unfolding reach
reach_free flow o c a = refl

-- ---- the answer of a move, or running out of memory

pub step_answers : (flow : Flow) (o : Observer) (p q : Position) (move : Move) (r : Result Moved NoMemory) → p.ended ≡ false → IsOfRun flow o p → IfOk r (λ m. m ≡ answer (reach flow o p.here move)) → OnOk r (Reaches (reach flow o p.here move) p q) → IfOk r (λ m. Answers flow o p move m q)
step_answers flow o p q move (Ok m) live run e to = answered flow o p q move m live run e to
step_answers flow o p q move (Err x) live run e to = tt

pub step_run : (flow : Flow) (o : Observer) (p q : Position) (move : Move) (r : Result Moved NoMemory) → IsOfRun flow o p → OnOk r (Reaches (reach flow o p.here move) p q) → Follows o q → OnErr r (q ≡ p) → IsOfRun flow o q
step_run flow o p q move (Ok m) run to follows g = run_answered flow o p q move run to follows
step_run flow o p q move (Err x) run to follows g = subst (IsOfRun flow o) (sym g) run
