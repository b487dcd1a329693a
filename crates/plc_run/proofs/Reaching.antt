-- What `reach` computes is what the relations of moves and races say.
use Rattle.std.proofs.Common.{◌≡◌, ℕ, ◌<◌, Bool, true, false, ◌==◌, List, [], ◌∷◌, ◌++◌, Option, Some, None, length, is_some, refl, sym, ap, ◌∙◌, arith, cond}
use Rattle.std.specs.List.{list_any}
use Rattle.std.proofs.lemmas.Bool.{eqb-true}
use Rattle.std.proofs.lemmas.Bool.Decides.{nat_tests}
use Rattle.plc_mem.specs.State.{with_locals, freed, starting}
use Rattle.plc_base.specs.Tables.{put_at}
use Rattle.plc_lang.specs.declared.syntax.Op.{Op}
use Rattle.plc_auto.specs.declared.event.Event.TheVariants.{Free as Freed}
use Rattle.plc_auto.specs.declared.observer.Observer.{Observer}
use Rattle.plc_auto.specs.Location.{location, Allowed}
use Rattle.plc_base.specs.declared.ids.OpId.{OpId}
use Rattle.plc_flow.specs.declared.flow.Step.{Step}
use Rattle.plc_flow.specs.declared.flow.Flow.{Flow}
use Rattle.plc_moves.specs.declared.words.Move.{Move}
use Rattle.plc_moves.specs.declared.words.Move.TheVariants.{Start, Step as Take, Return, Free}
use Rattle.plc_flow.specs.declared.points.Point.{Point}
use Rattle.plc_lang.specs.Allocation.{is_new}
use Rattle.plc_run.specs.Run.{Ending, Fine, Stuck, Raced, Configuration, point_of, MayTake, taken, Moves, Races}
use Rattle.plc_flow.specs.Points.{names_rightly}
use Rattle.plc_moves.specs.Standing.{begun, step_of, at_exit}
use Rattle.plc_moves.proofs.Moves.{begun_so, begins_so, taken_so, takes_so, exit_so, ends_so}
use Rattle.plc_run.specs.Position.{IsForbidden, HasNone}
use Rattle.plc_run.specs.Reach.{Reached, Goes, Blocks, Forbids, Breaks, started, start_from, ended_as, take_step, step_from, return_from, may_free, free_of, reach}
use Rattle.plc_base.proofs.Booleans.{same_if, if_same}
use Rattle.plc_run.proofs.Judged.{judged_allowed, judged_forbidden}
use Rattle.plc_run.proofs.Runs.{one_step}

-- what each result says
abbrev pub LeadsTo : Flow → Observer → ℕ → Configuration → Move → Reached → Type 0
LeadsTo flow o threads c move (Goes d) = Moves flow o threads c move d
LeadsTo flow o threads c move Blocks = HasNone flow o threads c move
LeadsTo flow o threads c move (Forbids a) = (move ≡ Free a) × IsForbidden o threads c move
LeadsTo flow o threads c move (Breaks kind k) = Races flow threads c move kind k

-- ---- starts

start_none : (flow : Flow) (o : Observer) (threads : ℕ) (c : Configuration) (t : ℕ) (op : OpId) (args : List ℕ) → ((d : Configuration) → Moves flow o threads c (Start t op args) d → ⊥) → HasNone flow o threads c (Start t op args)
start_none flow o threads c t op args f = record { no_move = f; no_race = λ kind k r. r; not_forbidden = λ r. r }

start_leads : (flow : Flow) (o : Observer) (c : Configuration) (t : ℕ) (op : OpId) (args : List ℕ) → LeadsTo flow o (length c.points) c (Start t op args) (start_from flow c t op.0 args)
start_leads flow o c t op args = go (begun flow c.points t op.0 args) refl
  where
    go : (b : Option (Op × Point)) → begun flow c.points t op.0 args ≡ b → LeadsTo flow o (length c.points) c (Start t op args) (started c t args b)
    go None e = start_none flow o (length c.points) c t op args (λ d m.
        let contrary = begins_so flow c.points t op.0 args m.0 m.1 (record { known = m.2; idle = m.3; named = m.4; opens = m.5; counted = m.6 }) in
        cc)
    go (Some (n, p)) e =
        let b = begun_so flow c.points t op.0 args n p e in
        (n, b.0, b.1.known, b.1.idle, b.1.named, b.1.opens, b.1.counted, ap (λ (p : Point). record c { state = with_locals c.state t (Some (starting n args)); points = put_at None c.points t (Some p) }) b.2)

-- ---- steps

-- nothing is taken where nothing may be
take_none : (flow : Flow) (o : Observer) (threads : ℕ) (c : Configuration) (t nth : ℕ) (addr : Option ℕ) → ((p : Point) (s : Step) → MayTake flow threads c t nth addr p s → ⊥) → HasNone flow o threads c (Take t nth addr)
take_none flow o threads c t nth addr f = record { no_move = λ d m. f m.0 m.1 m.4; no_race = λ kind k r. f r.0 r.1 r.2; not_forbidden = λ r. r }

take_ended : (flow : Flow) (o : Observer) (threads : ℕ) (c : Configuration) (t nth : ℕ) (addr : Option ℕ) (p : Point) (s : Step) → MayTake flow threads c t nth addr p s → (end : Ending) → taken c t addr s ≡ end → LeadsTo flow o threads c (Take t nth addr) (ended_as c t p s.to.0 end)
take_ended flow o threads c t nth addr p s may (Fine new h) e = (p, s, new, h, may, e, refl)
take_ended flow o threads c t nth addr p s may Stuck e = record {
  no_move = λ d m. (let same = ap (taken c t addr) (one_step flow threads c t nth addr p m.0 s m.1 may m.4) in let f = m.5 in cc);
  no_race = λ kind k r. (let same = ap (taken c t addr) (one_step flow threads c t nth addr p r.0 s r.1 may r.2) in let f = r.3 in cc);
  not_forbidden = λ r. r;
}
take_ended flow o threads c t nth addr p s may (Raced kind k) e = (p, s, may, e)

take_leads : (flow : Flow) (o : Observer) (c : Configuration) (t nth : ℕ) (addr : Option ℕ) → LeadsTo flow o (length c.points) c (Take t nth addr) (step_from flow c t nth addr (point_of c t))
take_leads flow o c t nth addr = go (step_of flow nth (point_of c t)) refl
  where
    shaped : (p : Point) (s : Step) → step_of flow nth (point_of c t) ≡ Some (p, s) → (b : Bool) → names_rightly addr s ≡ b → LeadsTo flow o (length c.points) c (Take t nth addr) (cond b (ended_as c t p s.to.0 (taken c t addr s)) Blocks)
    shaped p s e true named =
        let k = taken_so flow c.points t nth p s e in
        take_ended flow o (length c.points) c t nth addr p s (record { known = k.known; busy = k.busy; leaves_there = k.leaves_there; shape = same_if (is_some addr) (list_any is_new s.prims) named }) (taken c t addr s) refl
    shaped p s e false named = take_none flow o (length c.points) c t nth addr (λ q r m.
        let other = takes_so flow (point_of c t) nth q r m.busy m.leaves_there in
        let both : (p, s) ≡ (q, r) = cc in
        let same : s ≡ r = ap (λ (x : Point × Step). x.1) both in
        let step : list_any is_new s.prims ≡ list_any is_new r.prims = ap (λ (x : Step). list_any is_new x.prims) same in
        let contrary : names_rightly addr s ≡ true = if_same (is_some addr) (list_any is_new s.prims) (m.shape ∙ sym step) in
        cc)

    go : (s : Option (Point × Step)) → step_of flow nth (point_of c t) ≡ s → LeadsTo flow o (length c.points) c (Take t nth addr) (take_step c t addr s)
    go None e = take_none flow o (length c.points) c t nth addr (λ q r m.
        let other = takes_so flow (point_of c t) nth q r m.busy m.leaves_there in
        cc)
    go (Some (p, s)) e = shaped p s e (names_rightly addr s) refl

-- ---- returns

return_none : (flow : Flow) (o : Observer) (threads : ℕ) (c : Configuration) (t : ℕ) → ((d : Configuration) → Moves flow o threads c (Return t) d → ⊥) → HasNone flow o threads c (Return t)
return_none flow o threads c t f = record { no_move = f; no_race = λ kind k r. r; not_forbidden = λ r. r }

return_leads : (flow : Flow) (o : Observer) (c : Configuration) (t : ℕ) → LeadsTo flow o (length c.points) c (Return t) (return_from flow c t (point_of c t))
return_leads flow o c t = go (at_exit flow (point_of c t)) refl
  where
    go : (b : Bool) → at_exit flow (point_of c t) ≡ b → LeadsTo flow o (length c.points) c (Return t) (cond b (Goes (record c { state = with_locals c.state t None; points = put_at None c.points t None })) Blocks)
    go true e =
        let x = exit_so flow c.points t e in
        (x.0, x.1, x.2.known, x.2.busy, x.2.opens, x.2.exits, refl)
    go false e = return_none flow o (length c.points) c t (λ d m.
        let contrary = ends_so flow (point_of c t) m.0 m.1 m.3 m.4 m.5 in
        cc)

-- ---- frees

positive : (a : ℕ) → (a == 0) ≡ false → 0 < a
positive a e = grind (arith, nat_tests)

free_leads : (flow : Flow) (o : Observer) (c : Configuration) (a : ℕ) → Allowed o (length c.points) c.history → LeadsTo flow o (length c.points) c (Free a) (free_of o c a)
free_leads flow o c a fine = go (a == 0) refl
  where
    judged : (b : Bool) → may_free o (λ t. location o c.history t a) a (length c.points) ≡ b → 0 < a → LeadsTo flow o (length c.points) c (Free a) (cond b (Goes (record c { state = freed c.state a; history = c.history ++ Freed a ∷ [] })) (Forbids a))
    judged true e pos = (pos, judged_allowed o (length c.points) c.history a fine e, refl)
    judged false e pos = (refl, (pos, judged_forbidden o (length c.points) c.history a pos e))

    go : (b : Bool) → (a == 0) ≡ b → LeadsTo flow o (length c.points) c (Free a) (cond b Blocks (cond (may_free o (λ t. location o c.history t a) a (length c.points)) (Goes (record c { state = freed c.state a; history = c.history ++ Freed a ∷ [] })) (Forbids a)))
    go true e = let zero : a ≡ 0 = eqb-true a 0 e in record { no_move = λ d m. absurd (omega (arith, m.0)); no_race = λ kind k r. r; not_forbidden = λ r. absurd (omega (arith, r.0)) }
    go false e = judged (may_free o (λ t. location o c.history t a) a (length c.points)) refl (positive a e)

pub reach_leads : (flow : Flow) (o : Observer) (c : Configuration) (move : Move) → Allowed o (length c.points) c.history → LeadsTo flow o (length c.points) c move (reach flow o c move)
unfolding reach
reach_leads flow o c (Start t op args) fine = start_leads flow o c t op args
reach_leads flow o c (Take t nth addr) fine = take_leads flow o c t nth addr
reach_leads flow o c (Return t) fine = return_leads flow o c t
reach_leads flow o c (Free a) fine = free_leads flow o c a fine
