-- What `reach` computes is what the relation of moves says.
use Rattle.std.proofs.Common.{◌≡◌, ℕ, Bool, true, false, List, Option, Some, None, length, refl, ap, cond}
use Rattle.plc_base.specs.declared.ids.OpId.{OpId}
use Rattle.plc_base.specs.Tables.{put_at}
use Rattle.plc_lang.specs.declared.syntax.Op.{Op}
use Rattle.plc_flow.specs.declared.flow.Step.{Step}
use Rattle.plc_flow.specs.declared.flow.Flow.{Flow}
use Rattle.plc_moves.specs.declared.words.Move.{Move}
use Rattle.plc_moves.specs.declared.words.Move.TheVariants.{Start, Step as Take, Return, Free}
use Rattle.plc_flow.specs.declared.points.Point.{Point}
use Rattle.plc_moves.specs.Standing.{begun, step_of, at_exit}
use Rattle.plc_moves.proofs.Moves.{begun_so, begins_so, taken_so, takes_so, exit_so, ends_so}
use Rattle.plc_gc.specs.State.{GcState, with_locals, starting}
use Rattle.plc_gc.specs.Run.{GcConfiguration, Moves, execute, point_of}
use Rattle.plc_gc.specs.Reach.{started, start_from, ended_as, taken, step_from, return_from, reach}

-- a configuration to which the move leads, or none where there is no such move
abbrev pub LeadsTo : Flow → ℕ → GcConfiguration → Move → Option GcConfiguration → Type 0
LeadsTo flow threads c move (Some d) = Moves flow threads c move d
LeadsTo flow threads c move None = (d : GcConfiguration) → Moves flow threads c move d → ⊥

-- ---- starts

start_leads : (flow : Flow) (c : GcConfiguration) (t : ℕ) (op : OpId) (args : List ℕ) → LeadsTo flow (length c.points) c (Start t op args) (start_from flow c t op.0 args)
start_leads flow c t op args = go (begun flow c.points t op.0 args) refl
  where
    go : (b : Option (Op × Point)) → begun flow c.points t op.0 args ≡ b → LeadsTo flow (length c.points) c (Start t op args) (started c t args b)
    go None e = λ d m. (
        let contrary = begins_so flow c.points t op.0 args m.0 m.1 (record { known = m.2; idle = m.3; named = m.4; opens = m.5; counted = m.6 }) in
        cc
        )
    go (Some (o, p)) e =
        let b = begun_so flow c.points t op.0 args o p e in
        (o, b.0, b.1.known, b.1.idle, b.1.named, b.1.opens, b.1.counted, ap (λ (p : Point). record { state = with_locals c.state t (Some (starting o args)); points = put_at None c.points t (Some p) }) b.2)

-- ---- steps

take_leads : (flow : Flow) (c : GcConfiguration) (t nth : ℕ) (addr : Option ℕ) → LeadsTo flow (length c.points) c (Take t nth addr) (step_from flow c t nth (point_of c t))
take_leads flow c t nth addr = go (step_of flow nth (point_of c t)) refl
  where
    ended : (p : Point) (s : Step) → step_of flow nth (point_of c t) ≡ Some (p, s) → (end : Option GcState) → execute c.state t s.prims ≡ end → LeadsTo flow (length c.points) c (Take t nth addr) (ended_as c t p s.to.0 end)
    ended p s e (Some g) ran =
        let k = taken_so flow c.points t nth p s e in
        (p, s, g, record { known = k.known; busy = k.busy; leaves_there = k.leaves_there }, ran, refl)
    ended p s e None ran = λ d m. (
        let other = takes_so flow (point_of c t) nth m.0 m.1 m.3.busy m.3.leaves_there in
        let both : (p, s) ≡ (m.0, m.1) = cc in
        let step : s ≡ m.1 = ap (λ (x : Point × Step). x.1) both in
        let same : execute c.state t s.prims ≡ execute c.state t m.1.prims = ap (λ (x : Step). execute c.state t x.prims) step in
        let f = m.4 in
        cc
        )

    go : (s : Option (Point × Step)) → step_of flow nth (point_of c t) ≡ s → LeadsTo flow (length c.points) c (Take t nth addr) (taken c t s)
    go None e = λ d m. (
        let other = takes_so flow (point_of c t) nth m.0 m.1 m.3.busy m.3.leaves_there in
        cc
        )
    go (Some (p, s)) e = ended p s e (execute c.state t s.prims) refl

-- ---- returns

return_leads : (flow : Flow) (c : GcConfiguration) (t : ℕ) → LeadsTo flow (length c.points) c (Return t) (return_from flow c t (point_of c t))
return_leads flow c t = go (at_exit flow (point_of c t)) refl
  where
    go : (b : Bool) → at_exit flow (point_of c t) ≡ b → LeadsTo flow (length c.points) c (Return t) (cond b (Some (record { state = with_locals c.state t None; points = put_at None c.points t None })) None)
    go true e =
        let x = exit_so flow c.points t e in
        (x.0, x.1, x.2.known, x.2.busy, x.2.opens, x.2.exits, refl)
    go false e = λ d m. (
        let contrary = ends_so flow (point_of c t) m.0 m.1 m.3 m.4 m.5 in
        cc
        )

pub reach_leads : (flow : Flow) (c : GcConfiguration) (move : Move) → LeadsTo flow (length c.points) c move (reach flow c move)
unfolding reach
reach_leads flow c (Start t op args) = start_leads flow c t op args
reach_leads flow c (Take t nth addr) = take_leads flow c t nth addr
reach_leads flow c (Return t) = return_leads flow c t
reach_leads flow c (Free a) = refl
