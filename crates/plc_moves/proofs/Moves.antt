-- What is begun, taken and ended, as facts about the flow and the thread's point.
use Rattle.std.proofs.Common.{◌≡◌, ℕ, ◌<◌, Bool, true, false, ◌==◌, List, Option, Some, None, length, get_or, slice_get, is_none, option_map, refl, sym, ap, ◌∙◌, cond}
use Rattle.std.proofs.lemmas.Bool.{and_parts, and_from, eq-eqb, eqb-true, ltb-true, lt-ltb}
use Rattle.std.specs.Prelude.{nat_lt}
use Rattle.plc_lang.specs.declared.syntax.Op.{Op}
use Rattle.plc_lang.specs.Locals.{parameters_of}
use Rattle.plc_flow.specs.declared.flow.Step.{Step}
use Rattle.plc_flow.specs.declared.flow.Gate.{Gate}
use Rattle.plc_flow.specs.declared.flow.Flow.{Flow}
use Rattle.plc_flow.specs.declared.points.Point.{Point}
use Rattle.plc_flow.specs.Points.{steps_from}
use Rattle.plc_moves.specs.Standing.{is_idle, entered, begun, step_of, exits, at_exit}
use Rattle.plc_moves.proofs.Places.{held_below}

-- ---- what an idle thread begins

-- an idle thread begins this operation at its gate
pub record Begins (flow : Flow) (ps : List (Option Point)) (t op : ℕ) (args : List ℕ) (o : Op) (g : Gate) : Type 0 where
  pub known : t < length ps
  pub idle : get_or ps t None ≡ None
  pub named : slice_get flow.file.ops op ≡ Some o
  pub opens : slice_get flow.gates op ≡ Some g
  pub counted : length args ≡ parameters_of o

none_if : {A : Type 0} (q : Option A) → is_none q ≡ true → q ≡ None
none_if None e = refl
none_if (Some x) e = cc

pub idle_below : (ps : List (Option Point)) (t : ℕ) → is_idle ps t ≡ true → (t < length ps) × (get_or ps t None ≡ None)
idle_below ps t idle =
    let parts = and_parts (nat_lt t (length ps)) (is_none (get_or ps t None)) idle in
    (ltb-true t (length ps) parts.0, none_if (get_or ps t None) parts.1)

begun_at : (op : ℕ) (args : List ℕ) (a : Option Op) (b : Option Gate) (o : Op) (p : Point) → entered op args a b ≡ Some (o, p)
    → (g : Gate) × (a ≡ Some o) × (b ≡ Some g) × (length args ≡ parameters_of o) × (p ≡ record { op = op; at = g.entry.0 })
begun_at op args None b o p e = cc
begun_at op args (Some n) None o p e = cc
begun_at op args (Some n) (Some g) o p e = go (length args == parameters_of n) refl e
  where
    go : (c : Bool) → (length args == parameters_of n) ≡ c → cond {A = Option (Op × Point)} c (Some (n, record { op = op; at = g.entry.0 })) None ≡ Some (o, p)
        → (h : Gate) × (Some n ≡ Some o) × (Some g ≡ Some h) × (length args ≡ parameters_of o) × (p ≡ record { op = op; at = h.entry.0 })
    go true counted e =
        let both : (n, record { op = op; at = g.entry.0 }) ≡ (o, p) = cc in
        let same = ap (λ (x : Op × Point). x.0) both in
        (g, ap Some same, refl, eqb-true _ _ counted ∙ ap (λ (x : Op). parameters_of x) same, sym (ap (λ (x : Op × Point). x.1) both))
    go false counted e = cc

pub begun_so : (flow : Flow) (ps : List (Option Point)) (t op : ℕ) (args : List ℕ) (o : Op) (p : Point) → begun flow ps t op args ≡ Some (o, p)
    → (g : Gate) × Begins flow ps t op args o g × (p ≡ record { op = op; at = g.entry.0 })
begun_so flow ps t op args o p e = go (is_idle ps t) refl e
  where
    go : (c : Bool) → is_idle ps t ≡ c → cond c (entered op args (slice_get flow.file.ops op) (slice_get flow.gates op)) None ≡ Some (o, p)
        → (g : Gate) × Begins flow ps t op args o g × (p ≡ record { op = op; at = g.entry.0 })
    go true idle e =
        let at = begun_at op args (slice_get flow.file.ops op) (slice_get flow.gates op) o p e in
        let below = idle_below ps t idle in
        (at.0, record { known = below.0; idle = below.1; named = at.1; opens = at.2; counted = at.3 }, at.4)
    go false idle e = cc

pub begins_so : (flow : Flow) (ps : List (Option Point)) (t op : ℕ) (args : List ℕ) (o : Op) (g : Gate) → Begins flow ps t op args o g
    → begun flow ps t op args ≡ Some (o, record { op = op; at = g.entry.0 })
begins_so flow ps t op args o g b =
    let idle : is_idle ps t ≡ true = and_from (nat_lt t (length ps)) (is_none (get_or ps t None)) (lt-ltb t (length ps) b.known) (ap is_none b.idle) in
    ap (λ c. cond c (entered op args (slice_get flow.file.ops op) (slice_get flow.gates op)) None) idle
    ∙ ap (λ a. entered op args a (slice_get flow.gates op)) b.named ∙ ap (entered op args (Some o)) b.opens
    ∙ ap (λ c. cond {A = Option (Op × Point)} c (Some (o, record { op = op; at = g.entry.0 })) None) (eq-eqb (length args) (parameters_of o) b.counted)

-- ---- the step that a busy thread takes

-- a thread below so many stands at a point which this step leaves
pub record Takes (flow : Flow) (ps : List (Option Point)) (t nth : ℕ) (p : Point) (s : Step) : Type 0 where
  pub known : t < length ps
  pub busy : get_or ps t None ≡ Some p
  pub leaves_there : slice_get (steps_from flow p.at) nth ≡ Some s

step_at : (p : Point) (n : Option Step) (q : Point) (s : Step) → option_map {U = Point × Step} (λ (s : Step). (p, s)) n ≡ Some (q, s) → (p ≡ q) × (n ≡ Some s)
step_at p None q s e = cc
step_at p (Some n) q s e =
    let both : (p, n) ≡ (q, s) = cc in
    (ap (λ (x : Point × Step). x.0) both, ap (λ (x : Point × Step). Some x.1) both)

pub taken_so : (flow : Flow) (ps : List (Option Point)) (t nth : ℕ) (p : Point) (s : Step) → step_of flow nth (get_or ps t None) ≡ Some (p, s) → Takes flow ps t nth p s
taken_so flow ps t nth p s e = go (get_or ps t None) refl e
  where
    go : (q : Option Point) → get_or ps t None ≡ q → step_of flow nth q ≡ Some (p, s) → Takes flow ps t nth p s
    go None busy e = cc
    go (Some q) busy e =
        let at = step_at q (slice_get (steps_from flow q.at) nth) p s e in
        record {
          known = held_below ps t q busy;
          busy = busy ∙ ap Some at.0;
          leaves_there = ap (λ (x : Point). slice_get (steps_from flow x.at) nth) (sym at.0) ∙ at.1;
        }

pub takes_so : (flow : Flow) (q : Option Point) (nth : ℕ) (p : Point) (s : Step) → q ≡ Some p → slice_get (steps_from flow p.at) nth ≡ Some s → step_of flow nth q ≡ Some (p, s)
takes_so flow q nth p s busy there = ap (step_of flow nth) busy ∙ ap (option_map {U = Point × Step} (λ (s : Step). (p, s))) there

-- ---- the exit of a busy thread

-- a thread stands at its operation's exit
pub record Ends (flow : Flow) (ps : List (Option Point)) (t : ℕ) (p : Point) (g : Gate) : Type 0 where
  pub known : t < length ps
  pub busy : get_or ps t None ≡ Some p
  pub opens : slice_get flow.gates p.op ≡ Some g
  pub exits : p.at ≡ g.exit.0

pub exit_so : (flow : Flow) (ps : List (Option Point)) (t : ℕ) → at_exit flow (get_or ps t None) ≡ true → (p : Point) × (g : Gate) × Ends flow ps t p g
exit_so flow ps t e = go (get_or ps t None) refl e
  where
    at : (p : Point) → get_or ps t None ≡ Some p → (g : Option Gate) → slice_get flow.gates p.op ≡ g → exits p g ≡ true → (p : Point) × (g : Gate) × Ends flow ps t p g
    at p busy None opens e = cc
    at p busy (Some g) opens e = (p, g, record { known = held_below ps t p busy; busy = busy; opens = opens; exits = eqb-true p.at g.exit.0 e })

    go : (q : Option Point) → get_or ps t None ≡ q → at_exit flow q ≡ true → (p : Point) × (g : Gate) × Ends flow ps t p g
    go None busy e = cc
    go (Some p) busy e = at p busy (slice_get flow.gates p.op) refl e

pub ends_so : (flow : Flow) (q : Option Point) (p : Point) (g : Gate) → q ≡ Some p → slice_get flow.gates p.op ≡ Some g → p.at ≡ g.exit.0 → at_exit flow q ≡ true
ends_so flow q p g busy opens at = ap (at_exit flow) busy ∙ ap (exits p) opens ∙ eq-eqb p.at g.exit.0 at
