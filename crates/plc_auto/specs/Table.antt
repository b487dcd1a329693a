-- The tables of the three observers: live locations, and labelled edges of which the first that fits is taken.
use Rattle.std.specs.Prelude.{◌==◌, ◌&&◌, ℕ, Bool, true, false, not, if◌then◌else◌, List}
use Rattle.std.specs.Prelude.{[], ◌∷◌, length, codes, Option, Some, None}
use Rattle.plc_base.specs.declared.ids.FuncId.{FuncId}
use Rattle.plc_base.specs.Functions.{is_retire}
use Rattle.plc_base.specs.declared.ids.LocId.{LocId}
use Rattle.plc_auto.specs.declared.event.EvKind.{EvKind}
use Rattle.plc_auto.specs.declared.event.EvKind.TheVariants.{Call, Done, Free}
use Rattle.plc_auto.specs.declared.observer.Observer.{Observer}
use Rattle.plc_auto.specs.declared.observer.Observer.TheVariants.{Plain, Hazard, Epoch}

-- what an edge waits for: a call of `retire`, the call that asks for protection, its return, the call that
-- gives it up, a free
pub data Label : Type 0 where
  retires : Label
  asks : Label
  granted : Label
  gives_up : Label
  frees : Label

-- whose call or return fits: the thread's own, or that of any thread
pub data ThreadGuard : Type 0 where
  own : ThreadGuard
  any : ThreadGuard

-- which address fits: the one that is watched, the others, or every one and none
pub data AddressGuard : Type 0 where
  this : AddressGuard
  other : AddressGuard
  every : AddressGuard

-- where an edge leads
pub data Target : Type 0 where
  to : ℕ → Target
  bad : Target

-- a row's edge: where it begins, what it waits for, and where it leads
pub record Edge : Type 0 where
  pub from : ℕ
  pub label : Label
  pub thread : ThreadGuard
  pub address : AddressGuard
  pub target : Target

-- an edge, in the order in which the tables have it
abbrev pub edge : ℕ → Label → ThreadGuard → AddressGuard → Target → Edge
edge from label thread address target =
    record { from = from; label = label; thread = thread; address = address; target = target }

-- ---- plain
abbrev pub plain_names : List (List ℕ)
plain_names = codes "u" ∷ codes "r" ∷ []

-- a free is allowed once after each retirement
abbrev pub plain_edges : List Edge
plain_edges =
    edge 0 retires any this (to 1) ∷ edge 0 frees any this bad
    ∷ edge 1 frees any this (to 0) ∷ []

-- ---- the locations of hazard(f) and epoch(e, l), which are numbered alike: whether the address is retired (u, r),
-- and how far the thread's protection has come: none (idle, out), asked for (pend, coming), granted (held, in)
abbrev pub hazard_names : List (List ℕ)
hazard_names =
    codes "u.idle" ∷ codes "u.pend" ∷ codes "u.held"
    ∷ codes "r.idle" ∷ codes "r.pend" ∷ codes "r.held" ∷ codes "r.kept" ∷ []

-- the names of the locations of epoch
abbrev pub epoch_names : List (List ℕ)
epoch_names =
    codes "u.out" ∷ codes "u.coming" ∷ codes "u.in"
    ∷ codes "r.out" ∷ codes "r.coming" ∷ codes "r.in" ∷ codes "r.kept" ∷ []

-- not retired, and this thread has no protection
abbrev pub u_none : ℕ
u_none = 0

-- asked for, but the call has not returned
abbrev pub u_asked : ℕ
u_asked = 1

-- protected
abbrev pub u_granted : ℕ
u_granted = 2

-- retired, and this thread has no protection
abbrev pub r_none : ℕ
r_none = 3

-- retired, and asked for, but the call has not returned
abbrev pub r_asked : ℕ
r_asked = 4

-- protected after the retirement, which is too late
abbrev pub r_granted : ℕ
r_granted = 5

-- retired while it was protected, so that it isn't freed until the protection is given up
abbrev pub r_kept : ℕ
r_kept = 6

-- ---- hazard(f): `asks` is a call of f, `granted` its return

-- a thread's protection of an address ends where the thread asks for another
abbrev pub hazard_edges : List Edge
hazard_edges =
    edge u_none asks own this (to u_asked) ∷ edge u_none retires any this (to r_none)
    ∷ edge u_none frees any this bad
    ∷ edge u_asked asks own other (to u_none) ∷ edge u_asked granted own every (to u_granted)
    ∷ edge u_asked retires any this (to r_asked) ∷ edge u_asked frees any this bad
    ∷ edge u_granted asks own other (to u_none) ∷ edge u_granted retires any this (to r_kept)
    ∷ edge u_granted frees any this bad
    ∷ edge r_none asks own this (to r_asked) ∷ edge r_none frees any this (to u_none)
    ∷ edge r_asked asks own other (to r_none) ∷ edge r_asked granted own every (to r_granted)
    ∷ edge r_asked frees any this (to u_asked)
    ∷ edge r_granted asks own other (to r_none) ∷ edge r_granted retires any this (to r_kept)
    ∷ edge r_granted frees any this (to u_granted)
    ∷ edge r_kept asks own other (to r_none) ∷ edge r_kept frees any this bad ∷ []

-- ---- epoch(e, l): `asks` is a call of e, `granted` its return, `gives_up` a call of l

-- what is retired while a thread is inside isn't freed until it leaves
abbrev pub epoch_edges : List Edge
epoch_edges =
    edge u_none asks own every (to u_asked) ∷ edge u_none retires any this (to r_none)
    ∷ edge u_none frees any this bad
    ∷ edge u_asked granted own every (to u_granted) ∷ edge u_asked gives_up own every (to u_none)
    ∷ edge u_asked retires any this (to r_asked) ∷ edge u_asked frees any this bad
    ∷ edge u_granted gives_up own every (to u_none) ∷ edge u_granted retires any this (to r_kept)
    ∷ edge u_granted frees any this bad
    ∷ edge r_none asks own every (to r_asked) ∷ edge r_none frees any this (to u_none)
    ∷ edge r_asked granted own every (to r_granted) ∷ edge r_asked gives_up own every (to r_none)
    ∷ edge r_asked frees any this (to u_asked)
    ∷ edge r_granted gives_up own every (to r_none) ∷ edge r_granted retires any this (to r_kept)
    ∷ edge r_granted frees any this (to u_granted)
    ∷ edge r_kept gives_up own every (to r_none) ∷ edge r_kept frees any this bad ∷ []

-- the live locations in order
abbrev pub names_of : Observer → List (List ℕ)
names_of Plain = plain_names
names_of (Hazard f) = hazard_names
names_of (Epoch e l) = epoch_names

-- the edges in order
abbrev pub edges_of : Observer → List Edge
edges_of Plain = plain_edges
edges_of (Hazard f) = hazard_edges
edges_of (Epoch e l) = epoch_edges

-- how many live locations there are
abbrev pub count_of : Observer → ℕ
count_of o = length (names_of o)

-- functions are told apart by their numbers
abbrev pub same_function : FuncId → FuncId → Bool
same_function f g = f.0 == g.0

-- `retire` belongs to no scheme
abbrev pub is_well_formed : Observer → Bool
is_well_formed Plain = true
is_well_formed (Hazard f) = not (is_retire f)
is_well_formed (Epoch e l) = not (is_retire e) && not (is_retire l)

-- which labels a kind of event has; a call of e in `epoch(e, e)` has two
abbrev pub asks_by : Observer → FuncId → Bool
asks_by Plain f = false
asks_by (Hazard g) f = same_function f g
asks_by (Epoch e l) f = same_function f e

-- only epochs have a call that gives protection up
abbrev pub gives_up_by : Observer → FuncId → Bool
gives_up_by Plain f = false
gives_up_by (Hazard g) f = false
gives_up_by (Epoch e l) f = same_function f l

-- whether a kind of event has a label
abbrev pub bears : Observer → EvKind → Label → Bool
bears o (Call f) retires = is_retire f
bears o (Call f) asks = asks_by o f
bears o (Call f) gives_up = gives_up_by o f
bears o (Call f) granted = false
bears o (Call f) frees = false
bears o (Done f) granted = asks_by o f
bears o (Done f) retires = false
bears o (Done f) asks = false
bears o (Done f) gives_up = false
bears o (Done f) frees = false
bears o Free frees = true
bears o Free retires = false
bears o Free asks = false
bears o Free granted = false
bears o Free gives_up = false

-- a guard on the thread
abbrev pub thread_fits : ThreadGuard → Bool → Bool
thread_fits own by_own = by_own
thread_fits any by_own = true

-- a guard on the address
abbrev pub address_fits : AddressGuard → Bool → Bool
address_fits this on_this = on_this
address_fits other on_this = not on_this
address_fits every on_this = true

-- an edge fits where its location, its label and both guards do
abbrev pub edge_fits : (Label → Bool) → Bool → Bool → ℕ → Edge → Bool
edge_fits borne by_own on_this l e =
    (e.from == l) && borne e.label && thread_fits e.thread by_own && address_fits e.address on_this

-- a location, or None for `bad`
abbrev pub reached : Target → Option ℕ
reached (to l) = Some l
reached bad = None

-- where the first edge that fits leads, None for `bad`; where none fits the location stays
abbrev pub along : (Label → Bool) → Bool → Bool → ℕ → List Edge → Option ℕ
along borne by_own on_this l [] = Some l
along borne by_own on_this l (e ∷ es) =
    if edge_fits borne by_own on_this l e then reached e.target else along borne by_own on_this l es

-- where an event leads from a live location: by the thread itself or another, on the address itself or another
unfoldable pub step : Observer → ℕ → EvKind → Bool → Bool → Option ℕ
step o l kind by_own on_this = along (bears o kind) by_own on_this l (edges_of o)

-- the number of a location that a call answers
abbrev pub target_of : Option LocId → Option ℕ
target_of None = None
target_of (Some l) = Some l.0
