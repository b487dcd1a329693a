-- A pointer local of a thread, in memory and in the garbage-collected run: where its address stands.
use Rattle.std.proofs.Common.{◌≡◌, ◌≢◌, ℕ, zero, suc, ◌<◌, true, false, not, ◌==◌, List, Option, refl, sym, ap}
use Rattle.std.proofs.Common.{◌∙◌, arith}
use Rattle.std.proofs.lemmas.Bool.{or_right, eqb-false}
use Rattle.plc_lang.specs.declared.syntax.Var.TheVariants.{Local as local}
use Rattle.plc_auto.specs.declared.event.Event.{Event}
use Rattle.plc_auto.specs.declared.observer.Observer.{Observer}
use Rattle.plc_auto.specs.Location.{location, stands_retired}
use Rattle.plc_flow.specs.declared.flow.Flow.{Flow}
use Rattle.plc_mem.specs.declared.cell.Cell.{Cell}
use Rattle.plc_mem.specs.State.{State, is_null, is_retired, at_local}
use Rattle.plc_mem.specs.Primitives.{cell_at}
use Rattle.plc_run.specs.Observed.{IsObserved}
use Rattle.plc_type.specs.declared.env.PtrType.{PtrType}
use Rattle.plc_sound.specs.Meaning.{stands, Fits, Meets}
use Rattle.plc_sound.proofs.Sets.{Live, stands_within}
use Rattle.plc_gc.specs.declared.slot.Slot.TheVariants.{Local as in_local}
use Rattle.plc_gc.specs.State.{GcState, value, is_retired as is_retired_node}
use Rattle.plc_erasure.specs.Trace.{Trace}
use Rattle.plc_erasure.specs.Erasure.{IsErased, Shows}
use Rattle.plc_erasure.specs.Laws.{ErasureLaw}
use Rattle.plc_at.specs.Extended.{Need, Nothing, Unretired, RetiredNode, Unlocated}
use Rattle.plc_safety.proofs.LocatedSets.{Meant, unretired_within, retired_within}

-- the local isn't null, and is as its type says
pub record IsSeen (o : Observer) (threads : ℕ) (s : State) (h : List Event) (trace : Trace) (g : GcState) (t v : ℕ)
    (ty : PtrType) : Type 0 where
  pub observed : IsObserved o threads s h
  pub erased : IsErased trace s g
  pub known : t < threads
  pub some : is_null (cell_at s t (local v)) ≡ false
  pub met : Meets o h t s (at_local t v) ty

-- its node is retired, or isn't, where that is needed
abbrev pub Says : GcState → ℕ → Need → Type 0
Says g n Nothing = Unit {0}
Says g n Unretired = is_retired_node g n ≡ false
Says g n RetiredNode = is_retired_node g n ≡ true
Says g n Unlocated = Unit {0}

positive : (n : ℕ) → (n == 0) ≡ false → 0 < n
positive zero some = cc
positive (suc n) some = omega arith

module _ (flow : Flow) (o : Observer) (threads : ℕ) (law : ErasureLaw flow o threads) (s : State) (h : List Event)
    (trace : Trace) (g : GcState) (t v : ℕ) (ty : PtrType) (x : IsSeen o threads s h trace g t v ty) where
  -- what the local holds in memory, its node, and where its address stands
  abbrev cell : Cell
  cell = cell_at s t (local v)

  abbrev node : ℕ
  node = value g (in_local t v)

  abbrev place : Option ℕ
  place = location o h t cell.number

  fit : Fits o h t s (at_local t v) cell ty
  fit = x.met (eqb-false cell.number 0 x.some)

  shown : Shows trace cell node
  shown = x.erased.pointers (at_local t v) refl

  pub node_some : (node == 0) ≡ false
  node_some = sym shown.null ∙ x.some

  live : Live o place
  live = x.observed.live t cell.number x.known (positive cell.number x.some)

  heard : stands_retired o place ≡ is_retired s cell.number
  heard = sym (x.observed.retired t cell.number x.known (positive cell.number x.some))

  unretired : is_retired_node g node ≡ false → is_retired s cell.number ≡ false
  unretired kept =
      (law.by_claim trace s g t (local v) x.observed.coherent x.erased
      (or_right (node == 0) (not (is_retired_node g node)) (ap not kept))).kept x.some

  retired : cell.valid ≡ true → is_retired_node g node ≡ true → is_retired s cell.number ≡ true
  retired valid so =
      x.erased.retired cell.number ((x.observed.coherent.cells (at_local t v)).used valid x.some)
      ∙ ap (is_retired_node g) (sym (shown.valid valid x.some)) ∙ so

  -- so it stands in the set, whichever way that follows
  pub stands_in : (set : ℕ) (n : Need) → n ≢ Unlocated → Meant o ty set n → Says g node n → stands set place ≡ true
  stands_in set Nothing follows meant says = stands_within ty.m set place meant fit.somewhere
  stands_in set Unretired follows meant says =
      unretired_within o ty.m set place live (heard ∙ unretired says) fit.somewhere meant
  stands_in set RetiredNode follows meant says =
      retired_within o ty.m set place (heard ∙ retired (fit.safe meant.0) says) fit.somewhere meant.1
  stands_in set Unlocated follows meant says = absurd (follows refl)
