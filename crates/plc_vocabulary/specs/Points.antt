-- Which clauses an outline puts at a point: those of the items that stand there, in their order.
use Rattle.std.specs.Prelude.{ℕ, Bool, false, not, ◌&&◌, ◌==◌, nat_le, nat_lt, List, length, map, filter}
use Rattle.std.specs.Prelude.{Option, Some, None, slice_get}
use Rattle.std.specs.List.{list_any}
use Rattle.plc_base.specs.declared.ids.PointId.{PointId}
use Rattle.plc_flow.specs.declared.flow.Gate.{Gate}
use Rattle.plc_flow.specs.declared.flow.Flow.{Flow}
use Rattle.plc_logic.specs.declared.clause.Clause.{Clause}
use Rattle.plc_logic.specs.declared.clause.Site.{Site}
use Rattle.plc_logic.specs.declared.clause.Site.TheVariants.{Over, At}
use Rattle.plc_logic.specs.declared.clause.Item.{Item}
use Rattle.plc_logic.specs.declared.clause.Outline.{Outline}

-- a point of the operation, other than its exit
abbrev pub is_over : Option Gate → ℕ → Bool
is_over None p = false
is_over (Some g) p = nat_le g.first p && nat_lt p g.after && not (p == g.exit.0)

-- the point with a label
abbrev pub is_point : ℕ → Option PointId → Bool
is_point p None = false
is_point p (Some q) = q.0 == p

-- the label names the point
abbrev pub names_point : List PointId → ℕ → ℕ → Bool
names_point labels p l = is_point p (slice_get labels l)

-- a label names the point
abbrev pub is_labelled : Flow → ℕ → Bool
is_labelled flow p = list_any (λ (q : PointId). q.0 == p) flow.labels

-- the item puts its clause at the point
abbrev pub site_is_at : Flow → ℕ → Site → Bool
site_is_at flow p (Over o) = is_over (slice_get flow.gates o.0) p
site_is_at flow p (At labels) = list_any (names_point flow.labels p) labels

abbrev pub stands_at : Flow → ℕ → Item → Bool
stands_at flow p item = site_is_at flow p item.site

-- the clauses at a point, in the order of the outline's items
abbrev pub clauses_at : Flow → Outline → ℕ → List Clause
clauses_at flow outline p = map (λ (i : Item). i.clause) (filter (stands_at flow p) outline.items)

-- how many there are
abbrev pub count_at : Flow → Outline → ℕ → ℕ
count_at flow outline p = length (filter (stands_at flow p) outline.items)
