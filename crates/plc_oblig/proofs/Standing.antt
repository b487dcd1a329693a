-- The clauses of a point fit the operation that has the point, and a point is one of one operation.
use Rattle.std.proofs.Common.{◌≡◌, ℕ, Bool, true, false, not, ◌&&◌, ◌||◌, ◌==◌, nat_le, nat_lt, cond, List, [], ◌∷◌, filter, length, Option, Some, None, slice_get, refl, sym, ap, ◌∙◌, subst, arith}
use Rattle.std.specs.List.{list_any, position, position_or_len}
use Rattle.std.proofs.lemmas.Bool.{and_parts, and_from, eqb-true, ltb-true, lt-ltb, leb-true, le-leb}
use Rattle.std.proofs.lemmas.Option.{slice_get_within, same_Some}
use Rattle.plc_base.specs.declared.ids.PointId.{PointId}
use Rattle.plc_lang.specs.declared.syntax.Op.{Op}
use Rattle.plc_lang.specs.Labels.{labels_by_op, op_of_label}
use Rattle.plc_lang.specs.Locals.{locals_of}
use Rattle.plc_flow.specs.declared.flow.Flow.{Flow}
use Rattle.plc_flow.specs.declared.flow.Gate.{Gate}
use Rattle.plc_flow.specs.WellFormed.{IsPointOf}
use Rattle.plc_flow.proofs.Gates.{one_gate}
use Rattle.plc_logic.specs.declared.clause.Clause.{Clause}
use Rattle.plc_logic.specs.declared.clause.Site.{Site}
use Rattle.plc_logic.specs.declared.clause.Site.TheVariants.{Over, At}
use Rattle.plc_logic.specs.declared.clause.Item.{Item}
use Rattle.plc_logic.specs.declared.clause.Outline.{Outline}
use Rattle.plc_logic.specs.Fit.{ClauseFits, SiteFits, ItemFits}
use Rattle.plc_vocabulary.specs.Fit.{Fits}
use Rattle.plc_vocabulary.specs.Parts.{has_point, locals_or_none, point_locals}
use Rattle.plc_vocabulary.specs.Points.{is_over, is_point, names_point, site_is_at, stands_at, clauses_at}
use Rattle.plc_flow.proofs.Each.{Each, each_so}
use Rattle.plc_oblig.proofs.Lists.{each_map, each_of_all}
use Rattle.plc_oblig.proofs.Places.{in_at, first_found, there}

-- what passes a test
pub each_filter : {A : Type 0} (P : A → Type 0) (test : A → Bool) (xs : List A) → Each P xs → Each (λ x. P x × (test x ≡ true)) (filter test xs)
each_filter P test [] h = tt
each_filter {A = A} P test (x ∷ xs) h = go (test x) refl (each_filter P test xs h.1)
  where
    go : (b : Bool) → test x ≡ b → Each (λ x. P x × (test x ≡ true)) (filter test xs) → Each (λ x. P x × (test x ≡ true)) (cond b (x ∷ filter test xs) (filter test xs))
    go true is rest = ((h.0, is), rest)
    go false is rest = rest

-- one that passes, of those of which this holds
pub some_passes : {A : Type 0} (P : A → Type 0) (test : A → Bool) (xs : List A) → Each P xs → list_any test xs ≡ true → (x : A) × P x × (test x ≡ true)
some_passes P test [] h any = cc
some_passes {A = A} P test (x ∷ xs) h any = go (test x) refl any (some_passes P test xs h.1)
  where
    go : (b : Bool) → test x ≡ b → (b || list_any test xs) ≡ true → (list_any test xs ≡ true → (x : A) × P x × (test x ≡ true)) → (x : A) × P x × (test x ≡ true)
    go true is any rest = (x, h.0, is)
    go false is any rest = rest any

-- ---- the operation of a point

-- a point of an operation
pub record Stands (flow : Flow) (op p : ℕ) (operation : Op) : Type 0 where
  pub gate : Gate
  pub opens : slice_get flow.gates op ≡ Some gate
  pub within : IsPointOf gate p
  pub named : slice_get flow.file.ops op ≡ Some operation

one_op : (flow : Flow) (outline : Outline) → Fits flow outline → (op other p : ℕ) (operation : Op) (gate : Gate) → Stands flow op p operation → slice_get flow.gates other ≡ Some gate → IsPointOf gate p → other ≡ op
one_op flow outline fits op other p operation gate s opens within = one_gate 0 flow.points flow.gates other op gate s.gate p fits.flow_fits.well.ranges opens s.opens within s.within

over_point : (p : ℕ) (g : Gate) → is_over (Some g) p ≡ true → IsPointOf g p
over_point p g h =
    let a = and_parts (nat_le g.first p && nat_lt p g.after) (not (p == g.exit.0)) h in
    let b = and_parts (nat_le g.first p) (nat_lt p g.after) a.0 in
    (leb-true g.first p b.0, ltb-true p g.after b.1)

-- a clause fits the operation that has the point
pub record Placed (flow : Flow) (p : ℕ) (c : Clause) : Type 0 where
  pub op : ℕ
  pub operation : Op
  pub stands : Stands flow op p operation
  pub fits : ClauseFits flow.file operation.locals true c

-- so does the clause of an item that stands at the point
item_placed : (flow : Flow) (outline : Outline) → Fits flow outline → (p : ℕ) (c : Clause) (site : Site) → SiteFits flow.file c site → site_is_at flow p site ≡ true → Placed flow p c
item_placed flow outline fits p c (Over o) h at = go (slice_get flow.gates o.0) refl at
  where
    go : (g : Option Gate) → slice_get flow.gates o.0 ≡ g → is_over g p ≡ true → Placed flow p c
    go None opens at = cc
    go (Some g) opens at = record { op = o.0; operation = h.0; stands = record { gate = g; opens = opens; within = over_point p g at; named = h.1 }; fits = h.2 }
item_placed flow outline fits p c (At labels) h at =
    let l = some_passes (λ l. op_of_label (labels_by_op flow.file.ops) l ≡ Some h.0) (names_point flow.labels p) labels (each_of_all (λ l. op_of_label (labels_by_op flow.file.ops) l ≡ Some h.0) labels h.3.within) at in
    go l.0 l.1 (slice_get flow.labels l.0) refl l.2
  where
    go : (l : ℕ) → op_of_label (labels_by_op flow.file.ops) l ≡ Some h.0 → (q : Option PointId) → slice_get flow.labels l ≡ q → is_point p q ≡ true → Placed flow p c
    go l stands None there is = cc
    go l stands (Some q) there is =
        let i = fits.sorted.each_label l q there in
        let k : i.op ≡ h.0 = same_Some i.op h.0 (sym i.stands ∙ stands) in
        let within = subst (IsPointOf i.gate) (eqb-true q.0 p is) i.within in
        record { op = i.op; operation = h.1; stands = record { gate = i.gate; opens = i.opens; within = within; named = ap (slice_get flow.file.ops) k ∙ h.2 }; fits = h.4 }

clauses_placed : (flow : Flow) (outline : Outline) → Fits flow outline → (p : ℕ) → Each (Placed flow p) (clauses_at flow outline p)
clauses_placed flow outline fits p = each_map (Placed flow p) (λ (i : Item). i.clause) (filter (stands_at flow p) outline.items)
    (each_so (λ i. ItemFits flow.file i × (stands_at flow p i ≡ true)) (λ (i : Item). Placed flow p i.clause) (λ i h. item_placed flow outline fits p i.clause i.site h.0 h.1)
    (filter (stands_at flow p) outline.items)
    (each_filter (ItemFits flow.file) (stands_at flow p) outline.items (each_of_all (ItemFits flow.file) outline.items fits.outline_fits.each_item)))

-- a point has one operation
fits_same : (flow : Flow) (outline : Outline) → Fits flow outline → (op p : ℕ) (operation : Op) → Stands flow op p operation → (c : Clause) → Placed flow p c → ClauseFits flow.file operation.locals true c
fits_same flow outline fits op p operation s c placed =
    let same = one_op flow outline fits op placed.op p operation placed.stands.gate s placed.stands.opens placed.stands.within in
    let its : placed.operation ≡ operation = same_Some placed.operation operation (sym placed.stands.named ∙ ap (slice_get flow.file.ops) same ∙ s.named) in
    subst (λ (x : Op). ClauseFits flow.file x.locals true c) its placed.fits

pub point_clauses_fit : (flow : Flow) (outline : Outline) → Fits flow outline → (op p : ℕ) (operation : Op) → Stands flow op p operation → Each (ClauseFits flow.file operation.locals true) (clauses_at flow outline p)
point_clauses_fit flow outline fits op p operation s = each_so (Placed flow p) (ClauseFits flow.file operation.locals true) (fits_same flow outline fits op p operation s) (clauses_at flow outline p) (clauses_placed flow outline fits p)

-- ---- the locals of a point

pub op_locals : (flow : Flow) (op : ℕ) (operation : Op) → slice_get flow.file.ops op ≡ Some operation → locals_of flow.file.ops op ≡ operation.locals
op_locals flow op operation named = ap Rattle.plc_lang.specs.Locals.locals_or_none named

pub locals_at : (flow : Flow) (outline : Outline) → Fits flow outline → (op p : ℕ) (operation : Op) → Stands flow op p operation → point_locals flow p ≡ operation.locals
locals_at flow outline fits op p operation s =
    let has : has_point p s.gate ≡ true = and_from (nat_le s.gate.first p) (nat_lt p s.gate.after) (le-leb s.gate.first p s.within.0) (lt-ltb p s.gate.after s.within.1) in
    let f = first_found (has_point p) flow.gates s.gate (in_at flow.gates op s.gate s.opens) has in
    let parts = and_parts (nat_le f.0.first p) (nat_lt p f.0.after) f.2 in
    let same = one_op flow outline fits op (position_or_len (has_point p) flow.gates) p operation f.0 s f.1 (leb-true f.0.first p parts.0, ltb-true p f.0.after parts.1) in
    let inside = lt-ltb (position_or_len (has_point p) flow.gates) (length flow.gates) (slice_get_within flow.gates (position_or_len (has_point p) flow.gates) f.0 f.1) in
    let found : position (has_point p) flow.gates ≡ Some op = rw inside (ap Some same) in
    ap (locals_or_none flow) found ∙ op_locals flow op operation s.named

-- the clauses of a point fit its locals
pub clauses_at_fit : (flow : Flow) (outline : Outline) → Fits flow outline → (p : ℕ) → Each (ClauseFits flow.file (point_locals flow p) true) (clauses_at flow outline p)
clauses_at_fit flow outline fits p = each_so (Placed flow p) (ClauseFits flow.file (point_locals flow p) true)
    (λ c q. subst (λ ls. ClauseFits flow.file ls true c) (sym (locals_at flow outline fits q.op p q.operation q.stands)) q.fits) (clauses_at flow outline p) (clauses_placed flow outline fits p)

-- those of a point of an operation
pub gate_locals : (flow : Flow) (outline : Outline) → Fits flow outline → (op : ℕ) (g : Gate) → slice_get flow.gates op ≡ Some g → (p : ℕ) → IsPointOf g p → point_locals flow p ≡ locals_of flow.file.ops op
gate_locals flow outline fits op g opens p within =
    let inside = slice_get_within flow.gates op g opens in
    let same = fits.flow_fits.well.gates in
    let o = there flow.file.ops op (omega (arith, inside, same)) in
    let s : Stands flow op p o.0 = record { gate = g; opens = opens; within = within; named = o.1 } in
    locals_at flow outline fits op p o.0 s ∙ sym (op_locals flow op o.0 o.1)
