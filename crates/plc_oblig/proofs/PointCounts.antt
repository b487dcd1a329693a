-- How many clauses there are at each point, as they stand in a table; and that entries and last points are points.
use Rattle.std.proofs.Common.{◌≡◌, ℕ, zero, suc, ◌<◌, ◌≤◌, List, [], ◌∷◌, length, slice_get, Some, ap, ◌∙◌, subst, arith}
use Rattle.std.specs.Prelude.{slice_index_or}
use Rattle.std.proofs.lemmas.List.FromFn.{length-map-range_with_len, get_or-map-range_with_len}
use Rattle.std.proofs.lemmas.List.Sums.{length-filter, count_by-le-length}
use Rattle.plc_flow.specs.declared.flow.Gate.{Gate}
use Rattle.plc_flow.specs.declared.flow.Step.{Step}
use Rattle.plc_flow.specs.declared.flow.Flow.{Flow}
use Rattle.plc_flow.specs.WellFormed.{GatesFrom}
use Rattle.plc_logic.specs.declared.clause.Outline.{Outline}
use Rattle.plc_vocabulary.specs.Fit.{Fits}
use Rattle.plc_vocabulary.specs.Points.{count_at, stands_at}
use Rattle.plc_oblig.specs.Runs.{counts_of}

-- what is read past the last gate
abbrev pub no_gate : Gate
no_gate = record { entry = record { 0 = 0 }; exit = record { 0 = 0 }; first = 0; after = 0 }

pub count_read : (flow : Flow) (outline : Outline) (counts : List ℕ) (p d : ℕ) → counts ≡ counts_of flow outline → p < flow.points
    → slice_index_or counts p d ≡ count_at flow outline p
count_read flow outline counts p d same lt =
    ap (λ (cs : List ℕ). slice_index_or cs p d) same ∙ get_or-map-range_with_len (count_at flow outline) 0 flow.points p p d lt (omega arith)

pub count_listed : (flow : Flow) (outline : Outline) (counts : List ℕ) (p : ℕ) → counts ≡ counts_of flow outline → p < flow.points → p < length counts
count_listed flow outline counts p same lt = let e = ap length same ∙ length-map-range_with_len (count_at flow outline) 0 flow.points in omega arith

pub count_small : (flow : Flow) (outline : Outline) (p n : ℕ) → length outline.items ≤ 256 → n ≡ count_at flow outline p → n ≤ 256
count_small flow outline p n few e =
    let a = length-filter (stands_at flow p) outline.items in
    let b = count_by-le-length (stands_at flow p) outline.items in omega arith

gates_rise : (n end : ℕ) (gs : List Gate) → GatesFrom n gs end → n ≤ end
gates_rise n end [] h = omega arith
gates_rise n end (g ∷ gs) h = let r = gates_rise g.after end gs h.4 in let a = h.3 in omega arith

record IsWithin (end : ℕ) (g : Gate) : Type 0 where
  entry : g.entry.0 < end
  after : g.after ≤ end

gate_within : (n end : ℕ) (gs : List Gate) (k : ℕ) (g : Gate) → GatesFrom n gs end → slice_get gs k ≡ Some g → IsWithin end g
gate_within n end [] k g h is = cc
gate_within n end (x ∷ gs) zero g h is =
    (let same : x ≡ g = cc in let r = gates_rise x.after end gs h.4 in let a = h.1 in let b = h.3 in
    subst (IsWithin end) same (record { entry = omega arith; after = r }))
gate_within n end (x ∷ gs) (suc k) g h is = gate_within x.after end gs k g h.4 is

pub entry_within : (flow : Flow) (outline : Outline) (k : ℕ) (g : Gate) → Fits flow outline → slice_get flow.gates k ≡ Some g → g.entry.0 < flow.points
entry_within flow outline k g fits is = (gate_within 0 flow.points flow.gates k g fits.flow_fits.well.ranges is).entry

pub last_within : (flow : Flow) (outline : Outline) (k : ℕ) (s : Step) → Fits flow outline → slice_get flow.steps k ≡ Some s → s.to.0 < flow.points
last_within flow outline k s fits is =
    let w = fits.flow_fits.well.steps k s is in
    let less : s.to.0 < w.0.after = w.3.1 in
    let a = (gate_within 0 flow.points flow.gates s.op.0 w.0 fits.flow_fits.well.ranges w.1).after in omega arith
