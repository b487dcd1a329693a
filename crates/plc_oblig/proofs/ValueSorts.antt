-- The values of auxiliary fields are numbered over the file, field after field, and each has the sort of its field.
use Rattle.std.proofs.Common.{◌≡◌, ℕ, ◌+◌, ◌-◌, ◌<◌, ◌≤◌, List, [], ◌∷◌, take, length, get_or, Some, slice_get, refl, sym, ap, ◌∙◌, arith}
use Rattle.std.specs.List.{sum_by}
use Rattle.std.proofs.lemmas.List.Sums.{sum_by_more}
use Rattle.std.proofs.lemmas.Option.{slice_get_within, get_or_from_slice_get}
use Rattle.plc_lang.specs.declared.syntax.Ghost.{Ghost}
use Rattle.plc_lang.specs.Numbering.{values_in, value_number, value_at}
use Rattle.plc_lang.proofs.Numbers.{values_are_numbered}
use Rattle.plc_logic.specs.declared.clause.Sort.TheVariants as sorts
use Rattle.plc_logic.specs.Fit.{ghost_sort}
use Rattle.plc_vocabulary.specs.Sorts.{value_sort}

-- the values of field g are numbered from here on
abbrev pub NumberedFrom : List Ghost → ℕ → ℕ → Type 0
NumberedFrom all g first = sum_by values_in (take g all) ≡ first

pub numbered_next : (all : List Ghost) (g first : ℕ) (h : Ghost) → slice_get all g ≡ Some h → NumberedFrom all g first → NumberedFrom all (g + 1) (first + length h.values)
numbered_next all g first h at is =
    let more = sum_by_more values_in all g h (slice_get_within all g h at) in
    let same = ap values_in (get_or_from_slice_get all g h h at) in
    more ∙ (let e : sum_by values_in (take g all) + values_in (get_or all g h) ≡ first + length h.values = omega (arith, same, is) in e)

pub enumerated : (g : ℕ) (vs : List ℕ) → 0 < length vs → ghost_sort g vs ≡ sorts.Value g
enumerated g [] some = absurd (omega arith)
enumerated g (v ∷ vs) some = refl

-- the sort of the constant with this number
pub value_is_of : (ghosts : List Ghost) (g first v : ℕ) (d : Ghost) → slice_get ghosts g ≡ Some d → NumberedFrom ghosts g first → first ≤ v → v < first + length d.values → value_sort (value_at ghosts v) ≡ ghost_sort g d.values
value_is_of ghosts g first v d at from low high =
    let less : v - first < length d.values = omega arith in
    let same : value_number ghosts g (v - first) ≡ v = omega (arith, from) in
    let there = (values_are_numbered ghosts).there g (v - first) d at less in
    ap (λ n. value_sort (value_at ghosts n)) (sym same) ∙ ap value_sort there ∙ sym (enumerated g d.values (omega arith))
