-- Numbers of one thing: a local's among those of its kind and among all locals of its operation; a value's in its
-- auxiliary field and over the file.
use Rattle.std.specs.Prelude.{◌≡◌, ◌<◌, ℕ, ◌+◌, ◌-◌, nat_lt, Bool, true, if◌then◌else◌}
use Rattle.std.specs.Prelude.{List, [], ◌∷◌, length, take, slice_get, count_by, Option, Some, None}
use Rattle.std.specs.List.{sum_by}
use Rattle.plc_lang.specs.declared.syntax.Local.{Local}
use Rattle.plc_lang.specs.declared.syntax.Ghost.{Ghost}
use Rattle.plc_lang.specs.Locals.{is_pointer, is_data}

-- the places of the locals of a kind, in order, where so many locals stand before
abbrev pub places_from : (Local → Bool) → ℕ → List Local → List ℕ
places_from is_kind before [] = []
places_from is_kind before (l ∷ ls) =
    if is_kind l then before ∷ places_from is_kind (before + 1) ls else places_from is_kind (before + 1) ls

-- the place among all locals of a pointer local, by its number among these
abbrev pub pointer_place : List Local → ℕ → Option ℕ
pointer_place locals v = slice_get (places_from is_pointer 0 locals) v

-- the place among all locals of a data local, by its number among these
abbrev pub data_place : List Local → ℕ → Option ℕ
data_place locals x = slice_get (places_from is_data 0 locals) x

-- the number of the local at a place among the pointer locals, or among the data locals: how many of its kind stand
-- before
abbrev pub pointer_number : List Local → ℕ → ℕ
pointer_number locals place = count_by is_pointer (take place locals)

abbrev pub data_number : List Local → ℕ → ℕ
data_number locals place = count_by is_data (take place locals)

-- how many values an auxiliary field has
abbrev pub values_in : Ghost → ℕ
values_in g = length g.values

-- the number over the file of a value, by its field and its number there: those of the fields before stand before it
abbrev pub value_number : List Ghost → ℕ → ℕ → ℕ
value_number ghosts g v = sum_by values_in (take g ghosts) + v

-- the field and the number there of a value by its number over fields of which so many stand before
abbrev pub value_from : ℕ → List Ghost → ℕ → Option (ℕ × ℕ)
value_from before [] n = None
value_from before (g ∷ gs) n =
    if nat_lt n (values_in g) then Some (before, n) else value_from (before + 1) gs (n - values_in g)

-- the field and the number there of a value by its number over all fields
abbrev pub value_at : List Ghost → ℕ → Option (ℕ × ℕ)
value_at ghosts n = value_from 0 ghosts n

-- a value's two numbers lead to each other
pub record ValuesAreNumbered (ghosts : List Ghost) : Type 0 where
  pub there : (k v : ℕ) (g : Ghost) → slice_get ghosts k ≡ Some g → v < values_in g
      → value_at ghosts (value_number ghosts k v) ≡ Some (k, v)
  pub back : (n k v : ℕ) → value_at ghosts n ≡ Some (k, v) → value_number ghosts k v ≡ n

-- a local's two numbers lead to each other, and each number below the count of its kind has a place
pub record NumbersAreOne (locals : List Local) : Type 0 where
  pub of_pointer : (v place : ℕ) → pointer_place locals v ≡ Some place → pointer_number locals place ≡ v
  pub of_data : (x place : ℕ) → data_place locals x ≡ Some place → data_number locals place ≡ x
  pub to_pointer : (place : ℕ) (l : Local) → slice_get locals place ≡ Some l → is_pointer l ≡ true
      → pointer_place locals (pointer_number locals place) ≡ Some place
  pub to_data : (place : ℕ) (l : Local) → slice_get locals place ≡ Some l → is_data l ≡ true
      → data_place locals (data_number locals place) ≡ Some place
  pub pointer_there : (v : ℕ) → v < count_by is_pointer locals
      → (place : ℕ) × (pointer_place locals v ≡ Some place)
  pub data_there : (x : ℕ) → x < count_by is_data locals → (place : ℕ) × (data_place locals x ≡ Some place)
