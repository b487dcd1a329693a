-- The local that a claim is about: it is a pointer local of the operation in which the label stands, and its place
-- among all locals of that operation is a short number.
use Rattle.std.proofs.Common.{◌≡◌, ℕ, zero, suc, ◌+◌, ◌<◌, ◌≤◌, Bool, true, false, cond}
use Rattle.std.proofs.Common.{List, [], ◌∷◌, length, slice_get, count_by, Option, Some, None}
use Rattle.std.proofs.Common.{refl, sym, ap, subst, ◌∙◌, arith}
use Rattle.std.proofs.lemmas.Option.{slice_get_within}
use Rattle.plc_base.specs.Limits.{most}
use Rattle.plc_base.specs.declared.limits.What1.TheVariants as limits
use Rattle.plc_lang.specs.declared.syntax.Local.{Local}
use Rattle.plc_lang.specs.declared.syntax.Op.{Op}
use Rattle.plc_lang.specs.Fit.{FileFits}
use Rattle.plc_lang.specs.Labels.{labels_by_op, op_of_label}
use Rattle.plc_lang.specs.Locals.{is_pointer, locals_or_none}
use Rattle.plc_lang.specs.Numbering.{places_from, pointer_place}
use Rattle.plc_lang.proofs.Numbers.{numbers_are_one}
use Rattle.plc_flow.specs.declared.flow.Flow.{Flow}
use Rattle.plc_at.specs.Claims.{locals_by_label, pointers_by_label}
use Rattle.plc_at.specs.Claims.{locals_or_none as locals_where}
use Rattle.plc_at.specs.Extended.{place_or_first}

-- ---- the local at the place of a pointer local

-- a place, counted from a number on, at which a pointer local stands
pub record IsPointerPlace (ls : List Local) (from place : ℕ) : Type 0 where
  pub at : ℕ
  pub counted : place ≡ from + at
  pub local : Local
  pub there : slice_get ls at ≡ Some local
  pub pointer : is_pointer local ≡ true

one_later : (l : Local) (ls : List Local) (b p : ℕ) → IsPointerPlace ls (b + 1) p → IsPointerPlace (l ∷ ls) b p
one_later l ls b p is = record {
  at = suc is.at;
  counted = (let e = is.counted in omega arith);
  local = is.local;
  there = is.there;
  pointer = is.pointer;
}

at_first_or_later : (l : Local) (ls : List Local) (b p : ℕ)
    → ((w : ℕ) → slice_get (places_from is_pointer (b + 1) ls) w ≡ Some p → IsPointerPlace ls (b + 1) p)
    → (y : Bool) → is_pointer l ≡ y → (v : ℕ)
    → slice_get (cond y (b ∷ places_from is_pointer (b + 1) ls) (places_from is_pointer (b + 1) ls)) v ≡ Some p
    → IsPointerPlace (l ∷ ls) b p
at_first_or_later l ls b p rest true h zero e =
    let same : b ≡ p = cc in
    record { at = zero; counted = omega arith; local = l; there = refl; pointer = h }
at_first_or_later l ls b p rest true h (suc w) e = one_later l ls b p (rest w e)
at_first_or_later l ls b p rest false h v e = one_later l ls b p (rest v e)

pub at_its_place : (ls : List Local) (b v p : ℕ) → slice_get (places_from is_pointer b ls) v ≡ Some p
    → IsPointerPlace ls b p
at_its_place [] b v p e = absurd cc
at_its_place (l ∷ ls) b v p e =
    at_first_or_later l ls b p (λ w f. at_its_place ls (b + 1) w p f) (is_pointer l) refl v e

-- ---- the operation of a claim's label

-- the operation in which a label stands
pub record StandsInOperation (flow : Flow) (label : ℕ) : Type 0 where
  pub number : ℕ
  pub operation : Op
  pub stands : op_of_label (labels_by_op flow.file.ops) label ≡ Some number
  pub named : slice_get flow.file.ops number ≡ Some operation
  pub locals : locals_by_label flow label ≡ operation.locals

locals_are : (flow : Flow) (label : ℕ)
    → locals_by_label flow label ≡ locals_where flow (op_of_label (labels_by_op flow.file.ops) label)
unfolding locals_by_label
locals_are flow label = refl

in_numbered : (flow : Flow) (label v n : ℕ) → op_of_label (labels_by_op flow.file.ops) label ≡ Some n
    → (o : Option Op) → slice_get flow.file.ops n ≡ o → locals_by_label flow label ≡ locals_or_none o
    → v < count_by is_pointer (locals_or_none o) → StandsInOperation flow label
in_numbered flow label v n stands None named same less = absurd (omega arith)
in_numbered flow label v n stands (Some op) named same less =
    record { number = n; operation = op; stands = stands; named = named; locals = same }

in_one_or_none : (flow : Flow) (label v : ℕ) (k : Option ℕ) → op_of_label (labels_by_op flow.file.ops) label ≡ k
    → locals_by_label flow label ≡ locals_where flow k → v < count_by is_pointer (locals_where flow k)
    → StandsInOperation flow label
in_one_or_none flow label v None stands same less = absurd (omega arith)
in_one_or_none flow label v (Some n) stands same less =
    in_numbered flow label v n stands (slice_get flow.file.ops n) refl same less

-- a label stands in an operation where a pointer local is counted by it
pub in_operation : (flow : Flow) (label v : ℕ) → v < pointers_by_label flow label → StandsInOperation flow label
in_operation flow label v less =
    let same = locals_are flow label in
    in_one_or_none flow label v (op_of_label (labels_by_op flow.file.ops) label) refl same
    (subst (λ (ls : List Local). v < count_by is_pointer ls) same less)

-- ---- its place is short

few_in : (flow : Flow) (n : ℕ) (o : Option Op) → FileFits flow.file → slice_get flow.file.ops n ≡ o
    → length (locals_or_none o) ≤ most limits.Locals
few_in flow n None fits named = omega arith
few_in flow n (Some op) fits named = (fits.each_op n op named).locals

few_where : (flow : Flow) (k : Option ℕ) → FileFits flow.file → length (locals_where flow k) ≤ most limits.Locals
few_where flow None fits = omega arith
few_where flow (Some n) fits = few_in flow n (slice_get flow.file.ops n) fits refl

few_locals : (flow : Flow) (label : ℕ) → FileFits flow.file
    → length (locals_by_label flow label) ≤ most limits.Locals
few_locals flow label fits =
    subst (λ (ls : List Local). length ls ≤ most limits.Locals) (sym (locals_are flow label))
    (few_where flow (op_of_label (labels_by_op flow.file.ops) label) fits)

pub place_is_short : (flow : Flow) (label v p : ℕ) → FileFits flow.file
    → Some p ≡ pointer_place (locals_by_label flow label) v → p < 65536
place_is_short flow label v p fits e =
    let ls = locals_by_label flow label in
    let is = at_its_place ls 0 v p (sym e) in
    let counted = is.counted in
    let within = slice_get_within ls is.at is.local is.there in
    let few = few_locals flow label fits in
    omega arith

-- ---- what stands there

-- a pointer local stands at the place by which clauses name a claim's local
pub record IsPointerAt (ls : List Local) (place : ℕ) : Type 0 where
  pub local : Local
  pub there : slice_get ls place ≡ Some local
  pub pointer : is_pointer local ≡ true

pub claimed_is_pointer : (ls : List Local) (v : ℕ) → v < count_by is_pointer ls
    → IsPointerAt ls (place_or_first (pointer_place ls v))
claimed_is_pointer ls v less =
    let found = (numbers_are_one ls).pointer_there v less in
    let is = at_its_place ls 0 v found.0 found.1 in
    let same : found.0 ≡ is.at = (let counted = is.counted in omega arith) in
    let place : place_or_first (pointer_place ls v) ≡ is.at = ap place_or_first found.1 ∙ same in
    record { local = is.local; there = ap (slice_get ls) place ∙ is.there; pointer = is.pointer }
