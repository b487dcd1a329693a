-- What the clause of a claim says of the node of the claim's local.
use Rattle.std.proofs.Common.{◌≡◌, ℕ, Bool, true, false, not, ◌||◌, ◌==◌, List, Some, slice_get, refl, ap, ◌∙◌}
use Rattle.std.proofs.Common.{subst, arith}
use Rattle.std.specs.Prelude.{if◌then◌else◌}
use Rattle.plc_lang.specs.declared.syntax.File.{File}
use Rattle.plc_lang.specs.declared.syntax.Local.{Local}
use Rattle.plc_lang.specs.Numbering.{pointer_number, data_number}
use Rattle.plc_logic.specs.declared.clause.Base.TheVariants as bases
use Rattle.plc_logic.specs.declared.clause.Literal.TheVariants.{Retired}
use Rattle.plc_logic.specs.Fit.{ClauseFits}
use Rattle.plc_gc.specs.declared.slot.Slot.TheVariants.{Local as in_local, Data as in_data}
use Rattle.plc_gc.specs.State.{GcState, value, is_retired, locals_of}
use Rattle.plc_gc.specs.Clauses.{Holds, declared_value, local_value}
use Rattle.plc_at.specs.Extended.{null_or_retired}

-- the local at a place is the pointer local with its number
pub node_of_place : (file : File) (ls : List Local) (g : GcState) (t v n : ℕ) (is_so : Bool)
    → (locals_of g t).declared ≡ ls → pointer_number ls v ≡ n → ClauseFits file ls true (null_or_retired v is_so)
    → local_value g (Some t) v ≡ value g (in_local t n)
node_of_place file ls g t v n is_so declared number fits =
    let there = fits.each 1 (Retired (bases.Local v) is_so) (omega arith) in
    ap (λ (ds : List Local). declared_value g t ds v (slice_get ds v)) declared
    ∙ ap (declared_value g t ls v) there.1
    ∙ ap (λ (b : Bool).
    if b then value g (in_local t (pointer_number ls v)) else value g (in_data t (data_number ls v))) there.2
    ∙ ap (λ (i : ℕ). value g (in_local t i)) number

second : (x y : Bool) → (x || (y || false)) ≡ true → x ≡ false → y ≡ true
second true y e some = cc
second false true e some = refl
second false false e some = cc

second_denied : (x y : Bool) → (x || (not y || false)) ≡ true → x ≡ false → y ≡ false
second_denied true y e some = cc
second_denied false true e some = cc
second_denied false false e some = refl

-- where it isn't null, its node is retired, or it isn't, as the clause has it
pub said : (g : GcState) (t v n : ℕ) (is_so : Bool) → local_value g (Some t) v ≡ n → (n == 0) ≡ false
    → Holds g (Some t) (null_or_retired v is_so) → is_retired g n ≡ is_so
said g t v n true is some holds =
    let e = holds (λ i. 0) (λ i less. absurd (omega arith)) in
    second (n == 0) (is_retired g n)
    (subst (λ (k : ℕ). ((k == 0) || (is_retired g k || false)) ≡ true) is e) some
said g t v n false is some holds =
    let e = holds (λ i. 0) (λ i less. absurd (omega arith)) in
    second_denied (n == 0) (is_retired g n)
    (subst (λ (k : ℕ). ((k == 0) || (not (is_retired g k) || false)) ≡ true) is e) some
