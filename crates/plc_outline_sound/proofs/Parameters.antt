-- Parameters stand first and are data: so many data locals there are, and the others begin with 0.
use Rattle.std.proofs.Common.{◌≡◌, ℕ, zero, suc, ◌+◌, ◌-◌, ◌≤◌, Bool, true, false, not, ◌&&◌, cond, List, [], ◌∷◌, ◌++◌}
use Rattle.std.proofs.Common.{filter, take, length, count_by, get_or, replicate, Some, slice_get, refl, sym, ap, ◌∙◌}
use Rattle.std.proofs.Common.{arith}
use Rattle.std.specs.List.{list_any}
use Rattle.std.proofs.lemmas.Bool.{and_parts, or_parts, not-true, both_ways}
use Rattle.std.proofs.lemmas.List.{get_or-append_right}
use Rattle.std.proofs.lemmas.List.Sums.{sum_by-cons, length-filter}
use Rattle.plc_base.proofs.Tables.{get-replicate}
use Rattle.plc_lang.specs.declared.syntax.Local.{Local}
use Rattle.plc_lang.specs.declared.syntax.Op.{Op}
use Rattle.plc_lang.specs.declared.syntax.File.{File}
use Rattle.plc_lang.specs.Locals.{is_pointer, is_data, is_parameter, is_other_data, parameters_of, other_data_of}
use Rattle.plc_lang.specs.Locals.{starting_values}
use Rattle.plc_lang.specs.Numbering.{data_number}
use Rattle.plc_lang.specs.Shape.{shape_of, init_shape}
use Rattle.plc_lang.specs.WellSorted.{ParametersAreFirst}
use Rattle.plc_flow.proofs.Each.{Each}
use Rattle.plc_outline_sound.proofs.Current.{bit}
use Rattle.plc_oblig.proofs.Standing.{each_filter}
use Rattle.plc_outline_sound.proofs.Variables.{ShapeFits}

-- a parameter is data
abbrev IsPlain : Local → Type 0
IsPlain l = is_parameter l ≡ true → is_data l ≡ true

plain_one : (p q : Bool) → (p && q) ≡ false → p ≡ true → not q ≡ true
plain_one true true h is = cc
plain_one true false h is = refl
plain_one false q h is = cc

each_plain : (ls : List Local) → list_any (λ l. is_parameter l && is_pointer l) ls ≡ false → Each IsPlain ls
each_plain [] h = tt
each_plain (l ∷ ls) h =
    (let p = or_parts (is_parameter l && is_pointer l) (list_any (λ l. is_parameter l && is_pointer l) ls) h in
    (plain_one (is_parameter l) (is_pointer l) p.0, each_plain ls p.1))

-- ---- how many data locals there are

kinds : (pointer param : Bool) → (param ≡ true → not pointer ≡ true)
    → bit param + bit (not pointer && not param) ≤ bit (not pointer)
kinds true true h = (let x = h refl in cc)
kinds true false h = omega arith
kinds false true h = omega arith
kinds false false h = omega arith

counted : (k : Local → Bool) (l : Local) (ls : List Local) → count_by k (l ∷ ls) ≡ bit (k l) + count_by k ls
counted k l ls = sum_by-cons (λ x. cond (k x) 1 0) l ls

enough : (ls : List Local) → Each IsPlain ls
    → count_by is_parameter ls + count_by is_other_data ls ≤ count_by is_data ls
enough [] h = omega arith
enough (l ∷ ls) h =
    let a = counted is_parameter l ls in
    let b = counted is_other_data l ls in
    let c = counted is_data l ls in
    let d = kinds l.pointer l.param h.0 in
    let r = enough ls h.1 in
    omega arith

pub shape_fits : (file : File) (o : Op) → ParametersAreFirst o.locals → ShapeFits (shape_of file o) o.locals
shape_fits file o first =
    record { pointers = omega arith; values = enough o.locals (each_plain o.locals first.data_alone) }

pub no_shape_fits : (file : File) → ShapeFits (init_shape file) []
no_shape_fits file = record { pointers = omega arith; values = omega arith }

-- ---- what begins with 0

in_front : (ps qs : List Local) (k : ℕ) (l : Local) → Each (λ x. IsPlain x × (is_parameter x ≡ true)) ps
    → slice_get (ps ++ qs) k ≡ Some l → is_parameter l ≡ false → length ps ≤ count_by is_data (take k (ps ++ qs))
in_front [] qs k l h at other = omega arith
in_front (a ∷ ps) qs zero l h at other =
    (let same : a ≡ l = cc in absurd (both_ways (is_parameter a) (ap is_parameter same ∙ other) h.0.1))
in_front (a ∷ ps) qs (suc k) l h at other =
    let rest = in_front ps qs k l h.1 at other in
    let c = counted is_data a (take k (ps ++ qs)) in
    let one : bit (is_data a) ≡ 1 = ap bit (h.0.0 h.0.1) in
    omega arith

other_later : (o : Op) → ParametersAreFirst o.locals → (k : ℕ) (l : Local) → slice_get o.locals k ≡ Some l
    → is_other_data l ≡ true → parameters_of o ≤ data_number o.locals k
other_later o first k l at other =
    let param = not-true l.param (and_parts (not l.pointer) (not l.param) other).1 in
    let front = in_front (filter is_parameter o.locals) (filter (λ l. not (is_parameter l)) o.locals) k l
    (each_filter IsPlain is_parameter o.locals (each_plain o.locals first.data_alone))
    (ap (λ ls. slice_get ls k) (sym first.first) ∙ at) param in
    let many = length-filter is_parameter o.locals in
    let same = ap (λ ls. count_by is_data (take k ls)) (sym first.first) in
    omega arith

pub others_zero : (o : Op) → ParametersAreFirst o.locals → (args : List ℕ) → length args ≡ parameters_of o
    → (k : ℕ) (l : Local) → slice_get o.locals k ≡ Some l → is_other_data l ≡ true
    → get_or (starting_values o args) (data_number o.locals k) 0 ≡ 0
others_zero o first args many k l at other =
    let later = other_later o first k l at other in
    get_or-append_right args (replicate (other_data_of o) 0) (length args) (data_number o.locals k) 0 refl (omega arith)
    ∙ get-replicate 0 (other_data_of o) (data_number o.locals k - length args)
