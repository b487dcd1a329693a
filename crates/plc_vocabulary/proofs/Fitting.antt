-- What a flow and an outline that fit say of the parts of an obligation.
use Rattle.std.proofs.Common.{◌≡◌, ◌≤◌, ◌<◌, ◌+◌, ◌-◌, ◌*◌, ℕ, zero, suc, Bool, true, false, cond, nat_lt, unwrap_or}
use Rattle.std.proofs.Common.{Option, Some, None, List, [], ◌∷◌, length, take, slice_index_or, slice_get, refl, sym}
use Rattle.std.proofs.Common.{subst, ap, arith}
use Rattle.std.specs.List.{sum_by, position}
use Rattle.std.proofs.lemmas.List.{length-append}
use Rattle.std.proofs.lemmas.List.Sums.{sum_by-cons}
use Rattle.plc_base.specs.Limits.{most}
use Rattle.plc_base.specs.declared.limits.What1.TheVariants as limits
use Rattle.plc_lang.specs.declared.syntax.Ghost.{Ghost}
use Rattle.plc_lang.specs.declared.syntax.Op.{Op}
use Rattle.plc_lang.specs.declared.syntax.File.{File}
use Rattle.plc_lang.specs.declared.syntax.Primitive.{Primitive}
use Rattle.plc_lang.specs.declared.syntax.Primitive.TheVariants.{Null, Copy, New, Load, Store, StoreNull, DataSet}
use Rattle.plc_lang.specs.declared.syntax.Primitive.TheVariants.{DataLoad, DataStore, Eq, Ne, IsNull, NotNull, DataTest}
use Rattle.plc_lang.specs.declared.syntax.Primitive.TheVariants.{Refresh, RefreshLoad, RefreshStore, Mark, Unmark}
use Rattle.plc_lang.specs.declared.syntax.Primitive.TheVariants.{MarkTest, Call, Done, Active, Ghost as GhostWrite}
use Rattle.plc_lang.specs.Fit.{FileFits}
use Rattle.plc_lang.specs.Locals.{locals_or_none as locals_of_op}
use Rattle.plc_lang.specs.Numbering.{values_in, value_number, value_from, value_at}
use Rattle.plc_lang.specs.WellSorted.{IsWellSorted, AreWellSorted}
use Rattle.plc_flow.specs.declared.flow.Step.{Step}
use Rattle.plc_flow.specs.declared.flow.Flow.{Flow}
use Rattle.plc_flow.specs.WellFormed.{most_step_primitives}
use Rattle.plc_logic.specs.declared.clause.Outline.{Outline}
use Rattle.plc_vocabulary.specs.declared.obligations.Obligation.{Obligation}
use Rattle.plc_vocabulary.specs.declared.obligations.Obligation.TheVariants.{Start, Enter, Own, Other, Claim}
use Rattle.plc_vocabulary.specs.declared.acts.Act.{Act}
use Rattle.plc_vocabulary.specs.declared.setting.Variables.{Variables}
use Rattle.plc_vocabulary.specs.Acts.{marked_acts, acts_of_primitive, acts_of, most_acts}
use Rattle.plc_vocabulary.specs.Fit.{Fits}
use Rattle.plc_vocabulary.specs.Parts.{prims_of, executed, locals_of_step, locals_or_none, has_point, acting_locals}
use Rattle.plc_vocabulary.specs.Parts.{owner_locals}

-- ---- primitives

pub sorted_at : (file : File) (ks : List Primitive) (i : ℕ) (d : Primitive) → AreWellSorted file ks → i < length ks
    → IsWellSorted file (slice_index_or ks i d)
sorted_at file [] i d sorted within = absurd (omega arith)
sorted_at file (k ∷ ks) zero d sorted within = sorted.0
sorted_at file (k ∷ ks) (suc i) d sorted within = sorted_at file ks i d sorted.1 (omega arith)

pub sorted_front : (file : File) (j : ℕ) (ks : List Primitive) → AreWellSorted file ks → AreWellSorted file (take j ks)
sorted_front file zero ks sorted = tt
sorted_front file (suc j) [] sorted = tt
sorted_front file (suc j) (k ∷ ks) sorted = (sorted.0, sorted_front file j ks sorted.1)

step_sorted : (flow : Flow) (outline : Outline) → Fits flow outline → (k : ℕ) (r : Option Step)
    → slice_get flow.steps k ≡ r → AreWellSorted flow.file (prims_of r)
step_sorted flow outline fits k None is = tt
step_sorted flow outline fits k (Some s) is = (fits.sorted.steps k s is).each

pub executed_sorted : (flow : Flow) (outline : Outline) (o : Obligation) → Fits flow outline
    → AreWellSorted flow.file (executed flow o)
executed_sorted flow outline (Start i) fits = fits.sorted.file.init.each
executed_sorted flow outline (Enter o c) fits = tt
executed_sorted flow outline (Own k c) fits = step_sorted flow outline fits k.0 _ refl
executed_sorted flow outline (Other k p c) fits = step_sorted flow outline fits k.0 _ refl
executed_sorted flow outline (Claim k j) fits = sorted_front flow.file j _ (step_sorted flow outline fits k.0 _ refl)

step_short : (flow : Flow) (outline : Outline) → Fits flow outline → (k : ℕ) (r : Option Step)
    → slice_get flow.steps k ≡ r → length (prims_of r) ≤ most_step_primitives
step_short flow outline fits k None is = omega arith
step_short flow outline fits k (Some s) is = fits.flow_fits.well.short k s is

front_short : {A : Type 0} (j : ℕ) (xs : List A) → length (take j xs) ≤ length xs
front_short zero xs = omega arith
front_short (suc j) [] = omega arith
front_short (suc j) (x ∷ xs) = let h = front_short j xs in omega arith

pub executed_short : (flow : Flow) (outline : Outline) (o : Obligation) → Fits flow outline
    → length (executed flow o) ≤ most_step_primitives
executed_short flow outline (Start i) fits =
    let h : length flow.file.init ≤ most limits.Prims = fits.file.init in omega arith
executed_short flow outline (Enter o c) fits = omega arith
executed_short flow outline (Own k c) fits = step_short flow outline fits k.0 _ refl
executed_short flow outline (Other k p c) fits = step_short flow outline fits k.0 _ refl
executed_short flow outline (Claim k j) fits =
    let h : length (prims_of (slice_get flow.steps k.0)) ≤ most_step_primitives =
    step_short flow outline fits k.0 _ refl in
    let f = front_short j (prims_of (slice_get flow.steps k.0)) in
    omega arith

-- a primitive is two acts at most
marked_few : (ghosts : List Ghost) (v : Variables) (k : Primitive) → length (marked_acts ghosts v k) ≤ 2
marked_few ghosts v (Null p) = omega arith
marked_few ghosts v (Copy p q) = omega arith
marked_few ghosts v (New p) = omega arith
marked_few ghosts v (Load p q f) = omega arith
marked_few ghosts v (Store p f q) = omega arith
marked_few ghosts v (StoreNull p f) = omega arith
marked_few ghosts v (DataSet x e) = omega arith
marked_few ghosts v (DataLoad x q f) = omega arith
marked_few ghosts v (DataStore p f e) = omega arith
marked_few ghosts v (Eq p q) = omega arith
marked_few ghosts v (Ne p q) = omega arith
marked_few ghosts v (IsNull p) = omega arith
marked_few ghosts v (NotNull p) = omega arith
marked_few ghosts v (DataTest r x e) = omega arith
marked_few ghosts v (Refresh p q) = omega arith
marked_few ghosts v (RefreshLoad p q f) = omega arith
marked_few ghosts v (RefreshStore p f q) = omega arith
marked_few ghosts v (Mark p q) = omega arith
marked_few ghosts v (Unmark p q) = omega arith
marked_few ghosts v (MarkTest p m) = omega arith
marked_few ghosts v (Call f a) = omega arith
marked_few ghosts v (Done f) = omega arith
marked_few ghosts v (Active p) = omega arith
marked_few ghosts v (GhostWrite p g e) = omega arith

acts_few : (marked : Bool) (ghosts : List Ghost) (v : Variables) (ks : List Primitive)
    → length (acts_of marked ghosts v ks) ≤ 2 * length ks
acts_few marked ghosts v [] = omega arith
acts_few marked ghosts v (k ∷ ks) =
    let here = few marked in
    let more = acts_few marked ghosts v ks in
    let both = length-append (acts_of_primitive marked ghosts v k) (acts_of marked ghosts v ks) in
    omega arith
  where
    few : (m : Bool) → length (acts_of_primitive m ghosts v k) ≤ 2
    few true = marked_few ghosts v k
    few false = omega arith

pub acts_short : (flow : Flow) (outline : Outline) (o : Obligation) (marked : Bool) (v : Variables)
    (ks : List Primitive) (acts : List Act) → Fits flow outline → ks ≡ executed flow o
    → acts ≡ acts_of marked flow.file.ghosts v ks → length acts ≤ most_acts
acts_short flow outline o marked v ks acts fits parts made =
    let h : length (executed flow o) ≤ most_step_primitives = executed_short flow outline o fits in
    let p : length ks ≡ length (executed flow o) = ap length parts in
    let a = acts_few marked flow.file.ghosts v ks in
    let same = ap length made in
    omega arith

-- ---- locals

op_few : (file : File) → FileFits file → (o : ℕ) (r : Option Op) → slice_get file.ops o ≡ r
    → length (locals_of_op r) ≤ most limits.Locals
op_few file fits o None is = omega arith
op_few file fits o (Some op) is = (fits.each_op o op is).locals

step_few : (flow : Flow) → FileFits flow.file → (r : Option Step) → length (locals_of_step flow r) ≤ most limits.Locals
step_few flow fits None = omega arith
step_few flow fits (Some s) = op_few flow.file fits s.op.0 _ refl

pub acting_few : (flow : Flow) (o : Obligation) → FileFits flow.file
    → length (acting_locals flow o) ≤ most limits.Locals
acting_few flow (Start i) fits = omega arith
acting_few flow (Enter o c) fits = op_few flow.file fits o.0 _ refl
acting_few flow (Own k c) fits = step_few flow fits (slice_get flow.steps k.0)
acting_few flow (Other k p c) fits = step_few flow fits (slice_get flow.steps k.0)
acting_few flow (Claim k j) fits = step_few flow fits (slice_get flow.steps k.0)

point_few : (flow : Flow) → FileFits flow.file → (r : Option ℕ) → length (locals_or_none flow r) ≤ most limits.Locals
point_few flow fits None = omega arith
point_few flow fits (Some o) = op_few flow.file fits o _ refl

pub owner_few : (flow : Flow) (o : Obligation) → FileFits flow.file → length (owner_locals flow o) ≤ most limits.Locals
owner_few flow (Start i) fits = omega arith
owner_few flow (Enter o c) fits = omega arith
owner_few flow (Own k c) fits = omega arith
owner_few flow (Other k p c) fits = point_few flow fits (position (has_point p.0) flow.gates)
owner_few flow (Claim k j) fits = omega arith

-- ---- values of auxiliary fields

sum_few : (gs : List Ghost) → ((k : ℕ) (g : Ghost) → slice_get gs k ≡ Some g → length g.values ≤ 16)
    → sum_by values_in gs ≤ 16 * length gs
sum_few [] each = omega arith
sum_few (g ∷ gs) each =
    let h : length g.values ≤ 16 = each 0 g refl in
    let more = sum_few gs (λ k x is. each (suc k) x is) in
    let sum = sum_by-cons values_in g gs in
    omega arith

pub values_few : (file : File) → FileFits file → sum_by values_in file.ghosts < 65536
values_few file fits =
    let h = sum_few file.ghosts fits.values in
    let g : length file.ghosts ≤ 4 = fits.ghosts in
    omega arith

-- the number of a value is one of those of the file
pub number_within : (gs : List Ghost) (k : ℕ) (g : Ghost) (v : ℕ) → slice_get gs k ≡ Some g → v < length g.values
    → value_number gs k v < sum_by values_in gs
number_within [] k g v is within = absurd cc
number_within (x ∷ gs) zero g v is within =
    let field : x ≡ g = cc in
    let w : v < length x.values = subst (λ (y : Ghost). v < length y.values) (sym field) within in
    let sum = sum_by-cons values_in x gs in
    omega arith
number_within (x ∷ gs) (suc k) g v is within =
    let h : sum_by values_in (take k gs) + v < sum_by values_in gs = number_within gs k g v is within in
    let front = sum_by-cons values_in x (take k gs) in
    let all = sum_by-cons values_in x gs in
    omega arith

-- the number of a value of an auxiliary field that is there
pub number_small : (file : File) → FileFits file → (g v : ℕ) (d : Ghost) → slice_get file.ghosts g ≡ Some d
    → v < length d.values → value_number file.ghosts g v < 65536
number_small file fits g v d is within =
    let few = values_few file fits in
    let h = number_within file.ghosts g d v is within in
    omega arith

-- the field of a value is there
value_below : (b : ℕ) (gs : List Ghost) (n p v : ℕ) → value_from b gs n ≡ Some (p, v) → p < b + length gs
value_below b [] n p v e = absurd cc
value_below b (x ∷ gs) n p v e = go (λ m f. value_below (b + 1) gs m p v f) (nat_lt n (values_in x)) e
  where
    go : ((m : ℕ) → value_from (b + 1) gs m ≡ Some (p, v) → p < b + 1 + length gs) → (y : Bool)
        → cond y (Some (b, n)) (value_from (b + 1) gs (n - values_in x)) ≡ Some (p, v) → p < b + length (x ∷ gs)
    go rest true f =
        let first : b ≡ p = ap (λ (o : Option (ℕ × ℕ)). (unwrap_or o (0, 0)).0) f in
        omega arith
    go rest false f =
        let h = rest (n - values_in x) f in
        omega arith

pub field_there : (gs : List Ghost) (n p v : ℕ) → value_at gs n ≡ Some (p, v) → p < length gs
field_there gs n p v e =
    let h = value_below 0 gs n p v e in
    omega arith
