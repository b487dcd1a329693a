-- What tables of names hold: the pointer local at a place by its number, the locals of an operation, and the parts of a
-- name.
use Rattle.std.proofs.Common.{◌≡◌, ◌==◌, ℕ, zero, suc, ◌+◌, ◌<◌, ◌≤◌, true, false, Bool, cond, List, [], ◌∷◌, length}
use Rattle.std.proofs.Common.{take, drop, count_by, get_or, Option, Some, None, slice_get, refl, sym, ap, ◌∙◌}
use Rattle.std.proofs.Common.{below_more, arith}
use Rattle.std.specs.List.{position, position_from}
use Rattle.std.specs.Option.{option_map}
use Rattle.std.proofs.lemmas.Iterator.Adapters.{position_from-zero}
use Rattle.std.proofs.lemmas.List.{take_all}
use Rattle.std.proofs.lemmas.Option.{slice_get-get_or}
use Rattle.std.proofs.lemmas.List.Sums.{count_by_more_yes, count_by_more_no, sum_by-take-drop}
use Rattle.plc_lang.specs.declared.syntax.Local.{Local}
use Rattle.plc_lang.specs.declared.syntax.Op.{Op}
use Rattle.plc_lang.specs.declared.syntax.File.{File}
use Rattle.plc_lang.specs.Fit.{FileFits}
use Rattle.plc_lang.specs.Labels.{labels_by_op, op_of_label}
use Rattle.plc_lang.specs.Locals.{is_pointer, locals_of}
use Rattle.plc_lang.specs.Lookup.{local_at}
use Rattle.plc_lang.specs.Names.{name_at, name_of, pointer_name}
use Rattle.plc_lang.proofs.Numbers.{local_of_place, numbers_are_one}
use Rattle.plc_flow.specs.declared.flow.Flow.{Flow}
use Rattle.plc_at.specs.Claims.{locals_or_none, locals_by_label, before_dot, after_dot}
use Rattle.plc_at.specs.Reading.{IsLocalNamed}

-- the pointer local at a place has the number of those before it
number_named : (file : File) (locals : List Local) (i : ℕ) (d : Local) → i < length locals
    → is_pointer (get_or locals i d) ≡ true
    → pointer_name file locals (count_by is_pointer (take i locals)) ≡ name_at file (get_or locals i d).name
number_named file locals i d h p =
    let e = slice_get-get_or locals i d h in
    let place = (numbers_are_one locals).to_pointer i (get_or locals i d) e p in
    ap (λ x. name_of file (option_map (λ (x : Local). x.name) x))
    (local_of_place is_pointer locals (count_by is_pointer (take i locals)) ∙ ap (local_at locals) place ∙ e)

-- its name is looked for
pub named_here : (file : File) (locals : List Local) (name : List ℕ) (i number : ℕ) (d : Local) → i < length locals
    → number ≡ count_by is_pointer (take i locals) → is_pointer (get_or locals i d) ≡ true
    → name_at file (get_or locals i d).name ≡ name → IsLocalNamed file locals name number
named_here file locals name i number d h n p e =
    let more = count_by_more_yes is_pointer locals i d h p in
    let all = sum_by-take-drop (λ x. cond (is_pointer x) 1 0) locals (i + 1) in
    record {
      there = omega arith;
      named = ap (pointer_name file locals) n ∙ number_named file locals i d h p ∙ e;
    }

-- none of the first pointer locals has the name
abbrev NoneBelow : File → List Local → List ℕ → ℕ → Type 0
NoneBelow file locals name number = (v : ℕ) → v < number → IsLocalNamed file locals name v → ⊥

-- so many are before a place, and none of them has the name
abbrev CountedTo : File → List Local → List ℕ → ℕ → ℕ → Type 0
CountedTo file locals name i number =
    (number ≡ count_by is_pointer (take i locals)) × ((v : ℕ) → v < number → IsLocalNamed file locals name v → ⊥)

pub counted_more : (file : File) (locals : List Local) (name : List ℕ) (i number next : ℕ) (d : Local)
    → i < length locals → number ≡ count_by is_pointer (take i locals) → is_pointer (get_or locals i d) ≡ true
    → next ≡ number + 1 → (name_at file (get_or locals i d).name ≡ name → ⊥) → NoneBelow file locals name number
    → CountedTo file locals name (i + 1) next
counted_more file locals name i number next d h n p s other none =
    let more = count_by_more_yes is_pointer locals i d h p in
    let here : IsLocalNamed file locals name number → ⊥ = λ m.
    other (sym (number_named file locals i d h p) ∙ ap (pointer_name file locals) (sym n) ∙ m.named) in
    (omega arith, λ v less. below_more (λ v. IsLocalNamed file locals name v → ⊥) number none here v (omega arith))

pub counted_same : (file : File) (locals : List Local) (name : List ℕ) (i number next : ℕ) (d : Local)
    → i < length locals → number ≡ count_by is_pointer (take i locals) → is_pointer (get_or locals i d) ≡ false
    → next ≡ number → NoneBelow file locals name number → CountedTo file locals name (i + 1) next
counted_same file locals name i number next d h n p s none =
    let more = count_by_more_no is_pointer locals i d h p in
    (omega arith, λ v less. none v (omega arith))

-- at the end none has it
pub none_left : (file : File) (locals : List Local) (name : List ℕ) (i number : ℕ) → length locals ≤ i
    → number ≡ count_by is_pointer (take i locals) → NoneBelow file locals name number
    → (v : ℕ) → IsLocalNamed file locals name v → ⊥
none_left file locals name i number h n none v m =
    let all = ap (count_by is_pointer) (take_all i locals h) in
    let there = m.there in
    none v (omega arith) m

-- an operation has few locals
pub few_locals : (flow : Flow) (label : ℕ) → FileFits flow.file → length (locals_by_label flow label) ≤ 32
unfolding locals_by_label
few_locals flow label f = go (op_of_label (labels_by_op flow.file.ops) label)
  where
    go : (op : Option ℕ) → length (locals_or_none flow op) ≤ 32
    go None = omega arith
    go (Some k) = at (slice_get flow.file.ops k) refl
      where
        at : (x : Option Op) → slice_get flow.file.ops k ≡ x → length (locals_of flow.file.ops k) ≤ 32
        at None e = rw e (omega arith)
        at (Some x) e = rw e ((f.each_op k x e).locals)

-- ---- the parts of a name

abbrev is_dot : ℕ → Bool
is_dot b = b == 46

-- the first dot of a name whose bytes are counted from b
record DotAt (name : List ℕ) (b p : ℕ) : Type 0 where
  pub place : ℕ
  pub counted : p ≡ b + place
  pub before : before_dot name ≡ take place name
  pub after : after_dot name ≡ Some (drop (suc place) name)

dot_at : (name : List ℕ) (b p : ℕ) → position_from is_dot b name ≡ Some p → DotAt name b p
dot_at [] b p e = absurd cc
dot_at (x ∷ xs) b p e = go (dot_at xs (b + 1) p) (x == 46) refl e
  where
    go : (position_from is_dot (b + 1) xs ≡ Some p → DotAt xs (b + 1) p) → (y : Bool) → (x == 46) ≡ y
        → cond y (Some b) (position_from is_dot (b + 1) xs) ≡ Some p → DotAt (x ∷ xs) b p
    go rest true h f = (let same : b ≡ p = cc in record {
      place = zero;
      counted = omega arith;
      before = rw h refl;
      after = rw h refl;
    })
    go rest false h f = (let r = rest f in let n = r.counted in record {
      place = suc r.place;
      counted = omega arith;
      before = rw h (ap (λ y. x ∷ y) r.before);
      after = rw h r.after;
    })

no_dot : (name : List ℕ) (b : ℕ) → position_from is_dot b name ≡ None
    → (before_dot name ≡ name) × (after_dot name ≡ None)
no_dot [] b e = (refl, refl)
no_dot (x ∷ xs) b e = go (no_dot xs (b + 1)) (x == 46) refl e
  where
    go : (position_from is_dot (b + 1) xs ≡ None → (before_dot xs ≡ xs) × (after_dot xs ≡ None)) → (y : Bool)
        → (x == 46) ≡ y → cond y (Some b) (position_from is_dot (b + 1) xs) ≡ None
        → (before_dot (x ∷ xs) ≡ x ∷ xs) × (after_dot (x ∷ xs) ≡ None)
    go rest true h f = absurd cc
    go rest false h f = (let r = rest f in (rw h (ap (λ y. x ∷ y) r.0), rw h r.1))

from_start : (name : List ℕ) (x : Option ℕ) → position (λ b. b == 46) name ≡ x → position_from is_dot 0 name ≡ x
from_start name x e = sym (position_from-zero is_dot name) ∙ e

-- the part before its first dot
pub before_place : (name : List ℕ) (p : ℕ) → position (λ b. b == 46) name ≡ Some p → before_dot name ≡ take p name
before_place name p e =
    let d = dot_at name 0 p (from_start name (Some p) e) in
    let n = d.counted in
    let same : d.place ≡ p = omega arith in
    d.before ∙ ap (λ k. take k name) same

-- and that after it
pub after_place : (name : List ℕ) (p : ℕ) → position (λ b. b == 46) name ≡ Some p
    → after_dot name ≡ Some (drop (p + 1) name)
after_place name p e =
    let d = dot_at name 0 p (from_start name (Some p) e) in
    let n = d.counted in
    let same : suc d.place ≡ p + 1 = omega arith in
    d.after ∙ ap (λ k. Some (drop k name)) same

-- without a dot there is one part
pub one_part : (name : List ℕ) → position (λ b. b == 46) name ≡ None
    → (before_dot name ≡ name) × (after_dot name ≡ None)
one_part name e = no_dot name 0 (from_start name None e)
