-- How long the items of a ground set are.
use Rattle.std.proofs.Common.{◌≡◌, ℕ, suc, ◌+◌, ◌*◌, ◌^◌, ◌==◌, Bool, true, false, not, if◌then◌else◌, cond, List, [], ◌∷◌, ◌++◌, map, flat_map, length, count_by, refl, sym, ap, ◌∙◌, arith, length-append}
use Rattle.std.proofs.Math.Nat.{pow-zero, pow-suc}
use Rattle.std.proofs.lemmas.List.{length-map}
use Rattle.std.proofs.lemmas.List.FromFn.{length-map-range_with_len}
use Rattle.std.proofs.lemmas.List.Recursion.{is_count_by}
use Rattle.plc_base.specs.declared.ids.FieldId.{FieldId}
use Rattle.plc_lang.specs.declared.syntax.Field.{Field}
use Rattle.plc_lang.specs.declared.syntax.File.{File}
use Rattle.plc_lang.specs.declared.syntax.Ghost.{Ghost}
use Rattle.plc_lang.specs.declared.syntax.Local.{Local}
use Rattle.plc_lang.specs.Locals.{is_pointer, is_other_data}
use Rattle.plc_lang.specs.Numbering.{places_from}
use Rattle.plc_ground.specs.declared.terms.Symbol.{Symbol}
use Rattle.plc_symbolic.specs.declared.symbolic.NodeTerm.{NodeTerm}
use Rattle.plc_base.specs.declared.ids.OpId.{OpId}
use Rattle.plc_flow.specs.declared.flow.Flow.{Flow}
use Rattle.plc_vocabulary.specs.declared.setting.Setting.{Setting}
use Rattle.plc_vocabulary.specs.declared.obligations.Obligation.{Obligation}
use Rattle.plc_vocabulary.specs.declared.obligations.Obligation.TheVariants.{Start, Enter}
use Rattle.plc_vocabulary.specs.Parts.{acting_locals}
use Rattle.plc_vocabulary.specs.Setting.{only_if, variables_of, targets_of, pointer_fields_from}
use Rattle.plc_symbolic.specs.Terms.{Clauses, null}
use Rattle.plc_encoding.specs.Items.{values_from, field_values, one_of_values, field_marks, mark_values}
use Rattle.plc_encoding.specs.Items.{start_clauses, enter_clauses, beginning, is_other, no_field_leads}
use Rattle.plc_encoding.specs.Items.{field_defaults_from, ghost_defaults_from, unretired, freshness}
use Rattle.plc_lang.specs.Fields.{is_pointer_field}
use Rattle.plc_oblig.specs.Size.{has_values, if_marked}

-- ---- lists

-- counting by recursion
abbrev pub tally : {A : Type 0} → (A → Bool) → List A → ℕ
tally p [] = 0
tally p (x ∷ xs) = cond (p x) (1 + tally p xs) (tally p xs)

pub tallied : {A : Type 0} (p : A → Bool) (xs : List A) → tally p xs ≡ count_by p xs
tallied p xs = is_count_by (tally p) p refl (λ x xs. refl) xs

length_if : {A : Type 0} (b : Bool) (a : A) (xs : List A) (n : ℕ) → length xs ≡ n → length (if b then a ∷ xs else xs) ≡ cond b (1 + n) n
length_if true a xs n e = let more : suc (length xs) ≡ 1 + n = omega arith in more
length_if false a xs n e = e

none_if : {A : Type 0} (b : Bool) (xs : List A) (n : ℕ) → length xs ≡ n → length (if b then [] else xs) ≡ cond (not b) n 0
none_if true xs n e = refl
none_if false xs n e = e

-- two lists, one after the other
pub both : {A : Type 0} (xs ys : List A) (m n : ℕ) → length xs ≡ m → length ys ≡ n → length (xs ++ ys) ≡ m + n
both xs ys m n e f = let l = length-append xs ys in omega arith

pub one_more : {A : Type 0} (x : A) (xs : List A) (n : ℕ) → length xs ≡ n → length (x ∷ xs) ≡ 1 + n
one_more x xs n e = let l : length (x ∷ xs) ≡ suc (length xs) = refl in omega arith

-- so many for each item
pub each_length : {A B : Type 0} (f : A → List B) (n : ℕ) → ((a : A) → length (f a) ≡ n) → (xs : List A) → length (flat_map f xs) ≡ length xs * n
each_length f n one [] = sym (let e : 0 * n ≡ 0 = grind arith in e)
each_length f n one (x ∷ xs) =
    let l = length-append (f x) (flat_map f xs) in
    let first = one x in
    let rest = each_length f n one xs in
    let e : suc (length xs) * n ≡ n + length xs * n = grind arith in
    l ∙ (let sum : length (f x) + length (flat_map f xs) ≡ suc (length xs) * n = omega arith in sum)

-- ---- locals and fields

places_tally : (p : Local → Bool) (k : ℕ) (ls : List Local) → length (places_from p k ls) ≡ tally p ls
places_tally p k [] = refl
places_tally p k (l ∷ ls) = length_if (p l) k (places_from p (k + 1) ls) (tally p ls) (places_tally p (k + 1) ls)

pub places_length : (p : Local → Bool) (k : ℕ) (ls : List Local) → length (places_from p k ls) ≡ count_by p ls
places_length p k ls = places_tally p k ls ∙ tallied p ls

pub locals_length : (owner : Bool) (ls : List Local) → length (variables_of owner ls).pointers ≡ count_by is_pointer ls
locals_length owner ls = length-map (places_from is_pointer 0 ls) _ ∙ places_length is_pointer 0 ls

fields_tally : (k : ℕ) (fs : List Field) → length (pointer_fields_from k fs) ≡ tally is_pointer_field fs
fields_tally k [] = refl
fields_tally k (f ∷ fs) = length_if f.pointer (record { 0 = k }) (pointer_fields_from (k + 1) fs) (tally is_pointer_field fs) (fields_tally (k + 1) fs)

pub fields_length : (fs : List Field) → length (pointer_fields_from 0 fs) ≡ count_by is_pointer_field fs
fields_length fs = fields_tally 0 fs ∙ tallied is_pointer_field fs

pub after_length : (fs : List FieldId) (ss : List Symbol) → length (targets_of fs ss) ≡ length ss * length fs
after_length fs ss = each_length _ (length fs) (λ s. length-map fs _) ss

-- ---- items

field_values_length : (g first n : ℕ) (ts : List NodeTerm) → length (field_values g first n ts) ≡ cond (not (n == 0)) (length ts) 0
field_values_length g first n ts = none_if (n == 0) (map (one_of_values g first n) ts) (length ts) (length-map ts (one_of_values g first n))

more_values : (b : Bool) (m n : ℕ) → cond b m 0 + n * m ≡ cond b (1 + n) n * m
more_values true m n = grind arith
more_values false m n = grind arith

values_tally : (g first : ℕ) (hs : List Ghost) (ts : List NodeTerm) → length (values_from g first hs ts) ≡ tally has_values hs * length ts
values_tally g first [] ts = sym (let e : 0 * length ts ≡ 0 = grind arith in e)
values_tally g first (h ∷ hs) ts =
    let rest = values_tally (g + 1) (first + length h.values) hs ts in
    length-append (field_values g first (length h.values) ts) (values_from (g + 1) (first + length h.values) hs ts)
    ∙ ap (λ n. n + length (values_from (g + 1) (first + length h.values) hs ts)) (field_values_length g first (length h.values) ts)
    ∙ ap (λ n. cond (has_values h) (length ts) 0 + n) rest
    ∙ more_values (has_values h) (length ts) (tally has_values hs)

pub values_length : (hs : List Ghost) (ts : List NodeTerm) → length (values_from 0 0 hs ts) ≡ count_by has_values hs * length ts
values_length hs ts = values_tally 0 0 hs ts ∙ ap (λ n. n * length ts) (tallied has_values hs)

-- what is said of marks
only_length : (marked : Bool) (cs : Clauses) (n : ℕ) → length cs ≡ n → length (only_if marked cs) ≡ if_marked marked n
only_length true cs n e = e
only_length false cs n e = refl

pub mark_values_length : (s : Setting)
    → length (mark_values s) ≡ if_marked s.marked (length s.marks + length s.fields * length s.nodes)
mark_values_length s = only_length s.marked _ _
    (both _ (flat_map (field_marks s.nodes) s.fields) (length s.marks) _ (length-map s.marks _)
    (each_length (field_marks s.nodes) (length s.nodes) (λ f. length-map s.nodes _) s.fields))

pub start_length : (shared : ℕ) (s : Setting)
    → length (start_clauses shared s) ≡ shared + (s.bound + if_marked s.marked shared)
start_length shared s = both _ _ shared _ (length-map-range_with_len _ 0 shared)
    (both _ _ s.bound _ (length-map-range_with_len _ 0 s.bound)
    (only_length s.marked _ shared (length-map-range_with_len _ 0 shared)))

pub enter_length : (ls : List Local) (s : Setting) → length (enter_clauses ls s)
    ≡ length s.mine.pointers + (count_by is_other_data ls + if_marked s.marked (length s.mine.pointers))
enter_length ls s = both _ _ (length s.mine.pointers) _ (length-map s.mine.pointers _)
    (both _ _ (count_by is_other_data ls) _
    (length-map (places_from is_other_data 0 ls) _ ∙ places_length is_other_data 0 ls)
    (only_length s.marked _ (length s.mine.pointers) (length-map s.mine.pointers _)))

pub start_beginning : (flow : Flow) (s : Setting) (o : Obligation) (i : ℕ) → o ≡ Start i → length (beginning flow s o)
    ≡ length flow.file.shared + (s.bound + if_marked s.marked (length flow.file.shared))
start_beginning flow s o i is =
    ap (λ x. length (beginning flow s x)) is ∙ start_length (length flow.file.shared) s

pub enter_beginning : (flow : Flow) (s : Setting) (o : Obligation) (p : OpId) (k : ℕ) → o ≡ Enter p k
    → length (beginning flow s o) ≡ length s.mine.pointers
    + (count_by is_other_data (acting_locals flow o) + if_marked s.marked (length s.mine.pointers))
enter_beginning flow s o p k is =
    ap (λ x. length (beginning flow s x)) is ∙ enter_length (acting_locals flow (Enter p k)) s
    ∙ ap (λ x. length s.mine.pointers
    + (count_by is_other_data (acting_locals flow x) + if_marked s.marked (length s.mine.pointers))) (sym is)

field_defaults_length : (k : ℕ) (fs : List Field) → length (field_defaults_from k fs) ≡ length fs
field_defaults_length k [] = refl
field_defaults_length k (f ∷ fs) = ap suc (field_defaults_length (k + 1) fs)

ghost_defaults_length : (g first : ℕ) (hs : List Ghost) → length (ghost_defaults_from g first hs) ≡ length hs
ghost_defaults_length g first [] = refl
ghost_defaults_length g first (h ∷ hs) = ap suc (ghost_defaults_length (g + 1) (first + length h.values) hs)

leads_length : (fs : List FieldId) (ts : List NodeTerm) → length (flat_map (no_field_leads fs) ts) ≡ length ts * length fs
leads_length fs ts = each_length (no_field_leads fs) (length fs) (λ t. length-map fs _) ts

if_made : (b : Bool) (cs : Clauses) (n : ℕ) → b ≡ true → length cs ≡ n → length (only_if b cs) ≡ n
if_made b cs n is e = ap (λ x. length (only_if x cs)) is ∙ e

-- where a node is made
pub made_length : (file : File) (s : Setting) → s.makes ≡ true →
    length (freshness file s) ≡ 1 + (length s.pointers + (length s.nodes * length s.fields
    + (length file.fields + (length file.ghosts + (1 + if_marked s.marked (length s.fields))))))
made_length file s makes = if_made s.makes _ _ makes
    (one_more (is_other null) _ _ (both _ _ _ _ (length-map s.pointers _)
    (both _ _ _ _ (leads_length s.fields s.nodes)
    (both _ _ _ _ (field_defaults_length 0 file.fields)
    (both _ _ _ _ (ghost_defaults_length 0 0 file.ghosts)
    (both unretired _ 1 _ refl (only_length s.marked _ _ (length-map s.fields _))))))))

if_unmade : (b : Bool) (cs : Clauses) → b ≡ false → length (only_if b cs) ≡ 0
if_unmade b cs is = ap (λ x. length (only_if x cs)) is

-- where none is
pub none_length : (file : File) (s : Setting) → s.makes ≡ false → length (freshness file s) ≡ 0
none_length file s makes = if_unmade s.makes _ makes

-- ---- powers

pub power_0 : (m n : ℕ) → n ≡ 0 → 1 ≡ m ^ n
power_0 m n is = sym (pow-zero m) ∙ ap (λ k. m ^ k) (sym is)

pub power_1 : (m n : ℕ) → n ≡ 1 → m ≡ m ^ n
power_1 m n is = let e : m ≡ 1 * m = grind arith in e ∙ ap (λ k. k * m) (sym (pow-zero m)) ∙ sym (pow-suc m 0) ∙ ap (λ k. m ^ k) (sym is)

pub power_2 : (m n : ℕ) → n ≡ 2 → m * m ≡ m ^ n
power_2 m n is = ap (λ k. k * m) (power_1 m 1 refl) ∙ sym (pow-suc m 1) ∙ ap (λ k. m ^ k) (sym is)
