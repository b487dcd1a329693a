-- Constants that must differ stand for different values.
use Rattle.std.proofs.Common.{◌≡◌, ℕ, ◌+◌, ◌-◌, ◌<◌, ◌≤◌, Bool, true, false, nat_lt, List, [], ◌∷◌, Option, Some, None}
use Rattle.std.proofs.Common.{refl, sym, ap, ◌∙◌, arith}
use Rattle.std.specs.Prelude.{◌≢◌, if◌then◌else◌}
use Rattle.std.specs.List.{sum_by}
use Rattle.std.proofs.lemmas.Bool.{ltb-true, ltb-false}
use Rattle.std.proofs.lemmas.List.Sums.{sum_by-cons}
use Rattle.plc_lang.specs.declared.syntax.Ghost.{Ghost}
use Rattle.plc_lang.specs.Numbering.{values_in, value_number, value_from, value_at}
use Rattle.plc_lang.proofs.Numbers.{values_are_numbered}
use Rattle.plc_logic.specs.declared.clause.Sort.{Sort}
use Rattle.plc_logic.specs.declared.clause.Sort.TheVariants as sorts
use Rattle.plc_ground.specs.declared.terms.Symbol.{Symbol}
use Rattle.plc_ground.specs.declared.terms.Symbol.TheVariants.{Null, Shared, Mine, Theirs, New, Bound, Loaded, Yes}
use Rattle.plc_ground.specs.declared.terms.Symbol.TheVariants.{No, Nobody, Me, You, Value, Number}
use Rattle.plc_ground.specs.declared.terms.Symbol.TheVariants.{MarkShared, MarkMine, MarkTheirs, MarkLoaded}
use Rattle.plc_ground.specs.declared.apart.Family.TheVariants.{Free}
use Rattle.plc_ground.specs.Model.{symbol_family}
use Rattle.plc_vocabulary.specs.Sorts.{value_sort}
use Rattle.plc_outline_sound.proofs.Scene.{value_or}

-- ---- values

-- a number that names no value is none of a value's in its field
none_large : (b : ℕ) (gs : List Ghost) (n : ℕ) → value_from b gs n ≡ None → sum_by values_in gs ≤ n
none_large b [] n e = omega arith
none_large b (g ∷ gs) n e = go (nat_lt n (values_in g)) refl e (none_large (b + 1) gs (n - values_in g))
  where
    go : (t : Bool) → nat_lt n (values_in g) ≡ t
        → (if t then Some (b, n) else value_from (b + 1) gs (n - values_in g)) ≡ None
        → (value_from (b + 1) gs (n - values_in g) ≡ None → sum_by values_in gs ≤ n - values_in g)
        → sum_by values_in (g ∷ gs) ≤ n
    go true is e rest = cc
    go false is e rest = (let r = rest e in
        let large = ltb-false n (values_in g) is in let s = sum_by-cons values_in g gs in omega arith)

some_small : (b : ℕ) (gs : List Ghost) (n : ℕ) (p : ℕ × ℕ) → value_from b gs n ≡ Some p → p.1 < sum_by values_in gs
some_small b [] n p e = cc
some_small b (g ∷ gs) n p e = go (nat_lt n (values_in g)) refl e (some_small (b + 1) gs (n - values_in g) p)
  where
    go : (t : Bool) → nat_lt n (values_in g) ≡ t
        → (if t then Some (b, n) else value_from (b + 1) gs (n - values_in g)) ≡ Some p
        → (value_from (b + 1) gs (n - values_in g) ≡ Some p → p.1 < sum_by values_in gs)
        → p.1 < sum_by values_in (g ∷ gs)
    go true is e rest =
        let same : n ≡ p.1 = ap (λ (o : Option (ℕ × ℕ)). (Rattle.std.specs.Option.unwrap_or o (0, 0)).1) e in
        let small = ltb-true n (values_in g) is in
        let s = sum_by-cons values_in g gs in
        omega arith
    go false is e rest = (let r = rest e in let s = sum_by-cons values_in g gs in omega arith)

one_value : (gs : List Ghost) (a b : ℕ) → value_sort (value_at gs a) ≡ value_sort (value_at gs b)
    → value_or a (value_at gs a) ≡ value_or b (value_at gs b) → a ≡ b
one_value gs a b s v = go (value_at gs a) (value_at gs b) refl refl s v
  where
    go : (x y : Option (ℕ × ℕ)) → value_at gs a ≡ x → value_at gs b ≡ y → value_sort x ≡ value_sort y
        → value_or a x ≡ value_or b y → a ≡ b
    go None None i j s v = v
    go None (Some q) i j s v = (let l = none_large 0 gs a i in let m = some_small 0 gs b q j in absurd (omega arith))
    go (Some p) None i j s v = (let l = none_large 0 gs b j in let m = some_small 0 gs a p i in absurd (omega arith))
    go (Some p) (Some q) i j s v =
        let field : p.0 ≡ q.0 = (let t : sorts.Value p.0 ≡ sorts.Value q.0 = s in cc) in
        let x = (values_are_numbered gs).back a p.0 p.1 i in
        let y = (values_are_numbered gs).back b q.0 q.1 j in
        sym x ∙ ap (λ k. value_number gs k p.1) field ∙ ap (value_number gs q.0) v ∙ y

-- ---- all

-- what the constants of families stand for
pub record IsApart (sort : Symbol → Sort) (value : Symbol → ℕ) : Type 0 where
  pub yes : value Yes ≡ 1
  pub no : value No ≡ 0
  pub nobody : value Nobody ≡ 0
  pub me : 0 < value Me
  pub you : 0 < value You
  pub others : value Me ≡ value You → ⊥
  pub ghosts : List Ghost
  pub values : (v : ℕ) → value (Value v) ≡ value_or v (value_at ghosts v)
  pub value_sorts : (v : ℕ) → sort (Value v) ≡ value_sort (value_at ghosts v)
  pub numbers : (n : ℕ) → value (Number n) ≡ n

module _ (sort : Symbol → Sort) (value : Symbol → ℕ) (is : IsApart sort value) where
  pub apart : (a b : Symbol) → symbol_family a ≡ symbol_family b → symbol_family a ≢ Free → a ≢ b → sort a ≡ sort b
      → value a ≢ value b
  apart Null b f d ne s v = d refl
  apart (Shared i) b f d ne s v = d refl
  apart (Mine i) b f d ne s v = d refl
  apart (Theirs i) b f d ne s v = d refl
  apart New b f d ne s v = d refl
  apart (Bound i) b f d ne s v = d refl
  apart (Loaded i) b f d ne s v = d refl
  apart Yes Yes f d ne s v = ne refl
  apart Yes No f d ne s v = (let x = is.yes in let y = is.no in omega arith)
  apart Yes _ f d ne s v = cc
  apart No Yes f d ne s v = (let x = is.yes in let y = is.no in omega arith)
  apart No No f d ne s v = ne refl
  apart No _ f d ne s v = cc
  apart Nobody Nobody f d ne s v = ne refl
  apart Nobody Me f d ne s v = (let x = is.nobody in let y = is.me in omega arith)
  apart Nobody You f d ne s v = (let x = is.nobody in let y = is.you in omega arith)
  apart Nobody _ f d ne s v = cc
  apart Me Nobody f d ne s v = (let x = is.nobody in let y = is.me in omega arith)
  apart Me Me f d ne s v = ne refl
  apart Me You f d ne s v = is.others v
  apart Me _ f d ne s v = cc
  apart You Nobody f d ne s v = (let x = is.nobody in let y = is.you in omega arith)
  apart You Me f d ne s v = is.others (sym v)
  apart You You f d ne s v = ne refl
  apart You _ f d ne s v = cc
  apart (Value a) (Value b) f d ne s v = ne
      (ap Value (one_value is.ghosts a b (sym (is.value_sorts a) ∙ s ∙ is.value_sorts b)
      (sym (is.values a) ∙ v ∙ is.values b)))
  apart (Value a) _ f d ne s v = cc
  apart (Number a) (Number b) f d ne s v = ne (ap Number (sym (is.numbers a) ∙ v ∙ is.numbers b))
  apart (Number a) _ f d ne s v = cc
  apart (MarkShared i) b f d ne s v = d refl
  apart (MarkMine i) b f d ne s v = d refl
  apart (MarkTheirs i) b f d ne s v = d refl
  apart (MarkLoaded i) b f d ne s v = d refl
