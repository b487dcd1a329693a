-- Tests that one side decides, and where an option is none.
use Rattle.std.proofs.Common.{◌≡◌, Bool, true, false, ◌&&◌, ◌||◌, is_none, Option, Some, None, refl, sym}
use Rattle.plc_base.specs.Booleans.{same_bool}

pub and_true : (x : Bool) → (x && true) ≡ x
and_true true = refl
and_true false = refl

pub and_false : (x : Bool) → (x && false) ≡ false
and_false true = refl
and_false false = refl

pub or_true : (x : Bool) → (x || true) ≡ true
or_true true = refl
or_true false = refl

pub or_false : (x : Bool) → (x || false) ≡ x
or_false true = refl
or_false false = refl

-- two tests of which each holds where the other does give one answer
pub same_tests : (x y : Bool) → (x ≡ true → y ≡ true) → (y ≡ true → x ≡ true) → x ≡ y
same_tests true y f g = sym (f refl)
same_tests false true f g = g refl
same_tests false false f g = refl

pub same_if : (b c : Bool) → same_bool b c ≡ true → b ≡ c
same_if true true e = refl
same_if true false e = sym e
same_if false true e = e
same_if false false e = refl

pub if_same : (b c : Bool) → b ≡ c → same_bool b c ≡ true
if_same true true e = refl
if_same true false e = sym e
if_same false true e = e
if_same false false e = refl

pub none_if : {A : Type 0} (q : Option A) → is_none q ≡ true → q ≡ None
none_if None e = refl
none_if (Some x) e = cc

pub is_none_of : {A : Type 0} (q : Option A) → q ≡ None → is_none q ≡ true
is_none_of None e = refl
is_none_of (Some x) e = cc
