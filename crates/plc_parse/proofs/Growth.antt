-- What was declared before and what is declared next.
use Rattle.std.proofs.Common.{◌≡◌, ◌⊎◌, inl, inr, ◌+◌, ◌*◌, ◌≤◌, ◌<◌, ℕ, zero, suc, Bool, List, [], ◌∷◌, ◌++◌, length}
use Rattle.std.proofs.Common.{slice_get, Option, Some, None, Ok, ◌∙◌, refl, ap, subst, arith}
use Rattle.std.proofs.lemmas.List.{length-append}
use Rattle.std.proofs.lemmas.Nat.{mul-le}
use Rattle.plc_base.specs.Names.{place_of}
use Rattle.plc_syntax.specs.Trees.{Text, Placed}
use Rattle.plc_scope.specs.declared.scope.Scope.{Scope}
use Rattle.plc_scope.specs.declared.binding.Binding.{Binding}
use Rattle.plc_scope.specs.declared.binding.Binding.TheVariants.{Taken}
use Rattle.plc_scope.specs.Scope.{◌>>=◌, if_new, with_name, with_label, declared, declared_label, declared_local}
use Rattle.plc_scope.specs.Scope.{declared_parameter}
use Rattle.plc_scope.specs.Answers.{HasRoom, HasRoomForLocals, GrowsByLocals}
use Rattle.plc_lang.specs.declared.syntax.Op.{Op}
use Rattle.plc_outparse.specs.Answers.{OpsFit}
use Rattle.plc_parse.specs.Growth.{most_labels, AddsNames, KeepsLists, CanLabel, GrowsByLabels, GrowsByOps}
use Rattle.plc_scope.proofs.Holds.{has_along}
use Rattle.plc_parse.proofs.Fits.{Few, parameter_few, local_few}

-- a name's declaration is no local's and no label's
pub declared_lists : (s t : Scope) (name : Placed Text) (b : Binding) → declared s name b ≡ Ok t → KeepsLists s t
declared_lists s t name b e = new (place_of name.value s.names.names) e
  where
    new : (o : Option ℕ) → if_new o name.at (with_name s name.value b) ≡ Ok t → KeepsLists s t
    new None e = let same : with_name s name.value b ≡ t = cc in rw (← same) (record { locals = refl; labels = refl })
    new (Some i) e = absurd cc

-- a parameter is no label
pub parameter_labels : (s t : Scope) (name : Placed Text) → declared_parameter s name ≡ Ok t → HasRoomForLocals s → t.labels ≡ s.labels
parameter_labels s t name e h = (has_along (Few s) (declared_parameter s name) t e (parameter_few s name h.locals)).labels

-- nor is a local
pub local_labels : (s t : Scope) (name : Placed Text) (p : Bool) → declared_local s name p ≡ Ok t → HasRoomForLocals s → t.labels ≡ s.labels
local_labels s t name p e h = (has_along (Few s) (declared_local s name p) t e (local_few s name p h.locals)).labels

-- a label is one name
pub labelled : (s t : Scope) (name : Placed Text) → declared_label s name ≡ Ok t → CanLabel s → length s.labels < most_labels → GrowsByLabels s t
labelled s t name e h less = new (place_of name.value s.names.names) e
  where
    number : ℕ
    number = length s.names.names

    new : (o : Option ℕ) → (if_new o name.at (with_name s name.value Taken) >>= λ u. Ok (with_label u number)) ≡ Ok t → GrowsByLabels s t
    new None e =
        let same : with_label (with_name s name.value Taken) number ≡ t = cc in
        let labels : length (s.labels ++ number ∷ []) ≡ length s.labels + 1 = length-append s.labels (number ∷ []) in
        let names : length (s.names.names ++ name.value ∷ []) ≡ length s.names.names + 1 = length-append s.names.names (name.value ∷ []) in
        rw (← same) (record { locals = refl; labels = omega arith; names = omega arith; limit = refl })
    new (Some i) e = absurd cc

-- labels one after the other
pub labels_then : (a b c : Scope) → GrowsByLabels a b → GrowsByLabels b c → GrowsByLabels a c
labels_then a b c g h = record { locals = h.locals ∙ g.locals; labels = h.labels; names = omega (arith, g.names, h.names); limit = h.limit ∙ g.limit }

pub can_still_label : (a b : Scope) → CanLabel a → GrowsByLabels a b → CanLabel b
can_still_label a b h g = record { locals = rw g.locals h.locals; labels = g.labels; names = omega (arith, h.names, g.names, g.limit) }

pub ops_then : (a b c : Scope) (n k : ℕ) → n + 33 ≡ k → GrowsByOps a b n → GrowsByOps b c 33 → GrowsByOps a c k
ops_then a b c n k e g h = record { locals = h.locals; labels = h.labels; names = omega (arith, g.names, h.names); limit = h.limit ∙ g.limit }

pub lists_then : (a b c : Scope) → KeepsLists a b → KeepsLists b c → KeepsLists a c
lists_then a b c g h = record { locals = h.locals ∙ g.locals; labels = h.labels ∙ g.labels }

-- so many declarations, each of at most so many names
pub names_then : (a b c : Scope) (k n m : ℕ) → m ≡ n + 1 → AddsNames a b (k * n) → AddsNames b c k
    → AddsNames a c (k * m)
names_then a b c k n m e g h = record {
  names = record {
    names = rw e (omega (arith, g.names.names, h.names.names));
    limit = h.names.limit ∙ g.names.limit;
  };
  lists = lists_then a b c g.lists h.lists;
}

pub names_within : (a b : Scope) (k n m : ℕ) → n ≤ m → AddsNames a b (k * n) → AddsNames a b (k * m)
names_within a b k n m less g =
    let all = mul-le k n k m (omega arith) less in
    record {
      names = record { names = omega (arith, all, g.names.names); limit = g.names.limit };
      lists = g.lists;
    }

-- there is room for one more, where there is for all and one past them
pub names_fit : (a b : Scope) (k n m : ℕ) → n ≤ m → HasRoom a (k * (m + 1)) → AddsNames a b (k * n) → HasRoom b k
names_fit a b k n m less room g =
    let all = mul-le k n k m (omega arith) less in
    record { names = omega (arith, all, room.names, g.names.names, g.names.limit) }

pub locals_then : (a b c : Scope) → GrowsByLocals a b → GrowsByLocals b c → GrowsByLocals a c
locals_then a b c g h = record { locals = h.locals; names = omega (arith, g.names, h.names); limit = h.limit ∙ g.limit }

-- what is in a list with one more is in the list, or is the one more
pub from_last : {A : Type 0} (xs : List A) (y : A) (i : ℕ) (x : A) → slice_get (xs ++ y ∷ []) i ≡ Some x → (slice_get xs i ≡ Some x) ⊎ ((i ≡ length xs) × (y ≡ x))
from_last [] y zero x e = inr (refl, cc)
from_last [] y (suc i) x e = absurd cc
from_last (z ∷ xs) y zero x e = inl e
from_last (z ∷ xs) y (suc i) x e = elim (from_last xs y i x e) [ inl h ↦ inl h | inr h ↦ inr (ap suc h.0, h.1) ]

-- an operation more
pub ops_fit_more : (ops new : List Op) (op : Op) → new ≡ ops ++ op ∷ [] → OpsFit ops → length ops < 32
    → length op.locals ≤ 32 → OpsFit new
ops_fit_more ops new op e fit less few = rw e (record {
  count = let long = length-append ops (op ∷ []) in omega arith;
  locals = λ k o is. elim (from_last ops op k o is) [
    | inl h ↦ fit.locals k o h
    | inr h ↦ subst (λ (x : Op). length x.locals ≤ 32) h.1 few
  ];
})
