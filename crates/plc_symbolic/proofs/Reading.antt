-- Clauses over places, read back as clauses over terms.
use Rattle.std.proofs.Common.{◌≡◌, ℕ, ◌+◌, ◌<◌, take, List, [], ◌∷◌, ◌++◌, length, get_or, map, All, Some, refl, sym, ap, subst, ◌∙◌, arith}
use Rattle.std.specs.Prelude.{slice_get}
use Rattle.std.proofs.lemmas.List.{take_more}
use Rattle.std.proofs.lemmas.Option.{slice_get-get_or, get_or_from_slice_get}
use Rattle.std.proofs.lemmas.List.Elements.{All-weaker, All-map, All-push}
use Rattle.plc_ground.specs.declared.terms.Lit.{Lit}
use Rattle.plc_symbolic.specs.declared.symbolic.SymbolicTerm.{SymbolicTerm}
use Rattle.plc_symbolic.specs.declared.symbolic.SymbolicTerm.TheVariants.{Constant, Application}
use Rattle.plc_symbolic.specs.declared.symbolic.SymbolicLit.{SymbolicLit}
use Rattle.plc_symbolic.specs.Terms.{null}
use Rattle.plc_symbolic.specs.Numbering.{note, note_clause, place, number_lit, listed, written}
use Rattle.plc_symbolic.specs.Tidy.{IsTidy, IsInside, read, read_draft}
use Rattle.plc_symbolic.proofs.Sides.{HasSides}
use Rattle.plc_symbolic.specs.Growth.{HasArgument, Grows}
use Rattle.plc_symbolic.proofs.Places.{place_read}
use Rattle.plc_symbolic.proofs.Noting.{map_agree, grows_note, grows_clause, sides_clause}

-- ---- literals

term_stays : (ts us : List SymbolicTerm) (k : ℕ) → Grows ts us → k < length ts → get_or us k null ≡ get_or ts k null
term_stays ts us k g lt = get_or_from_slice_get us k (get_or ts k null) null (g.reads k (get_or ts k null) (slice_get-get_or ts k null lt))

pub read_stays : (ts us : List SymbolicTerm) (l : Lit) → Grows ts us → IsInside ts l → read us l ≡ read ts l
read_stays ts us l g h = cc (term_stays ts us l.left g h.left, term_stays ts us l.right g h.right)

pub read_number : (ts : List SymbolicTerm) (l : SymbolicLit) → HasSides ts l → read ts (number_lit ts l) ≡ l
read_number ts l h =
    let left = place_read ts l.left null h.left in
    let right = place_read ts l.right null h.right in
    λ i. record { left = left i; right = right i; equal = l.equal }

place_kept : (ts : List SymbolicTerm) (k : ℕ) → IsTidy ts → k < length ts → place ts (get_or ts k null) ≡ k
place_kept ts k tidy lt = tidy.distinct k (get_or ts k null) (slice_get-get_or ts k null lt)

pub number_read : (ts : List SymbolicTerm) (l : Lit) → IsTidy ts → IsInside ts l → number_lit ts (read ts l) ≡ l
number_read ts l tidy h =
    let left = place_kept ts l.left tidy h.left in
    let right = place_kept ts l.right tidy h.right in
    λ i. record { left = left i; right = right i; equal = l.equal }

inside_number : (ts : List SymbolicTerm) (l : SymbolicLit) → HasSides ts l → IsInside ts (number_lit ts l)
inside_number ts l h = record { left = h.left; right = h.right }

inside_grown : (ts us : List SymbolicTerm) (l : Lit) → Grows ts us → IsInside ts l → IsInside us l
inside_grown ts us l g h = record { left = omega (arith, g.longer, h.left); right = omega (arith, g.longer, h.right) }

-- ---- clauses

map_map : {A B C : Type 0} (f : B → C) (g : A → B) (xs : List A) → map f (map g xs) ≡ map (λ x. f (g x)) xs
map_map f g [] = refl
map_map f g (x ∷ xs) = ap (λ ys. f (g x) ∷ ys) (map_map f g xs)

map_same : {A : Type 0} (xs : List A) → map (λ x. x) xs ≡ xs
map_same [] = refl
map_same (x ∷ xs) = ap (λ ys. x ∷ ys) (map_same xs)

map_push : {A B : Type 0} (f : A → B) (xs : List A) (x : A) → map f (xs ++ x ∷ []) ≡ map f xs ++ f x ∷ []
map_push f [] x = refl
map_push f (y ∷ ys) x = ap (λ zs. f y ∷ zs) (map_push f ys x)

-- the argument of a term that is listed
pub argument_there : (ts : List SymbolicTerm) → IsTidy ts → (k : ℕ) (t : SymbolicTerm) → slice_get ts k ≡ Some t → k < length ts → HasArgument ts t
argument_there ts tidy k (Constant s) is small = tt
argument_there ts tidy k (Application m v n) is small = let before = tidy.arguments k m v n is in omega (arith, before, small)

-- one more of a list was mapped
pub mapped_more : {A B : Type 0} (f : A → B) (xs ys : List A) → ys ≡ xs → (i : ℕ) (d : A) → i < length ys → (done now : List B) → done ≡ map f (take i xs)
    → now ≡ done ++ f (get_or ys i d) ∷ [] → now ≡ map f (take (i + 1) xs)
mapped_more f xs ys same i d small done now is pushed =
    pushed ∙ ap (λ zs. zs ++ f (get_or ys i d) ∷ []) is ∙ ap (λ zs. map f (take i xs) ++ f (get_or zs i d) ∷ []) same
    ∙ sym (map_push f (take i xs) (get_or xs i d)) ∙ sym (ap (map f) (take_more xs i d (subst (λ zs. i < length zs) same small)))

-- two functions undo each other on a list
pub map_back : {A B : Type 0} (f : B → A) (g : A → B) (P : A → Type 0) → ((x : A) → P x → f (g x) ≡ x) → (xs : List A) → All P xs → map f (map g xs) ≡ xs
map_back f g P back xs h = map_map f g xs ∙ map_agree (λ x. f (g x)) (λ x. x) P back xs h ∙ map_same xs

pub inside_all_grown : (ts us : List SymbolicTerm) (cs : List (List Lit)) → Grows ts us → All (All (IsInside ts)) cs → All (All (IsInside us)) cs
inside_all_grown ts us cs g h = All-weaker (All (IsInside ts)) (All (IsInside us)) (λ c. All-weaker (IsInside ts) (IsInside us) (λ l. inside_grown ts us l g) c) cs h

pub inside_clause : (ts : List SymbolicTerm) (c : List SymbolicLit) → All (HasSides ts) c → All (IsInside ts) (map (number_lit ts) c)
inside_clause ts c h = All-map (IsInside ts) (number_lit ts) c (All-weaker (HasSides ts) (λ l. IsInside ts (number_lit ts l)) (inside_number ts) c h)

reads_stay : (ts us : List SymbolicTerm) (cs : List (List Lit)) → Grows ts us → All (All (IsInside ts)) cs → map (map (read us)) cs ≡ map (map (read ts)) cs
reads_stay ts us cs g h = map_agree (map (read us)) (map (read ts)) (All (IsInside ts)) (λ c. map_agree (read us) (read ts) (IsInside ts) (λ l. read_stays ts us l g) c) cs h

pub numbers_read : (ts : List SymbolicTerm) (cs : List (List Lit)) → IsTidy ts → All (All (IsInside ts)) cs → map (map (number_lit ts)) (map (map (read ts)) cs) ≡ cs
numbers_read ts cs tidy h = map_back (map (number_lit ts)) (map (read ts)) (All (IsInside ts)) (λ c. map_back (number_lit ts) (read ts) (IsInside ts) (λ l. number_read ts l tidy) c) cs h

-- ---- drafts

-- a term is listed
pub draft_listed : (ts us : List SymbolicTerm) (cs : List (List Lit)) (t : SymbolicTerm) → us ≡ note ts t → All (All (IsInside ts)) cs
    → read_draft us cs ≡ listed (read_draft ts cs) t
draft_listed ts us cs t e h = cc (reads_stay ts us cs (subst (Grows ts) (sym e) (grows_note ts t)) h)

-- a clause is written
pub draft_written : (ts us : List SymbolicTerm) (cs : List (List Lit)) (c : List SymbolicLit) (lits : List Lit) → us ≡ note_clause ts c
    → lits ≡ map (number_lit us) c → All (All (IsInside ts)) cs → read_draft us (cs ++ lits ∷ []) ≡ written (read_draft ts cs) c
draft_written ts us cs c lits e new h =
    let g = subst (Grows ts) (sym e) (grows_clause c ts) in
    let sides = subst (λ vs. All (HasSides vs) c) (sym e) (sides_clause c ts) in
    let last : map (read us) lits ≡ c = ap (map (read us)) new ∙ map_back (read us) (number_lit us) (HasSides us) (read_number us) c sides in
    cc (map_push (map (read us)) cs lits, reads_stay ts us cs g h, last)

pub inside_written : (ts us : List SymbolicTerm) (cs : List (List Lit)) (c : List SymbolicLit) (lits : List Lit) → us ≡ note_clause ts c
    → lits ≡ map (number_lit us) c → All (All (IsInside ts)) cs → All (All (IsInside us)) (cs ++ lits ∷ [])
inside_written ts us cs c lits e new h =
    let g = subst (Grows ts) (sym e) (grows_clause c ts) in
    let sides = subst (λ vs. All (HasSides vs) c) (sym e) (sides_clause c ts) in
    All-push (All (IsInside us)) cs lits (inside_all_grown ts us cs g h) (subst (All (IsInside us)) (sym new) (inside_clause us c sides))
