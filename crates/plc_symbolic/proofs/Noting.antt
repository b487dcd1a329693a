-- What noting a term, a literal and a clause does to a list of terms.
use Rattle.std.proofs.Common.{◌≡◌, ℕ, ◌+◌, ◌<◌, List, [], ◌∷◌, ◌++◌, length, get_or, take, map, All, refl, sym, ap, subst, ◌∙◌}
use Rattle.std.proofs.lemmas.List.{map-append, take_more}
use Rattle.std.proofs.lemmas.List.Sums.{fold_more}
use Rattle.std.proofs.lemmas.List.Elements.{All-nil, All-cons, All-head, All-tail, All-weaker}
use Rattle.plc_base.specs.declared.ids.FieldId.{FieldId}
use Rattle.plc_ground.specs.declared.terms.Symbol.{Symbol}
use Rattle.plc_ground.specs.declared.terms.Map.{Map}
use Rattle.plc_ground.specs.declared.terms.Map.TheVariants as maps
use Rattle.plc_ground.specs.declared.terms.Lit.{Lit}
use Rattle.plc_symbolic.specs.declared.symbolic.NodeTerm.{NodeTerm}
use Rattle.plc_symbolic.specs.declared.symbolic.NodeTerm.TheVariants.{At, Target}
use Rattle.plc_symbolic.specs.declared.symbolic.SymbolicTerm.{SymbolicTerm}
use Rattle.plc_symbolic.specs.declared.symbolic.SymbolicTerm.TheVariants.{Constant, Application}
use Rattle.plc_symbolic.specs.declared.symbolic.SymbolicLit.{SymbolicLit}
use Rattle.plc_symbolic.specs.Terms.{term_of}
use Rattle.plc_symbolic.specs.Numbering.{put, note, note_literal, note_clause, number_lit, IsListed}
use Rattle.plc_symbolic.specs.Tidy.{IsTidy}
use Rattle.plc_symbolic.proofs.Sides.{HasSides}
use Rattle.plc_symbolic.specs.Growth.{HasArgument, IsAppliedTo, Grows}
use Rattle.plc_symbolic.proofs.Places.{put_listed, put_lists, grows_not, grows_twice, grows_put, listed_grown, tidy_put, argument_listed}

-- ---- a term

-- an application goes after its argument
pub application_noted : (ts : List SymbolicTerm) (m : Map) (v : ℕ) (n : NodeTerm) → note ts (Application m v n) ≡ put (note ts (term_of n)) (Application m v n)
application_noted ts m v (At s) = refl
application_noted ts m v (Target f s) = refl

pub note_lists : (ts : List SymbolicTerm) (t : SymbolicTerm) → IsListed (note ts t) t
note_lists ts (Constant s) = put_lists ts (Constant s)
note_lists ts (Application m v n) = subst (λ us. IsListed us (Application m v n)) (sym (application_noted ts m v n)) (put_lists (note ts (term_of n)) (Application m v n))

pub grows_node : (ts : List SymbolicTerm) (n : NodeTerm) → Grows ts (note ts (term_of n))
grows_node ts (At s) = grows_put ts (Constant s)
grows_node ts (Target f s) = grows_twice ts (put ts (Constant s)) _ (grows_put ts (Constant s)) (grows_put (put ts (Constant s)) (Application (maps.Field f) 0 (At s)))

pub grows_note : (ts : List SymbolicTerm) (t : SymbolicTerm) → Grows ts (note ts t)
grows_note ts (Constant s) = grows_put ts (Constant s)
grows_note ts (Application m v n) = subst (Grows ts) (sym (application_noted ts m v n))
    (grows_twice ts (note ts (term_of n)) _ (grows_node ts n) (grows_put (note ts (term_of n)) (Application m v n)))

tidy_node : (ts : List SymbolicTerm) (n : NodeTerm) → IsTidy ts → IsTidy (note ts (term_of n))
tidy_node ts (At s) tidy = tidy_put ts (Constant s) tidy tt
tidy_node ts (Target f s) tidy = tidy_put (put ts (Constant s)) (Application (maps.Field f) 0 (At s)) (tidy_put ts (Constant s) tidy tt) (put_lists ts (Constant s))

pub tidy_note : (ts : List SymbolicTerm) (t : SymbolicTerm) → IsTidy ts → IsTidy (note ts t)
tidy_note ts (Constant s) tidy = tidy_put ts (Constant s) tidy tt
tidy_note ts (Application m v n) tidy = subst IsTidy (sym (application_noted ts m v n))
    (tidy_put (note ts (term_of n)) (Application m v n) (tidy_node ts n tidy) (note_lists ts (term_of n)))

-- a term that is listed changes nothing
node_listed : (ts : List SymbolicTerm) (n : NodeTerm) → IsTidy ts → IsListed ts (term_of n) → note ts (term_of n) ≡ ts
node_listed ts (At s) tidy h = put_listed ts (Constant s) h
node_listed ts (Target f s) tidy h =
    let t = Application (maps.Field f) 0 (At s) in
    ap (λ us. put us t) (put_listed ts (Constant s) (argument_listed ts t tidy h)) ∙ put_listed ts t h

pub note_listed : (ts : List SymbolicTerm) (t : SymbolicTerm) → IsTidy ts → IsListed ts t → note ts t ≡ ts
note_listed ts (Constant s) tidy h = put_listed ts (Constant s) h
note_listed ts (Application m v n) tidy h = application_noted ts m v n
    ∙ ap (λ us. put us (Application m v n)) (node_listed ts n tidy (argument_listed ts (Application m v n) tidy h))
    ∙ put_listed ts (Application m v n) h

-- ---- literals and clauses

pub grows_literal : (ts : List SymbolicTerm) (l : SymbolicLit) → Grows ts (note_literal ts l)
grows_literal ts l = grows_twice ts (note ts l.left) (note_literal ts l) (grows_note ts l.left) (grows_note (note ts l.left) l.right)

pub tidy_literal : (ts : List SymbolicTerm) (l : SymbolicLit) → IsTidy ts → IsTidy (note_literal ts l)
tidy_literal ts l tidy = tidy_note (note ts l.left) l.right (tidy_note ts l.left tidy)

pub sides_literal : (ts : List SymbolicTerm) (l : SymbolicLit) → HasSides (note_literal ts l) l
sides_literal ts l = record {
  left = listed_grown (note ts l.left) (note_literal ts l) l.left (grows_note (note ts l.left) l.right) (note_lists ts l.left);
  right = note_lists (note ts l.left) l.right;
}

pub sides_grown : (ts us : List SymbolicTerm) (l : SymbolicLit) → Grows ts us → HasSides ts l → HasSides us l
sides_grown ts us l g h = record { left = listed_grown ts us l.left g h.left; right = listed_grown ts us l.right g h.right }

pub grows_clause : (c : List SymbolicLit) (ts : List SymbolicTerm) → Grows ts (note_clause ts c)
grows_clause [] ts = grows_not ts
grows_clause (l ∷ c) ts = grows_twice ts (note_literal ts l) (note_clause (note_literal ts l) c) (grows_literal ts l) (grows_clause c (note_literal ts l))

pub tidy_clause : (c : List SymbolicLit) (ts : List SymbolicTerm) → IsTidy ts → IsTidy (note_clause ts c)
tidy_clause [] ts tidy = tidy
tidy_clause (l ∷ c) ts tidy = tidy_clause c (note_literal ts l) (tidy_literal ts l tidy)

pub sides_clause : (c : List SymbolicLit) (ts : List SymbolicTerm) → All (HasSides (note_clause ts c)) c
sides_clause [] ts = All-nil (HasSides ts)
sides_clause (l ∷ c) ts =
    let us = note_literal ts l in
    All-cons (HasSides (note_clause us c)) l c (sides_grown us (note_clause us c) l (grows_clause c us) (sides_literal ts l)) (sides_clause c us)

pub clause_grown : (ts us : List SymbolicTerm) (c : List SymbolicLit) → Grows ts us → All (HasSides ts) c → All (HasSides us) c
clause_grown ts us c g h = All-weaker (HasSides ts) (HasSides us) (λ l. sides_grown ts us l g) c h

-- ---- numbers stay

pub map_agree : {A B : Type 0} (f g : A → B) (P : A → Type 0) → ((x : A) → P x → f x ≡ g x) → (xs : List A) → All P xs → map f xs ≡ map g xs
map_agree f g P same [] h = refl
map_agree f g P same (x ∷ xs) h = ap (λ y. y ∷ map f xs) (same x (All-head P x xs h)) ∙ ap (λ ys. g x ∷ ys) (map_agree f g P same xs (All-tail P x xs h))

pub literal_stays : (ts us : List SymbolicTerm) (l : SymbolicLit) → Grows ts us → HasSides ts l → number_lit us l ≡ number_lit ts l
literal_stays ts us l g h = cc (g.places l.left h.left, g.places l.right h.right)

pub clause_stays : (ts us : List SymbolicTerm) (c : List SymbolicLit) → Grows ts us → All (HasSides ts) c → map (number_lit us) c ≡ map (number_lit ts) c
clause_stays ts us c g h = map_agree (number_lit us) (number_lit ts) (HasSides ts) (λ l. literal_stays ts us l g) c h

-- ---- arguments

pub target_argument : (ts us : List SymbolicTerm) (n : NodeTerm) (f : FieldId) (s : Symbol) (t : SymbolicTerm) → n ≡ Target f s → t ≡ term_of n
    → us ≡ put ts (Constant s) → HasArgument us t
target_argument ts us n f s t is e grown =
    subst (HasArgument us) (sym (e ∙ ap term_of is)) (subst (λ vs. IsListed vs (Constant s)) (sym grown) (put_lists ts (Constant s)))

pub at_argument : (us : List SymbolicTerm) (n : NodeTerm) (s : Symbol) (t : SymbolicTerm) → n ≡ At s → t ≡ term_of n → HasArgument us t
at_argument us n s t is e = subst (HasArgument us) (sym (e ∙ ap term_of is)) tt

pub applied_argument : (ts us : List SymbolicTerm) (n : NodeTerm) (t : SymbolicTerm) → IsAppliedTo n t → us ≡ note ts (term_of n) → HasArgument us t
applied_argument ts us n t applied grown =
    subst (HasArgument us) (sym applied.2) (subst (λ vs. IsListed vs (term_of n)) (sym grown) (note_lists ts (term_of n)))

-- ---- a clause, literal by literal

pub noted_more : (ts us vs : List SymbolicTerm) (c : List SymbolicLit) (i : ℕ) (l d : SymbolicLit) (lits : List Lit) (lit : Lit) → i < length c → l ≡ get_or c i d
    → us ≡ note_clause ts (take i c) → lits ≡ map (number_lit us) (take i c) → Grows us vs → vs ≡ note_literal us l → lit ≡ number_lit vs l
    → (vs ≡ note_clause ts (take (i + 1) c)) × (lits ++ lit ∷ [] ≡ map (number_lit vs) (take (i + 1) c))
noted_more ts us vs c i l d lits lit lt is listed old g grown new = (
  grown ∙ ap (λ ws. note_literal ws l) listed ∙ ap (note_literal (note_clause ts (take i c))) is ∙ sym (fold_more note_literal ts c i d lt),
  sym (ap (map (number_lit vs)) (take_more c i d lt) ∙ map-append (number_lit vs) (take i c) (get_or c i d ∷ [])
      ∙ cc (clause_stays us vs (take i c) g (subst (λ ws. All (HasSides ws) (take i c)) (sym listed) (sides_clause (take i c) ts)), old, new, is)),
)
