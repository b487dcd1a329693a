-- What is known of claims that are read up to a place: what may follow there is what is due, and each way on can be
-- finished.
use Rattle.std.proofs.Common.{◌≡◌, ℕ, zero, suc, ◌+◌, ◌<◌, ◌≤◌, List, [], ◌∷◌, ◌++◌, length, take, All, Option, Some}
use Rattle.std.proofs.Common.{None, option_map, get_or, slice_get, refl, sym, ap, ◌∙◌, subst, append_assoc, arith}
use Rattle.std.proofs.lemmas.List.{take_all}
use Rattle.std.proofs.lemmas.List.Elements.{All-nil, All-cons, All-head, All-tail, All-map}
use Rattle.std.proofs.lemmas.Option.{slice_get_within, slice_get-map, slice_get-get_or}
use Rattle.plc_lex.specs.declared.token.Token.{Token}
use Rattle.plc_lex.specs.declared.token.TokenKind.{TokenKind}
use Rattle.plc_lex.specs.declared.token.TokenKind.TheVariants.{Word, Name, Symbol}
use Rattle.plc_lex.specs.declared.token.Keyword.TheVariants.{At}
use Rattle.plc_lex.specs.declared.token.Symbol.TheVariants.{OpenBrace, CloseBrace, Dot}
use Rattle.plc_syntax.specs.Syntax.{kinds}
use Rattle.plc_lang.specs.Names.{label_name, pointer_name}
use Rattle.plc_flow.specs.declared.flow.Flow.{Flow}
use Rattle.plc_auto.specs.declared.observer.Observer.{Observer}
use Rattle.plc_auto.specs.Table.{count_of}
use Rattle.plc_at.specs.declared.claim.LocationClaim.{LocationClaim}
use Rattle.plc_at.specs.declared.reading.Due.{Due}
use Rattle.plc_at.specs.declared.reading.Due.TheVariants as due
use Rattle.plc_at.specs.Claims.{locals_by_label, Written, NamesWhatIsThere, before_dot, dot_then, located}
use Rattle.plc_at.specs.Claims.{SpellClaims, BeginClaims, ClaimsStopAt, ClaimFits}
use Rattle.plc_at.proofs.ReadingSteps.{unfinished}
use Rattle.plc_at.specs.Reading.{IsPointerAt, location_name, with_location, EndClaim, MayFollow, MayGoOn}
use Rattle.plc_at.specs.Reading.{HasSecondPart, DueFits, ended, Advances}

-- ---- each way on can be finished

no_claims : (flow : Flow) (o : Observer) → SpellClaims flow o [] []
no_claims flow o = record { written = []; there = All-nil (NamesWhatIsThere flow o); tokens = refl; claims_are = refl }

closed : (flow : Flow) (o : Observer) (c : LocationClaim) → EndClaim flow o c (Symbol CloseBrace ∷ []) (c ∷ [])
closed flow o c = record {
  locations = [];
  are_there = All-nil (λ l. l < count_of o);
  written = [];
  there = All-nil (NamesWhatIsThere flow o);
  tokens = refl;
  claims_are = refl;
}

-- the claim of a pointer local and no locations
named : (flow : Flow) (o : Observer) (l v : ℕ) → IsPointerAt flow l v
    → SpellClaims flow o (Word At ∷ Name (label_name flow.file l)
    ∷ Name (pointer_name flow.file (locals_by_label flow l) v) ∷ Symbol OpenBrace ∷ Symbol CloseBrace ∷ [])
    (record { label = l; local = v; set = 0 } ∷ [])
named flow o l v p =
    let c : Written = record { label = l; local = v; locations = [] } in
    let none = All-nil (λ l. l < count_of o) in
    record {
      written = c ∷ [];
      there = All-cons (NamesWhatIsThere flow o) c []
          (record { label = p.label_there; local = p.local_there; locations = none }) (All-nil (NamesWhatIsThere flow o));
      tokens = refl;
      claims_are = refl;
    }

-- a claim that ends with a name of two parts
parted : (flow : Flow) (o : Observer) (c : LocationClaim) (l : ℕ) (h : HasSecondPart o l)
    → EndClaim flow o c (Name (before_dot (location_name o l)) ∷ Symbol Dot ∷ Name h.second ∷ Symbol CloseBrace ∷ [])
    (with_location c l ∷ [])
parted flow o c l h = record {
  locations = l ∷ [];
  are_there = All-cons (λ l. l < count_of o) l [] h.there (All-nil (λ l. l < count_of o));
  written = [];
  there = All-nil (NamesWhatIsThere flow o);
  tokens = ap (λ x. Name (before_dot (location_name o l)) ∷ dot_then x (Symbol CloseBrace ∷ [])) (sym h.parts);
  claims_are = refl;
}

pub completes : (flow : Flow) (o : Observer) (d : Due) → DueFits flow o d → (ts : List TokenKind) × MayGoOn flow o d ts
completes flow o (due.Claim last) f = ([], ([], no_claims flow o))
completes flow o due.Label f = (
  Name (label_name flow.file f.0) ∷ Name (pointer_name flow.file (locals_by_label flow f.0) 0)
      ∷ Symbol OpenBrace ∷ Symbol CloseBrace ∷ [],
  (record { label = f.0; local = 0; set = 0 } ∷ [], named flow o f.0 0 f.1),
)
completes flow o (due.Local l) f = (
  Name (pointer_name flow.file (locals_by_label flow l) 0) ∷ Symbol OpenBrace ∷ Symbol CloseBrace ∷ [],
  (record { label = l; local = 0; set = 0 } ∷ [], named flow o l 0 f),
)
completes flow o (due.Opening c) f = (
  Symbol OpenBrace ∷ Symbol CloseBrace ∷ [],
  (
    c ∷ [],
    record {
      after = Symbol CloseBrace ∷ [];
      tokens = refl;
      ends = closed flow o c;
    },
  ),
)
completes flow o (due.Location c) f = (Symbol CloseBrace ∷ [], (c ∷ [], closed flow o c))
completes flow o (due.Dot c l) f =
    (Symbol Dot ∷ Name f.1.second ∷ Symbol CloseBrace ∷ [], (with_location c l ∷ [], parted flow o c l f.1))
completes flow o (due.Part c l) f =
    (Name f.1.second ∷ Symbol CloseBrace ∷ [], (with_location c l ∷ [], parted flow o c l f.1))

-- ---- up to a place

-- the kind of the token at a place
pub kind_there : (tokens : List Token) (i : ℕ) (d : Token) → i < length tokens
    → slice_get (kinds tokens) i ≡ Some (get_or tokens i d).kind
kind_there tokens i d h =
    slice_get-map (λ (t : Token). t.kind) tokens i
    ∙ ap (option_map (λ (t : Token). t.kind)) (slice_get-get_or tokens i d h)

-- each token has a kind
pub kinds_count : (tokens : List Token) → length (kinds tokens) ≡ length tokens
kinds_count [] = refl
kinds_count (t ∷ tokens) = ap suc (kinds_count tokens)

-- so far these claims are read, and this is due
pub record ReadTo (flow : Flow) (o : Observer) (ts : List TokenKind) (i : ℕ) (d : Due) (claims : List LocationClaim) : Type 0
  where
    pub fits : DueFits flow o d
    pub spells : (rest : List TokenKind) (more : List LocationClaim) → MayFollow flow o d rest more
        → SpellClaims flow o (take i ts ++ rest) (claims ++ more)
    pub goes_on : (rest : List TokenKind) (all : List LocationClaim) → SpellClaims flow o (take i ts ++ rest) all
        → MayGoOn flow o d rest

pub read_none : (flow : Flow) (o : Observer) (ts : List TokenKind) → ReadTo flow o ts 0 (due.Claim None) []
read_none flow o ts = record { fits = tt; spells = λ rest more m. m; goes_on = λ rest all s. (all, s) }

-- one token more
take_more : (ts : List TokenKind) (i : ℕ) (t : TokenKind) (rest : List TokenKind) → slice_get ts i ≡ Some t
    → take (i + 1) ts ++ rest ≡ take i ts ++ (t ∷ rest)
take_more ts i t rest e =
    let more : i + 1 ≡ suc i = omega arith in
    ap (λ n. take n ts ++ rest) more ∙ go ts i e
  where
    go : (ts : List TokenKind) (i : ℕ) → slice_get ts i ≡ Some t → take (suc i) ts ++ rest ≡ take i ts ++ (t ∷ rest)
    go [] i e = absurd cc
    go (x ∷ xs) zero e = (let same : x ≡ t = cc in ap (λ y. y ∷ rest) same)
    go (x ∷ xs) (suc i) e = ap (λ y. x ∷ y) (go xs i e)

pub read_more : (flow : Flow) (o : Observer) (ts : List TokenKind) (i : ℕ) (d next : Due) (t : TokenKind)
    (claims : List LocationClaim) → slice_get ts i ≡ Some t → ReadTo flow o ts i d claims → Advances flow o d t next
    → ReadTo flow o ts (i + 1) next (claims ++ ended next)
read_more flow o ts i d next t claims e r a = record {
  fits = a.fits;
  spells = λ rest more m.
      let s = r.spells (t ∷ rest) (ended next ++ more) (a.spells rest more m) in
      subst (λ x. SpellClaims flow o x ((claims ++ ended next) ++ more)) (sym (take_more ts i t rest e))
      (subst (λ x. SpellClaims flow o (take i ts ++ (t ∷ rest)) x) (sym (append_assoc claims (ended next) more)) s);
  goes_on = λ rest all s.
      a.goes_on rest (r.goes_on (t ∷ rest) all (subst (λ x. SpellClaims flow o x all) (take_more ts i t rest e) s));
}

-- what is read begins claims
pub read_begin : (flow : Flow) (o : Observer) (ts : List TokenKind) (i : ℕ) (d : Due) (claims : List LocationClaim)
    → ReadTo flow o ts i d claims → BeginClaims flow o (take i ts)
read_begin flow o ts i d claims r =
    let c = completes flow o d r.fits in
    (c.0, claims ++ c.1.0, r.spells c.0 c.1.0 c.1.1)

-- a token that can't follow is the place of the fault
pub read_stops : (flow : Flow) (o : Observer) (ts : List TokenKind) (i : ℕ) (d : Due) (t : TokenKind)
    (claims : List LocationClaim) → slice_get ts i ≡ Some t → ReadTo flow o ts i d claims
    → ((rest : List TokenKind) → MayGoOn flow o d (t ∷ rest) → ⊥) → ClaimsStopAt flow o ts i
read_stops flow o ts i d t claims e r none =
    let inside = slice_get_within ts i t e in
    record {
      within = omega arith;
      goes_on = read_begin flow o ts i d claims r;
      stops = λ h b. none b.0 (r.goes_on (t ∷ b.0) b.1
          (subst (λ x. SpellClaims flow o x b.1) (take_more ts i t b.0 e) b.2));
      unfinished = λ h all s. absurd (omega arith);
    }

no_more : (ts : List TokenKind) → ts ++ [] ≡ ts
no_more [] = refl
no_more (t ∷ ts) = ap (λ x. t ∷ x) (no_more ts)

no_more_claims : (cs : List LocationClaim) → cs ++ [] ≡ cs
no_more_claims [] = refl
no_more_claims (c ∷ cs) = ap (λ x. c ∷ x) (no_more_claims cs)

whole : (ts : List TokenKind) (i : ℕ) → length ts ≤ i → take i ts ++ [] ≡ ts
whole ts i e = ap (λ x. x ++ []) (take_all i ts e) ∙ no_more ts

-- where something else than a claim is due, the claims haven't ended
pub read_unfinished : (flow : Flow) (o : Observer) (ts : List TokenKind) (i n : ℕ) (d : Due) (claims : List LocationClaim)
    → n ≡ length ts → length ts ≤ i → ReadTo flow o ts i d claims → ((last : Option LocationClaim) → d ≡ due.Claim last → ⊥)
    → ClaimsStopAt flow o ts n
read_unfinished flow o ts i n d claims s e r h =
    let same : take i ts ≡ take n ts = take_all i ts e ∙ sym (take_all n ts (omega arith)) in
    record {
      within = omega arith;
      goes_on = subst (λ x. BeginClaims flow o x) same (read_begin flow o ts i d claims r);
      stops = λ less b. absurd (omega arith);
      unfinished = λ _ all spelled.
          unfinished flow o d h (r.goes_on [] all (subst (λ x. SpellClaims flow o x all) (sym (whole ts i e)) spelled));
    }

-- and where a claim is due, they have
pub read_all : (flow : Flow) (o : Observer) (ts : List TokenKind) (i : ℕ) (last : Option LocationClaim)
    (claims : List LocationClaim) → length ts ≤ i → ReadTo flow o ts i (due.Claim last) claims → SpellClaims flow o ts claims
read_all flow o ts i last claims e r =
    subst (λ x. SpellClaims flow o x claims) (whole ts i e)
    (subst (λ x. SpellClaims flow o (take i ts ++ []) x) (no_more_claims claims) (r.spells [] [] (no_claims flow o)))

-- claims that are spelled fit
pub spelled_fit : (flow : Flow) (o : Observer) (ts : List TokenKind) (claims : List LocationClaim)
    → SpellClaims flow o ts claims → All (ClaimFits flow) claims
spelled_fit flow o ts claims s =
    subst (λ x. All (ClaimFits flow) x) (sym s.claims_are)
    (All-map (ClaimFits flow) located s.written (each s.written s.there))
  where
    each : (ws : List Written) → All (NamesWhatIsThere flow o) ws → All (λ w. ClaimFits flow (located w)) ws
    each [] a = All-nil (λ w. ClaimFits flow (located w))
    each (w ∷ ws) a =
        let h = All-head (NamesWhatIsThere flow o) w ws a in
        All-cons (λ w. ClaimFits flow (located w)) w ws (record { label = h.label; local = h.local })
        (each ws (All-tail (NamesWhatIsThere flow o) w ws a))
