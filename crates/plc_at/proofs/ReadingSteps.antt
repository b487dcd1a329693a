-- Steps of the reader of claims: what a token has to be where something is due, and that just that may follow which is
-- due after it.
use Rattle.std.proofs.Common.{◌≡◌, ℕ, ◌<◌, true, false, List, [], ◌∷◌, map, All, Option, Some, None, is_some, refl}
use Rattle.std.proofs.Common.{sym, ap, ◌∙◌, subst, arith}
use Rattle.std.proofs.lemmas.List.Elements.{All-nil, All-cons, All-head, All-tail}
use Rattle.plc_base.specs.Mask.{no_members}
use Rattle.plc_lex.specs.declared.token.TokenKind.{TokenKind}
use Rattle.plc_lex.specs.declared.token.TokenKind.TheVariants.{Word, Name, Symbol}
use Rattle.plc_lex.specs.declared.token.Keyword.TheVariants.{At}
use Rattle.plc_lex.specs.declared.token.Symbol.TheVariants.{OpenBrace, CloseBrace, Dot}
use Rattle.plc_lang.specs.Names.{label_name, pointer_name}
use Rattle.plc_flow.specs.declared.flow.Flow.{Flow}
use Rattle.plc_auto.specs.declared.observer.Observer.{Observer}
use Rattle.plc_auto.specs.Table.{count_of}
use Rattle.plc_at.specs.declared.claim.LocationClaim.{LocationClaim}
use Rattle.plc_at.specs.declared.reading.Due.{Due}
use Rattle.plc_at.specs.declared.reading.Due.TheVariants as due
use Rattle.plc_at.specs.Claims.{locals_by_label, Written, NamesWhatIsThere, before_dot, after_dot, dot_then}
use Rattle.plc_at.specs.Claims.{each_then, location_then, claims_tokens, located, SpellClaims, ClaimFits}
use Rattle.plc_at.specs.Reading.{IsPointerAt, HasPointers, IsLabelNamed, AreNamed, location_name, BeginsWith}
use Rattle.plc_at.specs.Reading.{HasParts, with_location, with_locations, EndClaim, OpenClaim, MayGoOn, HasSecondPart}
use Rattle.plc_at.specs.Reading.{Advances}
use Rattle.plc_at.proofs.Locations.{alike}

-- ---- between claims, and after `at`

-- tokens that spell claims begin with one
record FirstClaim (flow : Flow) (o : Observer) (t : TokenKind) (ts : List TokenKind) : Type 0 where
  pub first : Written
  pub others : List Written
  pub there : NamesWhatIsThere flow o first
  pub all_there : All (NamesWhatIsThere flow o) others
  pub word : t ≡ Word At
  pub tokens : ts ≡ Name (label_name flow.file first.label)
      ∷ Name (pointer_name flow.file (locals_by_label flow first.label) first.local)
      ∷ Symbol OpenBrace ∷ each_then (location_then o) first.locations (Symbol CloseBrace ∷ claims_tokens flow o others)

first_claim : (flow : Flow) (o : Observer) (t : TokenKind) (ts : List TokenKind) (claims : List LocationClaim)
    → SpellClaims flow o (t ∷ ts) claims → FirstClaim flow o t ts
first_claim flow o t ts claims s = go s.written s.there s.tokens
  where
    go : (ws : List Written) → All (NamesWhatIsThere flow o) ws → t ∷ ts ≡ claims_tokens flow o ws
        → FirstClaim flow o t ts
    go [] a e = absurd cc
    go (c ∷ cs) a e = record {
      first = c;
      others = cs;
      there = All-head (NamesWhatIsThere flow o) c cs a;
      all_there = All-tail (NamesWhatIsThere flow o) c cs a;
      word = cc;
      tokens = cc;
    }

-- a pointer local's operation has a first one
first_pointer : (flow : Flow) (label local : ℕ) → IsPointerAt flow label local → IsPointerAt flow label 0
first_pointer flow label local p =
    let there = p.local_there in
    record { label_there = p.label_there; local_there = omega arith }

pointer_of : (flow : Flow) (o : Observer) (c : Written) → NamesWhatIsThere flow o c → IsPointerAt flow c.label c.local
pointer_of flow o c n = record { label_there = n.label; local_there = n.local }

-- what a claim begins with, and where one can be written
pub claim_due : (flow : Flow) (o : Observer) (t : TokenKind) (ts : List TokenKind) (claims : List LocationClaim)
    → SpellClaims flow o (t ∷ ts) claims → (t ≡ Word At) × HasPointers flow
claim_due flow o t ts claims s =
    let f = first_claim flow o t ts claims s in
    (f.word, (f.first.label, first_pointer flow f.first.label f.first.local (pointer_of flow o f.first f.there)))

-- a label is due after `at`
pub record LabelDue (flow : Flow) (t : TokenKind) : Type 0 where
  pub name : List ℕ
  pub label : ℕ
  pub token : t ≡ Name name
  pub is_named : IsLabelNamed flow name label

pub label_due : (flow : Flow) (o : Observer) (t : TokenKind) (ts : List TokenKind) (claims : List LocationClaim)
    → SpellClaims flow o (Word At ∷ t ∷ ts) claims → LabelDue flow t
label_due flow o t ts claims s =
    let f = first_claim flow o (Word At) (t ∷ ts) claims s in
    let e = f.tokens in
    record {
      name = label_name flow.file f.first.label;
      label = f.first.label;
      token = cc;
      is_named = record {
        there = first_pointer flow f.first.label f.first.local (pointer_of flow o f.first f.there);
        named = refl;
      };
    }

pub label_read : (flow : Flow) (o : Observer) (name : List ℕ) (label : ℕ) → IsLabelNamed flow name label
    → Advances flow o due.Label (Name name) (due.Local label)
label_read flow o name label n = record {
  fits = n.there;
  spells = λ ts claims m. subst (λ x. SpellClaims flow o (Word At ∷ Name x ∷ ts) claims) n.named m;
  goes_on = λ ts g. (g.0, subst (λ x. SpellClaims flow o (Word At ∷ Name x ∷ ts) g.0) (sym n.named) g.1);
}

-- a pointer local is due after the name of a label
pub record LocalDue (flow : Flow) (label_text : List ℕ) (t : TokenKind) : Type 0 where
  pub name : List ℕ
  pub label : ℕ
  pub local : ℕ
  pub token : t ≡ Name name
  pub are_named : AreNamed flow label_text name label local

pub local_due : (flow : Flow) (o : Observer) (x : List ℕ) (t : TokenKind) (ts : List TokenKind) (claims : List LocationClaim)
    → SpellClaims flow o (Word At ∷ Name x ∷ t ∷ ts) claims → LocalDue flow x t
local_due flow o x t ts claims s =
    let f = first_claim flow o (Word At) (Name x ∷ t ∷ ts) claims s in
    let e = f.tokens in
    record {
      name = pointer_name flow.file (locals_by_label flow f.first.label) f.first.local;
      label = f.first.label;
      local = f.first.local;
      token = cc;
      are_named = record { there = pointer_of flow o f.first f.there; label_named = cc; local_named = refl };
    }

-- the claim of a label and a local, before any location
abbrev pub bare : ℕ → ℕ → LocationClaim
bare label local = record { label = label; local = local; set = no_members }

bare_spells : (flow : Flow) (o : Observer) (x name : List ℕ) (label local : ℕ) → AreNamed flow x name label local
    → (ts : List TokenKind) (claims : List LocationClaim) → OpenClaim flow o (bare label local) ts claims
    → SpellClaims flow o (Word At ∷ Name x ∷ Name name ∷ ts) claims
bare_spells flow o x name label local n ts claims m =
    let e = m.tokens in
    let k = m.ends.tokens in
    let a = n.label_named in
    let b = n.local_named in
    let c : Written = record { label = label; local = local; locations = m.ends.locations } in
    record {
      written = c ∷ m.ends.written;
      there = All-cons (NamesWhatIsThere flow o) c m.ends.written
          (record { label = n.there.label_there; local = n.there.local_there; locations = m.ends.are_there }) m.ends.there;
      tokens = cc;
      claims_are = m.ends.claims_are;
    }

bare_goes_on : (flow : Flow) (o : Observer) (x name : List ℕ) (label local : ℕ) → (ts : List TokenKind)
    → MayGoOn flow o (due.Label) (Name x ∷ Name name ∷ ts) → MayGoOn flow o (due.Opening (bare label local)) ts
bare_goes_on flow o x name label local ts g =
    let f = first_claim flow o (Word At) (Name x ∷ Name name ∷ ts) g.0 g.1 in
    let e = f.tokens in (
      with_locations (bare label local) f.first.locations ∷ map located f.others,
      record {
        after = each_then (location_then o) f.first.locations (Symbol CloseBrace ∷ claims_tokens flow o f.others);
        tokens = cc;
        ends = record {
          locations = f.first.locations;
          are_there = f.there.locations;
          written = f.others;
          there = f.all_there;
          tokens = refl;
          claims_are = refl;
        };
      },
    )

pub local_read : (flow : Flow) (o : Observer) (l : ℕ) (name : List ℕ) (label local : ℕ)
    → AreNamed flow (label_name flow.file l) name label local
    → Advances flow o (due.Local l) (Name name) (due.Opening (bare label local))
local_read flow o l name label local n = record {
  fits = record { label = n.there.label_there; local = n.there.local_there };
  spells = bare_spells flow o (label_name flow.file l) name label local n;
  goes_on = bare_goes_on flow o (label_name flow.file l) name label local;
}

-- ---- the opening brace

pub brace_due : (flow : Flow) (o : Observer) (c : LocationClaim) (t : TokenKind) (ts : List TokenKind) (claims : List LocationClaim)
    → OpenClaim flow o c (t ∷ ts) claims → t ≡ Symbol OpenBrace
brace_due flow o c t ts claims m = (let e = m.tokens in cc)

pub brace_read : (flow : Flow) (o : Observer) (c : LocationClaim) → ClaimFits flow c
    → Advances flow o (due.Opening c) (Symbol OpenBrace) (due.Location c)
brace_read flow o c f = record {
  fits = f;
  spells = λ ts claims m. record { after = ts; tokens = refl; ends = m };
  goes_on = λ ts g.
      let e = g.1.tokens in
      let same : g.1.after ≡ ts = cc in
      (g.0, subst (λ x. EndClaim flow o c x g.0) same g.1.ends);
}

-- ---- within braces

-- a claim ends with more locations and then more claims
ends_so : (flow : Flow) (o : Observer) (c : LocationClaim) (locations : List ℕ) (written : List Written)
    → All (λ l. l < count_of o) locations → All (NamesWhatIsThere flow o) written → (ts : List TokenKind)
    → ts ≡ each_then (location_then o) locations (Symbol CloseBrace ∷ claims_tokens flow o written)
    → MayGoOn flow o (due.Location c) ts
ends_so flow o c locations written a b ts e = (
  with_locations c locations ∷ map located written,
  record {
    locations = locations;
    are_there = a;
    written = written;
    there = b;
    tokens = e;
    claims_are = refl;
  },
)

pub close_read : (flow : Flow) (o : Observer) (c : LocationClaim)
    → Advances flow o (due.Location c) (Symbol CloseBrace) (due.Claim (Some c))
close_read flow o c = record {
  fits = tt;
  spells = λ ts claims m. record {
    locations = [];
    are_there = All-nil (λ l. l < count_of o);
    written = m.written;
    there = m.there;
    tokens = ap (λ x. Symbol CloseBrace ∷ x) m.tokens;
    claims_are = ap (λ x. c ∷ x) m.claims_are;
  };
  goes_on = λ ts g. go ts g.1.written g.1.there g.1.locations g.1.tokens;
}
  where
    go : (ts : List TokenKind) (ws : List Written) → All (NamesWhatIsThere flow o) ws → (ps : List ℕ)
        → Symbol CloseBrace ∷ ts ≡ each_then (location_then o) ps (Symbol CloseBrace ∷ claims_tokens flow o ws)
        → MayGoOn flow o (due.Claim (Some c)) ts
    go ts ws a [] e = (map located ws, record { written = ws; there = a; tokens = cc; claims_are = refl })
    go ts ws a (p ∷ ps) e = absurd cc

-- what a token is within braces
pub data PlaceDue (o : Observer) (t : TokenKind) : Type 0 where
  closes : t ≡ Symbol CloseBrace → PlaceDue o t
  names : (l : ℕ) → l < count_of o → t ≡ Name (before_dot (location_name o l)) → PlaceDue o t

pub location_due : (flow : Flow) (o : Observer) (c : LocationClaim) (t : TokenKind) (ts : List TokenKind) (claims : List LocationClaim)
    → EndClaim flow o c (t ∷ ts) claims → PlaceDue o t
location_due flow o c t ts claims m = go m.locations m.are_there m.tokens
  where
    go : (ps : List ℕ) → All (λ l. l < count_of o) ps
        → t ∷ ts ≡ each_then (location_then o) ps (Symbol CloseBrace ∷ claims_tokens flow o m.written) → PlaceDue o t
    go [] a e = closes cc
    go (p ∷ ps) a e = names p (All-head (λ l. l < count_of o) p ps a) cc

-- the first of the locations that are named
record FirstLocation (flow : Flow) (o : Observer) (name : List ℕ) (ts : List TokenKind) : Type 0 where
  pub first : ℕ
  pub others : List ℕ
  pub written : List Written
  pub there : first < count_of o
  pub all_there : All (λ l. l < count_of o) others
  pub claims_there : All (NamesWhatIsThere flow o) written
  pub begins : before_dot (location_name o first) ≡ name
  pub tokens : ts ≡ dot_then (after_dot (location_name o first))
      (each_then (location_then o) others (Symbol CloseBrace ∷ claims_tokens flow o written))

first_location : (flow : Flow) (o : Observer) (c : LocationClaim) (name : List ℕ) (ts : List TokenKind)
    (claims : List LocationClaim) → EndClaim flow o c (Name name ∷ ts) claims → FirstLocation flow o name ts
first_location flow o c name ts claims m = go m.locations m.are_there m.tokens
  where
    go : (ps : List ℕ) → All (λ l. l < count_of o) ps
        → Name name ∷ ts ≡ each_then (location_then o) ps (Symbol CloseBrace ∷ claims_tokens flow o m.written)
        → FirstLocation flow o name ts
    go [] a e = absurd cc
    go (p ∷ ps) a e = record {
      first = p;
      others = ps;
      written = m.written;
      there = All-head (λ l. l < count_of o) p ps a;
      all_there = All-tail (λ l. l < count_of o) p ps a;
      claims_there = m.there;
      begins = cc;
      tokens = cc;
    }

-- a name of one part
pub whole_read : (flow : Flow) (o : Observer) (c : LocationClaim) (name : List ℕ) (l : ℕ) → ClaimFits flow c
    → BeginsWith o name l → is_some (after_dot (location_name o l)) ≡ false
    → Advances flow o (due.Location c) (Name name) (due.Location (with_location c l))
whole_read flow o c name l f b none = record {
  fits = record { label = f.label; local = f.local };
  spells = λ ts claims m.
      let k = m.tokens in
      let n = b.begins in
      let e = no_part (after_dot (location_name o l)) none in
      record {
        locations = l ∷ m.locations;
        are_there = All-cons (λ l. l < count_of o) l m.locations b.there m.are_there;
        written = m.written;
        there = m.there;
        tokens = cc;
        claims_are = m.claims_are;
      };
  goes_on = λ ts g.
      let n = first_location flow o c name ts g.0 g.1 in
      let e = no_part (after_dot (location_name o n.first)) (alike o n.first l n.there b.there ∙ none) in
      let k = n.tokens in
      ends_so flow o (with_location c l) n.others n.written n.all_there n.claims_there ts
      (k ∙ ap (λ x. dot_then x
      (each_then (location_then o) n.others (Symbol CloseBrace ∷ claims_tokens flow o n.written))) e);
}
  where
    no_part : (x : Option (List ℕ)) → is_some x ≡ false → x ≡ None
    no_part None e = refl
    no_part (Some y) e = absurd cc

-- the first part of a name of two
pub part_read : (flow : Flow) (o : Observer) (c : LocationClaim) (name : List ℕ) (l : ℕ) → ClaimFits flow c
    → BeginsWith o name l → is_some (after_dot (location_name o l)) ≡ true
    → Advances flow o (due.Location c) (Name name) (due.Dot c l)
part_read flow o c name l f b some = record {
  fits = (f, go (after_dot (location_name o l)) refl some);
  spells = λ ts claims m. subst (λ x. EndClaim flow o c (Name x ∷ ts) claims) b.begins m;
  goes_on = λ ts g. (g.0, subst (λ x. EndClaim flow o c (Name x ∷ ts) g.0) (sym b.begins) g.1);
}
  where
    go : (x : Option (List ℕ)) → after_dot (location_name o l) ≡ x → is_some x ≡ true → HasSecondPart o l
    go None e h = absurd cc
    go (Some y) e h = record { there = b.there; second = y; parts = e }

-- ---- the dot, and the second part

pub dot_due : (flow : Flow) (o : Observer) (c : LocationClaim) (l : ℕ) → HasSecondPart o l → (t : TokenKind)
    (ts : List TokenKind) (claims : List LocationClaim)
    → EndClaim flow o c (Name (before_dot (location_name o l)) ∷ t ∷ ts) claims → t ≡ Symbol Dot
dot_due flow o c l h t ts claims m = go (after_dot (location_name o n.first)) some n.tokens
  where
    n : FirstLocation flow o (before_dot (location_name o l)) (t ∷ ts)
    n = first_location flow o c (before_dot (location_name o l)) (t ∷ ts) claims m

    some : is_some (after_dot (location_name o n.first)) ≡ true
    some = alike o n.first l n.there h.there ∙ ap is_some h.parts

    go : (x : Option (List ℕ)) → is_some x ≡ true
        → t ∷ ts
        ≡ dot_then x (each_then (location_then o) n.others (Symbol CloseBrace ∷ claims_tokens flow o n.written))
        → t ≡ Symbol Dot
    go None s e = absurd cc
    go (Some y) s e = cc

pub dot_read : (flow : Flow) (o : Observer) (c : LocationClaim) (l : ℕ) → ClaimFits flow c → HasSecondPart o l
    → Advances flow o (due.Dot c l) (Symbol Dot) (due.Part c l)
dot_read flow o c l f h = record { fits = (f, h); spells = λ ts claims m. m; goes_on = λ ts g. g }

-- after a dot the second part is named
record SecondPart (o : Observer) (flow : Flow) (ps : List ℕ) (ws : List Written) (x : Option (List ℕ)) (t : TokenKind)
    (ts : List TokenKind) : Type 0 where
  pub part : List ℕ
  pub has : x ≡ Some part
  pub token : t ≡ Name part
  pub rest : ts ≡ each_then (location_then o) ps (Symbol CloseBrace ∷ claims_tokens flow o ws)

second_part : (o : Observer) (flow : Flow) (ps : List ℕ) (ws : List Written) (x : Option (List ℕ)) (t : TokenKind)
    (ts : List TokenKind)
    → Symbol Dot ∷ t ∷ ts ≡ dot_then x (each_then (location_then o) ps (Symbol CloseBrace ∷ claims_tokens flow o ws))
    → SecondPart o flow ps ws x t ts
second_part o flow ps ws (Some y) t ts e = record { part = y; has = refl; token = cc; rest = cc }
second_part o flow [] ws None t ts e = absurd cc
second_part o flow (p ∷ ps) ws None t ts e = absurd cc

pub record PartDue (o : Observer) (first : List ℕ) (t : TokenKind) : Type 0 where
  pub name : List ℕ
  pub location : ℕ
  pub token : t ≡ Name name
  pub parts : HasParts o first name location

pub part_due : (flow : Flow) (o : Observer) (c : LocationClaim) (first : List ℕ) (t : TokenKind) (ts : List TokenKind)
    (claims : List LocationClaim) → EndClaim flow o c (Name first ∷ Symbol Dot ∷ t ∷ ts) claims → PartDue o first t
part_due flow o c first t ts claims m =
    let n = first_location flow o c first (Symbol Dot ∷ t ∷ ts) claims m in
    let p = second_part o flow n.others n.written (after_dot (location_name o n.first)) t ts n.tokens in
    record {
      name = p.part;
      location = n.first;
      token = p.token;
      parts = record { front = record { there = n.there; begins = n.begins }; back = p.has };
    }

pub second_read : (flow : Flow) (o : Observer) (c : LocationClaim) (l : ℕ) (name : List ℕ) (k : ℕ) → ClaimFits flow c
    → HasParts o (before_dot (location_name o l)) name k
    → Advances flow o (due.Part c l) (Name name) (due.Location (with_location c k))
second_read flow o c l name k f h = record {
  fits = record { label = f.label; local = f.local };
  spells = λ ts claims m.
      let e = m.tokens in
      let a = h.front.begins in
      let b = h.back in
      record {
        locations = k ∷ m.locations;
        are_there = All-cons (λ l. l < count_of o) k m.locations h.front.there m.are_there;
        written = m.written;
        there = m.there;
        tokens = cc;
        claims_are = m.claims_are;
      };
  goes_on = λ ts g.
      let first = before_dot (location_name o l) in
      let n = first_location flow o c first (Symbol Dot ∷ Name name ∷ ts) g.0 g.1 in
      let p = second_part o flow n.others n.written (after_dot (location_name o n.first)) (Name name) ts n.tokens in
      ends_so flow o (with_location c k) n.others n.written n.all_there n.claims_there ts p.rest;
}

-- ---- the end

-- nothing else than a claim may be due at the end
pub unfinished : (flow : Flow) (o : Observer) (d : Due) → ((last : Option LocationClaim) → d ≡ due.Claim last → ⊥)
    → MayGoOn flow o d [] → ⊥
unfinished flow o (due.Claim last) h g = h last refl
unfinished flow o due.Label h g = (let e = (first_claim flow o (Word At) [] g.0 g.1).tokens in cc)
unfinished flow o (due.Local l) h g =
    (let e = (first_claim flow o (Word At) (Name (label_name flow.file l) ∷ []) g.0 g.1).tokens in cc)
unfinished flow o (due.Opening c) h g = (let e = g.1.tokens in cc)
unfinished flow o (due.Location c) h g = none g.1.locations g.1.tokens
  where
    none : (ps : List ℕ)
        → [] ≡ each_then (location_then o) ps (Symbol CloseBrace ∷ claims_tokens flow o g.1.written) → ⊥
    none [] e = cc
    none (p ∷ ps) e = cc
unfinished flow o (due.Dot c l) h g = none n.others (after_dot (location_name o n.first)) n.tokens
  where
    n : FirstLocation flow o (before_dot (location_name o l)) []
    n = first_location flow o c (before_dot (location_name o l)) [] g.0 g.1

    none : (ps : List ℕ) (x : Option (List ℕ))
        → [] ≡ dot_then x (each_then (location_then o) ps (Symbol CloseBrace ∷ claims_tokens flow o n.written)) → ⊥
    none ps (Some y) e = cc
    none [] None e = cc
    none (p ∷ ps) None e = cc
unfinished flow o (due.Part c l) h g = none n.others (after_dot (location_name o n.first)) n.tokens
  where
    n : FirstLocation flow o (before_dot (location_name o l)) (Symbol Dot ∷ [])
    n = first_location flow o c (before_dot (location_name o l)) (Symbol Dot ∷ []) g.0 g.1

    none : (ps : List ℕ) (x : Option (List ℕ)) → Symbol Dot ∷ []
        ≡ dot_then x (each_then (location_then o) ps (Symbol CloseBrace ∷ claims_tokens flow o n.written)) → ⊥
    none ps (Some y) e = cc
    none [] None e = cc
    none (p ∷ ps) None e = cc
