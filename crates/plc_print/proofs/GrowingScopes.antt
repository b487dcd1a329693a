-- How scopes grow: names, labels and bindings stay, and what is declared has the number of its name.
use Rattle.std.proofs.Common.{◌≡◌, ◌==◌, inl, inr, ℕ, zero, suc, Option, Some, None, option_map, Result, Ok, Err, List, [], ◌∷◌, ◌++◌, length, slice_get, refl, sym, ap, ◌∙◌, subst, arith}
use Rattle.std.proofs.lemmas.List.{length-append}
use Rattle.plc_base.specs.Limits.{most}
use Rattle.plc_base.specs.declared.limits.What1.TheVariants as limits
use Rattle.plc_base.specs.Names.{place_of}
use Rattle.plc_lang.specs.declared.syntax.File.{File}
use Rattle.plc_syntax.specs.Trees.{Text, Placed}
use Rattle.plc_scope.specs.declared.fault.ParseFault.{ParseFault}
use Rattle.plc_scope.specs.declared.scope.Scope.{Scope}
use Rattle.plc_scope.specs.declared.binding.Binding.{Binding}
use Rattle.plc_scope.specs.declared.binding.Binding.TheVariants.{Taken}
use Rattle.plc_scope.specs.Scope.{◌>>=◌, if_new, with_name, with_label, declared}
use Rattle.plc_parse.specs.Meaning.{label_means, during_means}
use Rattle.plc_scope.proofs.Holds.{Has, next, unless}
use Rattle.plc_lang.specs.Names.{name_at, label_name}
use Rattle.plc_parse.proofs.Growth.{from_last}
use Rattle.plc_syntax.proofs.Unplaced.{unplaced_label}
use Rattle.plc_print.specs.Outlines.{bare}
use Rattle.plc_print.proofs.Steps.{Within}
use Rattle.plc_print.proofs.SpelledNames.{IsBound, Bound, Ends, from_number, number_named}

pub within_append : {A : Type 0} (xs ys : List A) → Within xs (xs ++ ys)
within_append [] ys i x e = absurd cc
within_append (y ∷ xs) ys zero x e = e
within_append (y ∷ xs) ys (suc i) x e = within_append xs ys i x e

pub last_there : {A : Type 0} (xs : List A) (y : A) → slice_get (xs ++ y ∷ []) (length xs) ≡ Some y
last_there [] y = refl
last_there (x ∷ xs) y = last_there xs y

module _ (file : File) where
  -- names and labels stay, and what is bound stays bound
  pub record Goes (s t : Scope) : Type 0 where
    pub names : Within s.names.names t.names.names
    pub labels : Within s.labels t.labels
    pub bound : Bound file s → Bound file t

  pub goes_nowhere : (s : Scope) → Goes s s
  goes_nowhere s = record { names = λ i x e. e; labels = λ i x e. e; bound = λ b. b }

  pub goes_on : (s t u : Scope) → Goes s t → Goes t u → Goes s u
  goes_on s t u f g = record { names = λ i x e. g.names i x (f.names i x e); labels = λ i x e. g.labels i x (f.labels i x e); bound = λ b. g.bound (f.bound b) }

  pub ends_before : (s t : Scope) → Goes s t → Ends file t → Ends file s
  ends_before s t f e = record { names = λ i x h. e.names i x (f.names i x h); labels = λ i x h. e.labels i x (f.labels i x h) }

  -- one more name with its binding
  pub more_bound : (s : Scope) (name : Text) (b : Binding) → Bound file s → IsBound file (length s.names.names) b → Bound file (with_name s name b)
  more_bound s name b h is = record {
    even = omega (arith, h.even, length-append s.bindings (b ∷ []), length-append s.names.names (name ∷ []));
    each = λ i c e. elim (from_last s.bindings b i c e) [
      | inl there ↦ h.each i c there
      | inr here ↦ subst (λ d. IsBound file i d) here.1 (subst (λ k. IsBound file k b) (sym (here.0 ∙ h.even)) is)
    ];
  }

  pub record Declares (name : Text) (b : Binding) (s t : Scope) : Type 0 where
    pub names : Within s.names.names t.names.names
    pub there : slice_get t.names.names (length s.names.names) ≡ Some name
    pub bound : Bound file s → IsBound file (length s.names.names) b → Bound file t
    pub labels : t.labels ≡ s.labels
    pub locals : t.locals ≡ s.locals

  pub declared_found : (s : Scope) (name : Placed Text) (b : Binding) → Has (Declares name.value b s) (declared s name b)
  declared_found s name b = by (place_of name.value s.names.names)
    where
      by : (o : Option ℕ) → Has (Declares name.value b s) (if_new o name.at (with_name s name.value b))
      by (Some i) = tt
      by None = record { names = within_append s.names.names (name.value ∷ []); there = last_there s.names.names name.value; bound = more_bound s name.value b; labels = refl; locals = refl }

  -- what is bound to nothing is declared anywhere
  pub goes_by : (s t : Scope) (name : Text) (b : Binding) → Declares name b s t → (Bound file s → IsBound file (length s.names.names) b) → Goes s t
  goes_by s t name b d h = record { names = d.names; labels = λ i x e. subst (λ ls. slice_get ls i ≡ Some x) (sym d.labels) e; bound = λ k. d.bound k (h k) }

  -- the name of what was declared
  pub declared_name : (s t : Scope) (name : Text) (b : Binding) → Declares name b s t → Ends file t → name_at file (length s.names.names) ≡ name
  declared_name s t name b d ends = number_named file t (length s.names.names) name ends d.there

  -- ---- labels

  pub record LabelRead (s : Scope) (n : Text) (x : ℕ × Scope) : Type 0 where
    pub goes : Goes s x.1
    pub locals : x.1.locals ≡ s.locals
    pub name : Ends file x.1 → label_name file x.0 ≡ n

  label_declared : (s t : Scope) (n : Text) → Declares n Taken s t → LabelRead s n (length s.labels, with_label t (length s.names.names))
  label_declared s t n d = record {
    goes = record {
      names = d.names;
      labels = λ i x e. within_append t.labels (length s.names.names ∷ []) i x (subst (λ ls. slice_get ls i ≡ Some x) (sym d.labels) e);
      bound = λ h. let more : Bound file t = d.bound h tt in record { even = more.even; each = more.each };
    };
    locals = d.locals;
    name = λ ends.
        let here : slice_get (t.labels ++ length s.names.names ∷ []) (length s.labels) ≡ Some (length s.names.names) =
        subst (λ ls. slice_get (t.labels ++ length s.names.names ∷ []) (length ls) ≡ Some (length s.names.names)) d.labels (last_there t.labels (length s.names.names)) in
        from_number file (slice_get file.labels (length s.labels)) (length s.names.names) n (ends.labels (length s.labels) (length s.names.names) here)
        (number_named file (with_label t (length s.names.names)) (length s.names.names) n ends d.there);
  }

  pub label_found : (s : Scope) (n : Placed Text) → Has (LabelRead s n.value) (label_means s n)
  label_found s n = unless (LabelRead s n.value) (length s.labels == most limits.Labels) _ _ (λ below. new_label (declared s n Taken) (declared_found s n Taken))
    where
      new_label : (r : Result Scope ParseFault) → Has (Declares n.value Taken s) r
          → Has (LabelRead s n.value) ((r >>= λ t. Ok (with_label t (length s.names.names))) >>= λ t. Ok (length s.labels, t))
      new_label (Err e) h = tt
      new_label (Ok t) h = label_declared s t n.value h

  pub record DuringRead (s : Scope) (d : Option (Placed Text)) (x : Option ℕ × Scope) : Type 0 where
    pub goes : Goes s x.1
    pub locals : x.1.locals ≡ s.locals
    pub name : Ends file x.1 → option_map (λ l. bare (label_name file l)) x.0 ≡ unplaced_label d

  pub during_found : (s : Scope) (d : Option (Placed Text)) → Has (DuringRead s d) (during_means s d)
  during_found s None = record { goes = goes_nowhere s; locals = refl; name = λ e. refl }
  during_found s (Some n) = next (LabelRead s n.value) _ (label_means s n) _ (label_found s n) (λ l f.
      record { goes = f.goes; locals = f.locals; name = λ e. ap (λ m. Some (bare m)) (f.name e) })
