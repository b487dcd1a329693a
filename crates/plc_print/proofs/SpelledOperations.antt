-- Operations that are read are spelled by their normal tree, without places and with parameters before other locals, and the normal tree means the same.
use Rattle.std.proofs.Common.{◌≡◌, ◌==◌, ℕ, ◌+◌, Bool, true, false, if◌then◌else◌, Option, Some, None, Ok, Err, List, [], ◌∷◌, ◌++◌, map, filter, slice_get, length, refl, sym, ap, ap₂, ◌∙◌, append_assoc, append-nil}
use Rattle.std.proofs.lemmas.List.{map-append}
use Rattle.std.proofs.lemmas.List.Elements.{filter-append}
use Rattle.plc_base.specs.Limits.{most}
use Rattle.plc_base.specs.declared.limits.What1.TheVariants as limits
use Rattle.plc_base.specs.Names.{place_of}
use Rattle.plc_lang.specs.Locals.{is_parameter}
use Rattle.plc_lang.specs.declared.syntax.File.{File}
use Rattle.plc_lang.specs.declared.syntax.Local.{Local}
use Rattle.plc_lang.specs.declared.syntax.Op.{Op}
use Rattle.plc_lang.specs.Statements.{Statements}
use Rattle.plc_syntax.specs.Trees.{Text, Placed, FieldTree, PointerField as PointerFieldTree, DataField as DataFieldTree, BlockTree, OpTree, Operates}
use Rattle.plc_scope.specs.declared.fault.ParseFault.TheVariants as faults
use Rattle.plc_scope.specs.declared.scope.Scope.{Scope}
use Rattle.plc_scope.specs.declared.binding.Binding.TheVariants.{Taken, LocalOnly}
use Rattle.plc_scope.specs.Scope.{declared, has_local, may_name_local, local_number, with_local, without_locals, declared_local, declared_parameter}
use Rattle.plc_outparse.specs.Meaning.{in_turn}
use Rattle.plc_parse.specs.Meaning.{line_at, statements_mean, local_means, listed, op_means, placed_op_means}
use Rattle.plc_scope.proofs.Holds.{Has, next, weaker, unless}
use Rattle.plc_print.specs.Canonical.{declaration_tree, is_declared, op_tree}
use Rattle.plc_lang.specs.Names.{name_at}
use Rattle.plc_syntax.specs.Forms.{at_place}
use Rattle.plc_syntax.proofs.Unplaced.{unplaced_by, unplaced_names, unplaced_field, unplaced_op}
use Rattle.plc_print.specs.Outlines.{bare}
use Rattle.plc_print.proofs.NormalTrees.{normal_op}
use Rattle.plc_print.proofs.Steps.{within, after, along}
use Rattle.plc_print.proofs.SpelledNames.{Bound, Ends, place_found, number_named}
use Rattle.plc_print.proofs.GrowingScopes.{Goes, goes_nowhere, goes_on, ends_before, within_append, last_there, more_bound, Declares, declared_found, goes_by, declared_name}
use Rattle.plc_print.proofs.SpelledStatements.{Read, BlockRead, block_found}

module _ (file : File) where
  -- ---- one local

  -- its name has the number
  record NumberRead (s : Scope) (name : Text) (x : ℕ × Scope) : Type 0 where
    goes : Goes file s x.1
    locals : x.1.locals ≡ s.locals
    there : slice_get x.1.names.names x.0 ≡ Some name

  number_found : (s : Scope) (name : Placed Text) → Has (NumberRead s name.value) (local_number (place_of name.value s.names.names) s name)
  number_found s name = by (place_of name.value s.names.names) refl
    where
      taken : (i : ℕ) (b : Bool) → slice_get s.names.names i ≡ Some name.value → Has (NumberRead s name.value) (if b then Ok (i, s) else Err (faults.Duplicate name.at))
      taken i true there = record { goes = goes_nowhere file s; locals = refl; there = there }
      taken i false there = tt

      by : (o : Option ℕ) → place_of name.value s.names.names ≡ o → Has (NumberRead s name.value) (local_number o s name)
      by None e = record {
        goes = record { names = within_append s.names.names (name.value ∷ []); labels = λ i x e. e; bound = λ b. more_bound file s name.value LocalOnly b tt };
        locals = refl;
        there = last_there s.names.names name.value;
      }
      by (Some i) e = taken i (may_name_local (slice_get s.bindings i) (has_local s.locals i)) (place_found name.value s.names.names i e)

  -- one more local of this name
  record Adds (s : Scope) (name : Text) (p q : Bool) (t : Scope) : Type 0 where
    number : ℕ
    goes : Goes file s t
    locals : t.locals ≡ s.locals ++ record { name = number; pointer = p; param = q } ∷ []
    tree : Ends file t → name_at file number ≡ name

  one_more : (s : Scope) (name : Text) (p q : Bool) (x : ℕ × Scope) → NumberRead s name x → Adds s name p q (with_local x.1 x.0 p q)
  one_more s name p q x h = record {
    number = x.0;
    goes = record { names = h.goes.names; labels = h.goes.labels; bound = λ b. let more : Bound file x.1 = h.goes.bound b in record { even = more.even; each = more.each } };
    locals = ap (λ (ls : List Local). ls ++ record { name = x.0; pointer = p; param = q } ∷ []) h.locals;
    tree = λ e. number_named file (with_local x.1 x.0 p q) x.0 name e h.there;
  }

  local_found : (s : Scope) (name : Placed Text) (p : Bool) → Has (Adds s name.value p false) (declared_local s name p)
  unfolding declared_local
  local_found s name p = unless (Adds s name.value p false) (length s.locals == most limits.Locals) _ _ (λ less.
      next (NumberRead s name.value) _ (local_number (place_of name.value s.names.names) s name) _ (number_found s name) (λ x f. one_more s name.value p false x f))

  parameter_found : (s : Scope) (name : Placed Text) → Has (Adds s name.value false true) (declared_parameter s name)
  unfolding declared_parameter
  parameter_found s name =
      next (NumberRead s name.value) (Adds s name.value false true) (local_number (place_of name.value s.names.names) s name) _ (number_found s name) (λ x f.
      unless (Adds s name.value false true) (length s.locals == most limits.Locals) _ _ (λ less. one_more s name.value false true x f))

  -- ---- parameters and other locals in order

  abbrev parameters_of : List Local → List (Placed Text)
  parameters_of ls = map (λ (l : Local). bare (name_at file l.name)) (filter is_parameter ls)

  abbrev declarations_of : List Local → List FieldTree
  declarations_of ls = map (λ (l : Local). declaration_tree (name_at file l.name) l.pointer) (filter is_declared ls)

  parameters_join : (ls ms : List Local) → parameters_of (ls ++ ms) ≡ parameters_of ls ++ parameters_of ms
  parameters_join ls ms = ap (map (λ (l : Local). bare (name_at file l.name))) (filter-append is_parameter ls ms) ∙ map-append (λ (l : Local). bare (name_at file l.name)) (filter is_parameter ls) (filter is_parameter ms)

  declarations_join : (ls ms : List Local) → declarations_of (ls ++ ms) ≡ declarations_of ls ++ declarations_of ms
  declarations_join ls ms =
      ap (map (λ (l : Local). declaration_tree (name_at file l.name) l.pointer)) (filter-append is_declared ls ms) ∙ map-append (λ (l : Local). declaration_tree (name_at file l.name) l.pointer) (filter is_declared ls) (filter is_declared ms)

  -- further locals, by their trees without places
  record LocalsRead (s : Scope) (parameters : List (Placed Text)) (declarations : List FieldTree) (t : Scope) : Type 0 where
    goes : Goes file s t
    parameters_are : Ends file t → parameters_of t.locals ≡ parameters_of s.locals ++ parameters
    declarations_are : Ends file t → declarations_of t.locals ≡ declarations_of s.locals ++ declarations

  no_locals : (s : Scope) → LocalsRead s [] [] s
  no_locals s = record { goes = goes_nowhere file s; parameters_are = λ e. sym (append-nil (parameters_of s.locals)); declarations_are = λ e. sym (append-nil (declarations_of s.locals)) }

  -- one more parameter
  parameter_then : (s t u : Scope) (name : Text) (names : List (Placed Text)) → Adds s name false true t → LocalsRead t names [] u → LocalsRead s (bare name ∷ names) [] u
  parameter_then s t u name names f g =
      let one_local : List Local = record { name = f.number; pointer = false; param = true } ∷ [] in
      record {
        goes = goes_on file s t u f.goes g.goes;
        parameters_are = λ e.
            let there : parameters_of one_local ≡ bare name ∷ [] = ap (λ (n : Text). bare n ∷ []) (f.tree (ends_before file t u g.goes e)) in
            g.parameters_are e ∙ ap (λ (ls : List Local). parameters_of ls ++ names) f.locals ∙ ap (λ (ns : List (Placed Text)). ns ++ names) (parameters_join s.locals one_local) ∙ append_assoc (parameters_of s.locals) (parameters_of one_local) names
            ∙ ap (λ (ns : List (Placed Text)). parameters_of s.locals ++ (ns ++ names)) there;
        declarations_are = λ e.
            g.declarations_are e ∙ ap (λ (ls : List Local). declarations_of ls ++ []) f.locals ∙ ap (λ (ds : List FieldTree). ds ++ []) (declarations_join s.locals one_local ∙ append-nil (declarations_of s.locals));
      }

  -- one more local that is no parameter
  declaration_then : (s t u : Scope) (name : Text) (p : Bool) (ds : List FieldTree) → Adds s name p false t → LocalsRead t [] ds u → LocalsRead s [] (declaration_tree name p ∷ ds) u
  declaration_then s t u name p ds f g =
      let one_local : List Local = record { name = f.number; pointer = p; param = false } ∷ [] in
      record {
        goes = goes_on file s t u f.goes g.goes;
        parameters_are = λ e.
            g.parameters_are e ∙ ap (λ (ls : List Local). parameters_of ls ++ []) f.locals ∙ ap (λ (ns : List (Placed Text)). ns ++ []) (parameters_join s.locals one_local ∙ append-nil (parameters_of s.locals));
        declarations_are = λ e.
            let there : declarations_of one_local ≡ declaration_tree name p ∷ [] = ap (λ (n : Text). declaration_tree n p ∷ []) (f.tree (ends_before file t u g.goes e)) in
            g.declarations_are e ∙ ap (λ (ls : List Local). declarations_of ls ++ ds) f.locals ∙ ap (λ (ns : List FieldTree). ns ++ ds) (declarations_join s.locals one_local) ∙ append_assoc (declarations_of s.locals) (declarations_of one_local) ds
            ∙ ap (λ (ns : List FieldTree). declarations_of s.locals ++ (ns ++ ds)) there;
      }

  parameters_found : (s : Scope) (names : List (Placed Text)) → Has (LocalsRead s (unplaced_names names) []) (in_turn declared_parameter s names)
  parameters_found s [] = no_locals s
  parameters_found s (n ∷ ns) =
      next (Adds s n.value false true) _ (declared_parameter s n) _ (parameter_found s n) (λ t f.
      weaker (LocalsRead t (unplaced_names ns) []) _ (in_turn declared_parameter t ns) (λ u g. parameter_then s t u n.value (unplaced_names ns) f g) (parameters_found t ns))

  locals_found : (s : Scope) (ls : List FieldTree) → Has (LocalsRead s [] (map unplaced_field ls)) (in_turn local_means s ls)
  locals_found s [] = no_locals s
  locals_found s (PointerFieldTree n ∷ ls) =
      next (Adds s n.value true false) _ (declared_local s n true) _ (local_found s n true) (λ t f.
      weaker (LocalsRead t [] (map unplaced_field ls)) _ (in_turn local_means t ls) (λ u g. declaration_then s t u n.value true (map unplaced_field ls) f g) (locals_found t ls))
  locals_found s (DataFieldTree n ∷ ls) =
      next (Adds s n.value false false) _ (declared_local s n false) _ (local_found s n false) (λ t f.
      weaker (LocalsRead t [] (map unplaced_field ls)) _ (in_turn local_means t ls) (λ u g. declaration_then s t u n.value false (map unplaced_field ls) f g) (locals_found t ls))

  -- ---- operations

  -- between operations all is bound as the file has it, and no local is in reach
  pub record Between (s : Scope) : Type 0 where
    pub bound : Bound file s
    pub locals : s.locals ≡ []

  -- with its normal body
  abbrev pub normal_placed : Placed OpTree → Placed OpTree
  normal_placed o = at_place o.at (normal_op o.value)

  module _ (lines : List ℕ) where
    record OneOp (s : Scope) (n line : ℕ) (o : OpTree) (r : Op × Scope) : Type 0 where
      between : Between r.1
      read : Read file (λ (ls : List Local) (p : Op). op_tree file p) (op_means lines line s n (normal_op o)) s (unplaced_op (normal_op o)) r

    op_read : (s t : Scope) (n line : ℕ) (name : Placed Text) (ps : List (Placed Text)) (ls : List FieldTree) (body : BlockTree) (p l : Scope) (b : Statements × Scope) → Between s → (n == most limits.Ops) ≡ false
        → Declares file name.value Taken s t → declared s name Taken ≡ Ok t → LocalsRead t (unplaced_names ps) [] p → in_turn declared_parameter t ps ≡ Ok p → LocalsRead p [] (map unplaced_field ls) l → in_turn local_means p ls ≡ Ok l → BlockRead file lines l false body b
        → OneOp s n line (Operates name ps ls body) (record { name = length s.names.names; locals = l.locals; body = b.0; line = line }, without_locals b.1)
    op_read s t n line name ps ls body p l b before less d to_t f to_p g to_l h =
        let declares = goes_by file s t name.value Taken d (λ k. tt) in
        let goes = goes_on file s t b.1 declares (goes_on file t p b.1 f.goes (goes_on file p l b.1 g.goes h.goes)) in
        let none : t.locals ≡ [] = d.locals ∙ before.locals in
        record {
          between = let last : Bound file b.1 = goes.bound before.bound in record { bound = record { even = last.even; each = last.each }; locals = refl };
          read = record {
            goes = record { names = goes.names; labels = goes.labels; bound = λ k. let last : Bound file b.1 = goes.bound k in record { even = last.even; each = last.each } };
            locals = sym before.locals;
            tree = λ e.
                let fourth : Ends file b.1 = record { names = e.names; labels = e.labels } in
                let third = ends_before file l b.1 h.goes fourth in
                let second = ends_before file p l g.goes third in
                let first = ends_before file t p f.goes second in
                let the_parameters : parameters_of l.locals ≡ unplaced_names ps = g.parameters_are third ∙ append-nil (parameters_of p.locals) ∙ f.parameters_are second ∙ ap (λ (ms : List Local). parameters_of ms ++ unplaced_names ps) none in
                let the_locals : declarations_of l.locals ≡ map unplaced_field ls = g.declarations_are third ∙ ap (λ (ds : List FieldTree). ds ++ map unplaced_field ls) (f.declarations_are second ∙ append-nil (declarations_of t.locals)) ∙ ap (λ (ms : List Local). declarations_of ms ++ map unplaced_field ls) none in
                rw (declared_name file s t name.value Taken d first, the_parameters, the_locals, h.tree fourth) refl;
            again = within (n == most limits.Ops) _ _ _ less (after _ _ _ _ to_t (after _ _ _ _ to_p (after _ _ _ _ to_l (after _ _ _ _ h.again refl))));
          };
        }

    op_found : (s : Scope) (n line : ℕ) (o : OpTree) → Between s → Has (OneOp s n line o) (op_means lines line s n o)
    op_found s n line (Operates name ps ls body) before = unless (OneOp s n line (Operates name ps ls body)) (n == most limits.Ops) _ _ (λ less.
        along (Declares file name.value Taken s) _ (declared s name Taken) _ (declared_found file s name Taken) (λ t d to_t.
        along (LocalsRead t (unplaced_names ps) []) _ (in_turn declared_parameter t ps) _ (parameters_found t ps) (λ p f to_p.
        along (LocalsRead p [] (map unplaced_field ls)) _ (in_turn local_means p ls) _ (locals_found p ls) (λ l g to_l.
        let opened : Bound file l = g.goes.bound (f.goes.bound (d.bound before.bound tt)) in
        next (BlockRead file lines l false body) _ (statements_mean lines l false body) _ (block_found file lines l false body opened) (λ b h.
        op_read s t n line name ps ls body p l b before less d to_t f to_p g to_l h)))))

    -- operations in order
    abbrev pub ManyOps : Scope → ℕ → List (Placed OpTree) → List Op × Scope → Type 0
    ManyOps s n os r = Read file (λ (ls : List Local) (ps : List Op). map (λ o. bare (op_tree file o)) ps) (listed (placed_op_means lines) s n (map normal_placed os)) s (map (unplaced_by unplaced_op) (map normal_placed os)) r

    op_then : (s : Scope) (n : ℕ) (o : Placed OpTree) (os : List (Placed OpTree)) (first : Op × Scope) (others : List Op × Scope) → OneOp s n (line_at lines o.at) o.value first → ManyOps first.1 (n + 1) os others → ManyOps s n (o ∷ os) (first.0 ∷ others.0, others.1)
    op_then s n o os first others f g =
        let one = f.read in
        record {
          goes = goes_on file s first.1 others.1 one.goes g.goes;
          locals = g.locals ∙ one.locals;
          tree = λ e. ap₂ (λ (p : OpTree) (ps : List (Placed OpTree)). bare p ∷ ps) (one.tree (ends_before file first.1 others.1 g.goes e)) (g.tree e);
          again = after _ _ _ _ one.again (after _ _ _ _ g.again refl);
        }

    pub ops_found : (s : Scope) (n : ℕ) (os : List (Placed OpTree)) → Between s → Has (ManyOps s n os) (listed (placed_op_means lines) s n os)
    ops_found s n [] before = record { goes = goes_nowhere file s; locals = refl; tree = λ e. refl; again = refl }
    ops_found s n (o ∷ os) before =
        next (OneOp s n (line_at lines o.at) o.value) (ManyOps s n (o ∷ os)) (op_means lines (line_at lines o.at) s n o.value) _ (op_found s n (line_at lines o.at) o.value before) (λ first f.
        next (ManyOps first.1 (n + 1) os) (ManyOps s n (o ∷ os)) (listed (placed_op_means lines) first.1 (n + 1) os) _ (ops_found first.1 (n + 1) os f.between) (λ others g.
        op_then s n o os first others f g))
