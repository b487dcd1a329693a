-- Steps, statements, operations and `init` are well sorted, since each primitive in them is (`Sorted.antt`).
use Rattle.std.proofs.Common.{◌≡◌, ◌==◌, ◌&&◌, ◌||◌, not, cond, ℕ, ◌+◌, ◌≤◌, Bool, true, false, Option, Some, None}
use Rattle.std.proofs.Common.{IfSome, Result, Ok, Err, List, [], ◌∷◌, ◌++◌, length, count_by, filter, refl, sym, ap}
use Rattle.std.proofs.Common.{◌∙◌, subst, append_assoc, append-nil, arith}
use Rattle.std.specs.List.{list_any, concat}
use Rattle.std.proofs.Math.Bool.{and-false}
use Rattle.std.proofs.lemmas.List.Elements.{filter-append}
use Rattle.std.proofs.lemmas.List.Folds.{list_any-append}
use Rattle.std.proofs.lemmas.List.Sums.{sum_by-cons}
use Rattle.plc_base.specs.Limits.{most}
use Rattle.plc_base.specs.declared.limits.What1.TheVariants as limits
use Rattle.plc_base.specs.Names.{place_of}
use Rattle.plc_lang.specs.declared.syntax.Primitive.{Primitive}
use Rattle.plc_lang.specs.declared.syntax.Local.{Local}
use Rattle.plc_lang.specs.declared.syntax.Op.{Op}
use Rattle.plc_lang.specs.declared.syntax.File.{File}
use Rattle.plc_lang.specs.Allocation.{is_new}
use Rattle.plc_lang.specs.Labels.{block_labels, labels_by_op}
use Rattle.plc_lang.specs.Fit.{StatementsFit}
use Rattle.plc_lang.specs.Locals.{is_pointer, is_parameter}
use Rattle.plc_lang.specs.Statements.{Statement, Statements, Blocks}
use Rattle.plc_lang.specs.WellSorted.{AreWellSorted, is_call, ConditionIsWellSorted, StatementIsWellSorted}
use Rattle.plc_lang.specs.WellSorted.{StatementsAreWellSorted, BlocksAreWellSorted, ParametersAreFirst, OpIsWellSorted}
use Rattle.plc_syntax.specs.Trees.{Text, Placed, FieldTree, PointerField as PointerFieldTree}
use Rattle.plc_syntax.specs.Trees.{DataField as DataFieldTree, StatementTree, PrimitiveStatement, AtomicStatement}
use Rattle.plc_syntax.specs.Trees.{CallStatement, IfStatement, ChooseStatement, LoopStatement, BreakStatement}
use Rattle.plc_syntax.specs.Trees.{ReturnStatement, LabelStatement, BlockTree, NoStatement, Then as ThenStatement}
use Rattle.plc_syntax.specs.Trees.{ElseTree, NoElse, ElseBlock, OrTree, NoOr, OrBlock, OpTree, Operates}
use Rattle.plc_scope.specs.declared.fault.ParseFault.{ParseFault}
use Rattle.plc_scope.specs.declared.scope.Scope.{Scope}
use Rattle.plc_scope.specs.declared.binding.Binding.TheVariants.{Taken}
use Rattle.plc_scope.specs.Scope.{◌>>=◌, most_locals, with_local, declared, declared_label, local_number}
use Rattle.plc_scope.specs.Scope.{declared_local, declared_parameter}
use Rattle.plc_scope.specs.Limits.{stands_at}
use Rattle.plc_scope.specs.Primitives.{primitive_means, condition_means, call_means}
use Rattle.plc_scope.proofs.Holds.{Has, weaker, next, unless, both_err}
use Rattle.plc_outparse.specs.Meaning.{in_turn}
use Rattle.plc_parse.specs.Meaning.{counted, before, allocates, count_of, forms_mean, atomic_means, one_or_skip}
use Rattle.plc_parse.specs.Meaning.{label_means, during_means, statement_means, statements_mean, else_means, or_means}
use Rattle.plc_parse.specs.Meaning.{local_means, op_means, placed_op_means, line_at}
use Rattle.plc_parse.proofs.Fits.{statements_fit, Kept, number_keeps}
use Rattle.plc_parse.proofs.Upward.{LabelRead, Read as Fitting}
use Rattle.plc_parse.proofs.Holds.{OneOn, turns}
use Rattle.plc_parse.proofs.Reach.{Bound}
use Rattle.plc_parse.proofs.Naming.{parameters_bound, locals_bound}
use Rattle.plc_parse.proofs.There.{Lists, IsThere, AllThere, lists_of, Named, named}
use Rattle.plc_parse.proofs.Numbering.{Numbered, joined, LabelsRead, many_numbered, labels_push}
use Rattle.plc_parse.proofs.Sorted.{IsOf, every_kind, MaybePlain, primitive_sorted, condition_sorted, IsCall}
use Rattle.plc_parse.proofs.Sorted.{call_sorted}

-- ---- primitives of one step

-- one at most allocates, counted with those before
counts : (has allocating : Bool) (n m : ℕ) → m ≡ n + cond allocating 1 0 → n + cond (has || allocating) 1 0 ≤ 1 → (has && allocating) ≡ false → m + cond has 1 0 ≤ 1
counts true true n m e h one = absurd cc
counts true false n m e h one = omega (arith, e, h)
counts false true n m e h one = omega (arith, e, h)
counts false false n m e h one = omega (arith, e, h)

module _ (file : File) (kind : Primitive → Bool) where
  -- each is of the kind, and no call
  abbrev pub EachOf : List Primitive → Type 0
  EachOf [] = Unit {0}
  EachOf (k ∷ ks) = IsOf file kind k × EachOf ks

  pub each_sorted : (ks : List Primitive) → EachOf ks → AreWellSorted file ks
  each_sorted [] h = tt
  each_sorted (k ∷ ks) h = (h.0.sorted, each_sorted ks h.1)

  pub none_calls : (ks : List Primitive) → EachOf ks → list_any is_call ks ≡ false
  none_calls [] h = refl
  none_calls (k ∷ ks) h = ap (λ b. b || list_any is_call ks) h.0.no_call ∙ none_calls ks h.1

  pub none_other : (ks : List Primitive) → EachOf ks → list_any (λ k. not (kind k)) ks ≡ false
  none_other [] h = refl
  none_other (k ∷ ks) h = ap (λ b. not b || list_any (λ k. not (kind k)) ks) h.0.of_kind ∙ none_other ks h.1

  abbrev Maybe : Option Primitive → Type 0
  Maybe k = IfSome k (IsOf file kind)

  -- a primitive that is counted
  record OneCounted (has_new : Bool) (k : Option Primitive) : Type 0 where
    is : Maybe k
    one_new : (has_new && allocates k) ≡ false

  -- those after it
  pub record Step (has_new : Bool) (ks : List Primitive) : Type 0 where
    pub each : EachOf ks
    pub one_new : count_by is_new ks + cond has_new 1 0 ≤ 1

  counted_sorted : (n : ℕ) (has_new : Bool) (at : ℕ) (m : Result (Option Primitive) ParseFault) → Has Maybe m → Has (OneCounted has_new) (counted n has_new at m)
  counted_sorted n has_new at (Ok None) h = record { is = tt; one_new = and-false has_new }
  counted_sorted n has_new at (Ok (Some k)) h = unless (OneCounted has_new) (n == most limits.Prims) _ _ (λ few. unless (OneCounted has_new) (has_new && is_new k) _ (Ok (Some k)) (λ one. record { is = h; one_new = one }))
  counted_sorted n has_new at (Err e) h = both_err (OneCounted has_new) (stands_at at e) (n == most limits.Prims) e _ e

  before_sorted : (has_new : Bool) (k : Option Primitive) (others : List Primitive) → OneCounted has_new k → Step (has_new || allocates k) others → Step has_new (before k others)
  before_sorted has_new None others a b = record { each = b.each; one_new = counts has_new false (count_by is_new others) (count_by is_new others) (omega arith) b.one_new a.one_new }
  before_sorted has_new (Some k) others a b = record {
    each = (a.is, b.each);
    one_new = counts has_new (is_new k) (count_by is_new others) (count_by is_new (k ∷ others)) (omega (arith, sum_by-cons (λ x. cond (is_new x) 1 0) k others)) b.one_new a.one_new;
  }

  at_most_one : (has_new : Bool) → 0 + cond has_new 1 0 ≤ 1
  at_most_one true = omega arith
  at_most_one false = omega arith

  module _ {X : Type 0} (means : X → Result (Option Primitive) ParseFault) (each : (x : X) → Has Maybe (means x)) where
    pub forms_sorted : (n : ℕ) (has_new : Bool) (xs : List (Placed X)) → Has (Step has_new) (forms_mean means n has_new xs)
    forms_sorted n has_new [] = record { each = tt; one_new = at_most_one has_new }
    forms_sorted n has_new (x ∷ xs) = next (OneCounted has_new) (Step has_new) (counted n has_new x.at (means x.value)) _ (counted_sorted n has_new x.at (means x.value) (each x.value)) (λ k a.
        next (Step (has_new || allocates k)) (Step has_new) (forms_mean means (n + count_of k) (has_new || allocates k) xs) _ (forms_sorted (n + count_of k) (has_new || allocates k) xs) (λ others b.
        before_sorted has_new k others a b))

-- ---- statements

-- what was read is well sorted, and what is in reach after it is there
pub record StatementRead (file : File) {Y : Type 0} (P : Y → Type 0) (r : Y × Scope) : Type 0 where
  pub is : P r.0
  pub there : AllThere (lists_of file) r.1

label_there : (d : Lists) (s : Scope) (n : Placed Text) → AllThere d s → Has (LabelRead (AllThere d)) (label_means s n)
label_there d s n h = unless (LabelRead (AllThere d)) (length s.labels == most limits.Labels) _ _ (λ few.
    next (AllThere d) (LabelRead (AllThere d)) (declared_label s n) _
    (next (Named s Taken) (AllThere d) (declared s n Taken) _ (named s n Taken) (λ t f. f.there d tt h)) (λ t k. k))

during_there : (d : Lists) (s : Scope) (o : Option (Placed Text)) → AllThere d s → Has (LabelRead (AllThere d)) (during_means s o)
during_there d s None h = h
during_there d s (Some n) h = next (LabelRead (AllThere d)) (LabelRead (AllThere d)) (label_means s n) _ (label_there d s n h) (λ l k. k)

module _ (lines : List ℕ) (file : File) where
  abbrev pub One : Bool → Statement × Scope → Type 0
  One in_loop = StatementRead file (StatementIsWellSorted file in_loop)

  abbrev pub Many : Bool → Statements × Scope → Type 0
  Many in_loop = StatementRead file (StatementsAreWellSorted file in_loop)

  abbrev pub Choices : Bool → Blocks × Scope → Type 0
  Choices in_loop = StatementRead file (BlocksAreWellSorted file in_loop)

  one_sorted : (in_loop : Bool) (k : Option Primitive) → IfSome k (IsOf file every_kind) → StatementIsWellSorted file in_loop (one_or_skip k)
  one_sorted in_loop None h = tt
  one_sorted in_loop (Some k) h = (h.sorted, h.no_call)

  mutual
    statement_sorted : (s : Scope) (in_loop : Bool) (at : ℕ) (st : StatementTree) → AllThere (lists_of file) s → Has (One in_loop) (statement_means lines s in_loop at st)
    statement_sorted s in_loop at (PrimitiveStatement p) h = next (MaybePlain file s h) (One in_loop) (primitive_means s p) _ (primitive_sorted file s h p) (λ k a. record { is = one_sorted in_loop k a; there = h })
    statement_sorted s in_loop at (AtomicStatement ps) h = next (Step file every_kind false) (One in_loop) (atomic_means s ps) _
        (forms_sorted file every_kind (primitive_means s) (primitive_sorted file s h) 0 false ps) (λ b a.
        record { is = record { each = each_sorted file every_kind b a.each; one_new = omega (arith, a.one_new); no_call = none_calls file every_kind b a.each }; there = h })
    statement_sorted s in_loop at (CallStatement f a d) h = next (IsCall file s h) (One in_loop) (call_means s f a) _ (call_sorted file s h f a) (λ c b.
        next (LabelRead (AllThere (lists_of file))) (One in_loop) (during_means s d) _ (during_there (lists_of file) s d h) (λ l k. record { is = (b.sorted, b.claim); there = k }))
    statement_sorted s in_loop at (IfStatement c b e) h = next (ConditionIsWellSorted file) (One in_loop) (condition_means s c) _ (condition_sorted file s h c) (λ k a.
        next (Many in_loop) (One in_loop) (statements_mean lines s in_loop b) _ (statements_sorted s in_loop b h) (λ x f.
        next (Many in_loop) (One in_loop) (else_means lines x.1 in_loop e) _ (else_sorted x.1 in_loop e f.there) (λ y g.
        record { is = (a, f.is, g.is); there = g.there })))
    statement_sorted s in_loop at (ChooseStatement a b os) h =
        next (Many in_loop) (One in_loop) (statements_mean lines s in_loop a) _ (statements_sorted s in_loop a h) (λ x f.
        next (Many in_loop) (One in_loop) (statements_mean lines x.1 in_loop b) _ (statements_sorted x.1 in_loop b f.there) (λ y g.
        next (Choices in_loop) (One in_loop) (or_means lines y.1 in_loop os) _ (choices_sorted y.1 in_loop os g.there) (λ z k.
        record { is = (omega arith, (f.is, (g.is, k.is))); there = k.there })))
    statement_sorted s in_loop at (LoopStatement b) h = next (Many true) (One in_loop) (statements_mean lines s true b) _ (statements_sorted s true b h) (λ x f. record { is = f.is; there = f.there })
    statement_sorted s true at BreakStatement h = record { is = refl; there = h }
    statement_sorted s false at BreakStatement h = tt
    statement_sorted s in_loop at ReturnStatement h = record { is = tt; there = h }
    statement_sorted s in_loop at (LabelStatement n) h = next (LabelRead (AllThere (lists_of file))) (One in_loop) (label_means s n) _ (label_there (lists_of file) s n h) (λ l k. record { is = tt; there = k })

    pub statements_sorted : (s : Scope) (in_loop : Bool) (b : BlockTree) → AllThere (lists_of file) s → Has (Many in_loop) (statements_mean lines s in_loop b)
    statements_sorted s in_loop NoStatement h = record { is = tt; there = h }
    statements_sorted s in_loop (ThenStatement at st b) h = next (One in_loop) (Many in_loop) (statement_means lines s in_loop at st) _ (statement_sorted s in_loop at st h) (λ first f.
        next (Many in_loop) (Many in_loop) (statements_mean lines first.1 in_loop b) _ (statements_sorted first.1 in_loop b f.there) (λ others g.
        record { is = (f.is, g.is); there = g.there }))

    else_sorted : (s : Scope) (in_loop : Bool) (e : ElseTree) → AllThere (lists_of file) s → Has (Many in_loop) (else_means lines s in_loop e)
    else_sorted s in_loop NoElse h = record { is = tt; there = h }
    else_sorted s in_loop (ElseBlock b) h = statements_sorted s in_loop b h

    choices_sorted : (s : Scope) (in_loop : Bool) (os : OrTree) → AllThere (lists_of file) s → Has (Choices in_loop) (or_means lines s in_loop os)
    choices_sorted s in_loop NoOr h = record { is = tt; there = h }
    choices_sorted s in_loop (OrBlock b os) h = next (Many in_loop) (Choices in_loop) (statements_mean lines s in_loop b) _ (statements_sorted s in_loop b h) (λ x f.
        next (Choices in_loop) (Choices in_loop) (or_means lines x.1 in_loop os) _ (choices_sorted x.1 in_loop os f.there) (λ y g.
        record { is = (f.is, g.is); there = g.there }))

-- ---- locals

abbrev is_other : Local → Bool
is_other l = not (is_parameter l)

abbrev is_bad : Local → Bool
is_bad l = is_parameter l && is_pointer l

-- parameters alone were declared
record Heads (s t : Scope) : Type 0 where
  all : filter is_parameter t.locals ≡ t.locals
  others : filter is_other t.locals ≡ []
  data_alone : list_any is_bad t.locals ≡ false
  labels : t.labels ≡ s.labels

-- parameters were declared before other locals
pub record Headed (s t : Scope) : Type 0 where
  pub parameters : ParametersAreFirst t.locals
  pub labels : t.labels ≡ s.labels

-- one more local is the last
abbrev AddsLocal : Scope → Bool → Bool → Scope → Type 0
AddsLocal s p q t = (n : ℕ) × (t.locals ≡ s.locals ++ record { name = n; pointer = p; param = q } ∷ []) × (t.labels ≡ s.labels)

adds : (s : Scope) (x : ℕ × Scope) (p q : Bool) → Kept s x → AddsLocal s p q (with_local x.1 x.0 p q)
adds s x p q k = (x.0, ap (λ ls. ls ++ record { name = x.0; pointer = p; param = q } ∷ []) k.locals, k.labels)

local_adds : (s : Scope) (name : Placed Text) (p : Bool) → Has (AddsLocal s p false) (declared_local s name p)
unfolding declared_local
local_adds s name p = unless (AddsLocal s p false) (length s.locals == most_locals) _ (local_number (place_of name.value s.names.names) s name >>= λ x. Ok (with_local x.1 x.0 p false)) (λ few.
    next (Kept s) (AddsLocal s p false) (local_number (place_of name.value s.names.names) s name) _ (number_keeps (place_of name.value s.names.names) s name) (λ x k. adds s x p false k))

parameter_adds : (s : Scope) (name : Placed Text) → Has (AddsLocal s false true) (declared_parameter s name)
unfolding declared_parameter
parameter_adds s name = next (Kept s) (AddsLocal s false true) (local_number (place_of name.value s.names.names) s name) _ (number_keeps (place_of name.value s.names.names) s name) (λ x k.
    unless (AddsLocal s false true) (length s.locals == most_locals) _ (Ok (with_local x.1 x.0 false true)) (λ few. adds s x false true k))

heads_on : (s t u : Scope) → Heads s t → AddsLocal t false true u → Heads s u
heads_on s t u h a =
    let l : Local = record { name = a.0; pointer = false; param = true } in
    record {
      all = rw (a.1, filter-append is_parameter t.locals (l ∷ [])) (ap (λ ls. ls ++ l ∷ []) h.all);
      others = rw (a.1, filter-append is_other t.locals (l ∷ [])) (append-nil (filter is_other t.locals) ∙ h.others);
      data_alone = rw (a.1, list_any-append is_bad t.locals (l ∷ [])) (ap (λ b. b || false) h.data_alone);
      labels = a.2 ∙ h.labels;
    }

headed_on : (s t u : Scope) (p : Bool) → Headed s t → AddsLocal t p false u → Headed s u
headed_on s t u p h a =
    let l : Local = record { name = a.0; pointer = p; param = false } in
    record {
      parameters = record {
        first = rw (a.1, filter-append is_parameter t.locals (l ∷ []), filter-append is_other t.locals (l ∷ []))
            (ap (λ ls. ls ++ l ∷ []) h.parameters.first
            ∙ append_assoc (filter is_parameter t.locals) (filter is_other t.locals) (l ∷ [])
            ∙ ap (λ ls. ls ++ (filter is_other t.locals ++ l ∷ [])) (sym (append-nil (filter is_parameter t.locals))));
        data_alone = rw (a.1, list_any-append is_bad t.locals (l ∷ [])) (ap (λ b. b || false) h.parameters.data_alone);
      };
      labels = a.2 ∙ h.labels;
    }

headed : (s t : Scope) → Heads s t → Headed s t
headed s t h = record {
  parameters = record { first = sym (ap (λ ls. ls ++ filter is_other t.locals) h.all ∙ ap (λ ls. t.locals ++ ls) h.others ∙ append-nil t.locals); data_alone = h.data_alone };
  labels = h.labels;
}

parameters_head : (s t : Scope) (names : List (Placed Text)) → Heads s t → Has (Heads s) (in_turn declared_parameter t names)
parameters_head s = turns (Heads s) declared_parameter (λ t n h.
    weaker (AddsLocal t false true) (Heads s) (declared_parameter t n) (λ u a. heads_on s t u h a) (parameter_adds t n))

local_headed : (s t : Scope) (l : FieldTree) → Headed s t → Has (Headed s) (local_means t l)
local_headed s t (PointerFieldTree name) h = weaker (AddsLocal t true false) (Headed s) (declared_local t name true) (λ u a. headed_on s t u true h a) (local_adds t name true)
local_headed s t (DataFieldTree name) h = weaker (AddsLocal t false false) (Headed s) (declared_local t name false) (λ u a. headed_on s t u false h a) (local_adds t name false)

locals_headed : (s t : Scope) (ls : List FieldTree) → Headed s t → Has (Headed s) (in_turn local_means t ls)
locals_headed s = turns (Headed s) local_means (local_headed s)

-- ---- operations, whatever else the file has

-- files with these lists
abbrev pub With : Lists → Type 0
With d = (file : File) × (lists_of file ≡ d)

both : {A : Type 0} (P Q : A → Type 0) (r : Result A ParseFault) → Has P r → Has Q r → Has (λ x. P x × Q x) r
both P Q (Ok x) h k = (h, k)
both P Q (Err e) h k = tt

pub there_with : (d : Lists) (s : Scope) (w : With d) → AllThere d s → AllThere (lists_of w.0) s
there_with d s w h = subst (λ e. AllThere e s) (sym w.1) h

module _ (d : Lists) where
  -- the operation in each file with the lists
  abbrev pub OpSorted : Op → Type 0
  OpSorted o = (w : With d) → OpIsWellSorted w.0 o

  -- after these operations
  pub record AfterOps (ops : List Op) (s : Scope) : Type 0 where
    pub there : AllThere d s
    pub locals : s.locals ≡ []
    pub numbered : Numbered 0 (length s.labels) (concat (labels_by_op ops))

  abbrev pub OneOp : List Op → Op × Scope → Type 0
  OneOp = OneOn OpSorted AfterOps

  -- its statements in each file, and what is after them
  record Body (from : Scope) (r : Statements × Scope) : Type 0 where
    sorted : (w : With d) → StatementsAreWellSorted w.0 false r.0
    there : AllThere d r.1
    numbered : LabelsRead block_labels from r

  body_sorted : (lines : List ℕ) (s : Scope) (b : BlockTree) → AllThere d s → Has (Body s) (statements_mean lines s false b)
  body_sorted lines s b h = at_once (statements_mean lines s false b)
      (λ w. statements_sorted lines w.0 s false b (there_with d s w h))
      (statements_fit (AllThere d) (label_there d) lines s false b h)
      (many_numbered lines s false b)
    where
      at_once : (r : Result (Statements × Scope) ParseFault) → ((w : With d) → Has (StatementRead w.0 (StatementsAreWellSorted w.0 false)) r) → Has (Fitting (AllThere d) StatementsFit) r → Has (LabelsRead block_labels s) r → Has (Body s) r
      at_once (Ok x) a c e = record { sorted = λ w. (a w).is; there = c.state; numbered = e }
      at_once (Err f) a c e = tt

  no_locals : (t : Scope) → t.locals ≡ [] → Heads t t
  no_locals t e = record { all = rw e refl; others = rw e refl; data_alone = rw e refl; labels = refl }

  -- the locals that were declared, and what names stand for after them
  record LocalsRead (from to : Scope) : Type 0 where
    headed : Headed from to
    there : AllThere d to

  locals_read : (s : Scope) (ps : List (Placed Text)) (ls : List FieldTree) → AllThere d s → s.locals ≡ []
      → Has (LocalsRead s) (in_turn declared_parameter s ps >>= λ p. in_turn local_means p ls)
  locals_read s ps ls h none =
      next (λ p. Heads s p × Bound (IsThere d) p) (LocalsRead s) (in_turn declared_parameter s ps) _
      (both (Heads s) (Bound (IsThere d)) (in_turn declared_parameter s ps) (parameters_head s s ps (no_locals s none)) (parameters_bound (IsThere d) tt s ps h)) (λ p k.
      at_once (in_turn local_means p ls) (locals_headed s p ls (headed s p k.0)) (locals_bound (IsThere d) tt p ls k.1))
    where
      at_once : (r : Result Scope ParseFault) → Has (Headed s) r → Has (Bound (IsThere d)) r → Has (LocalsRead s) r
      at_once (Ok x) a b = record { headed = a; there = b }
      at_once (Err e) a b = tt

  joins : {A B C : Type 0} (P : C → Type 0) (r : Result A ParseFault) (f : A → Result B ParseFault) (g : B → Result C ParseFault) → Has P ((r >>= f) >>= g) → Has P (r >>= λ x. f x >>= g)
  joins P (Ok x) f g h = h
  joins P (Err e) f g h = tt

  pub op_sorted : (lines : List ℕ) (ops : List Op) (s : Scope) (n : ℕ) (o : Placed OpTree) → AfterOps ops s → Has (OneOp ops) (placed_op_means lines s n o)
  op_sorted lines ops s n o h = on_line (line_at lines o.at) o.value
    where
      on_line : (line : ℕ) (o : OpTree) → Has (OneOp ops) (op_means lines line s n o)
      on_line line (Operates name ps ls b) = unless (OneOp ops) (n == most limits.Ops) _ _ (λ few.
          next (Named s Taken) (OneOp ops) (declared s name Taken) _ (named s name Taken) (λ t k.
          joins (OneOp ops) (in_turn declared_parameter t ps) _ _ (
          next (LocalsRead t) (OneOp ops) (in_turn declared_parameter t ps >>= λ p. in_turn local_means p ls) _ (locals_read t ps ls (k.there d tt h.there) (k.keeps.locals ∙ h.locals)) (λ l read.
          next (Body l) (OneOp ops) (statements_mean lines l false b) _ (body_sorted lines l b read.there) (λ body f.
          let same : length l.labels ≡ length s.labels = ap length (read.headed.labels ∙ k.keeps.labels) in
          let here : Numbered (length s.labels) (length body.1.labels) (block_labels body.0) = subst (λ m. Numbered m (length body.1.labels) (block_labels body.0)) same f.numbered in
          let o : Op = record { name = length s.names.names; locals = l.locals; body = body.0; line = line } in
          record {
            is = λ w. record { parameters = read.headed.parameters; body = f.sorted w };
            state = record { there = f.there; locals = refl; numbered = subst (Numbered 0 (length body.1.labels)) (sym (labels_push ops o)) (joined h.numbered here) };
          })))))
