-- A file with a meaning passes no limit, and names what is there.
use Rattle.std.proofs.Common.{◌≡◌, ◌==◌, ℕ, ◌+◌, ◌≤◌, ◌<◌, Bool, true, false, ◌&&◌, ◌||◌, Option, Some, None, Result}
use Rattle.std.proofs.Common.{Ok, Err, List, [], ◌∷◌, ◌++◌, length, slice_get, refl, ◌∙◌, ap, arith}
use Rattle.std.proofs.lemmas.Bool.{eqb-false}
use Rattle.std.proofs.lemmas.List.{length-append}
use Rattle.plc_base.specs.Limits.{most}
use Rattle.plc_base.specs.declared.limits.What1.{What1}
use Rattle.plc_base.specs.declared.limits.What1.TheVariants as limits
use Rattle.plc_base.specs.Names.{place_of}
use Rattle.plc_lang.specs.Fit.{OpFits, FileFits, StatementFits, StatementsFit, BlocksFit}
use Rattle.plc_lang.specs.declared.syntax.Primitive.{Primitive}
use Rattle.plc_lang.specs.declared.syntax.Ghost.{Ghost}
use Rattle.plc_lang.specs.declared.syntax.Local.{Local}
use Rattle.plc_lang.specs.Allocation.{is_new}
use Rattle.plc_syntax.specs.Trees.{Text, Placed, FieldTree, PointerField, DataField, FunctionTree, Declares, GhostTree}
use Rattle.plc_syntax.specs.Trees.{Auxiliary, OneOf, OfThreads, InitialTree, BlockTree, OpTree, Operates, FileTree}
use Rattle.plc_scope.specs.declared.fault.ParseFault.{ParseFault}
use Rattle.plc_scope.specs.declared.fault.ParseFault.TheVariants as faults
use Rattle.plc_scope.specs.declared.scope.Scope.{Scope}
use Rattle.plc_scope.specs.declared.binding.Binding.{Binding}
use Rattle.plc_scope.specs.declared.binding.Binding.TheVariants.{Taken, Value}
use Rattle.plc_scope.specs.Scope.{◌>>=◌, most_locals, if_new, first_scope, with_name, with_label, declared}
use Rattle.plc_scope.specs.Scope.{declared_label, has_local, may_name_local, local_number, with_local, declared_local}
use Rattle.plc_scope.specs.Scope.{declared_parameter}
use Rattle.plc_scope.specs.Primitives.{primitive_means, initial_means, condition_means, call_means}
use Rattle.plc_parse.specs.declared.unit.Unit.{Unit as FileUnit}
use Rattle.plc_scope.specs.Limits.{stands_at}
use Rattle.plc_outparse.specs.Meaning.{in_turn}
use Rattle.plc_parse.specs.Meaning.{counted, count_of, before, allocates, forms_mean, atomic_means, one_or_skip}
use Rattle.plc_parse.specs.Meaning.{label_means, statements_mean, field_means, shared_means, function_means}
use Rattle.plc_parse.specs.Meaning.{value_means, ghost_means, listed, watch_means, init_means, local_means, op_means}
use Rattle.plc_parse.specs.Meaning.{placed_op_means, line_at, outlined_means, file_means}
use Rattle.plc_scope.proofs.Holds.{Has, has_along, weaker, next, any, unless, if_ok, both_err, below}
use Rattle.plc_parse.proofs.Holds.{OneHas, EachHas, one_name, each_has, turns, Free}
use Rattle.plc_parse.proofs.Upward.{Facts, GoesUp, PartsHave, PrimitiveHas, AtomicHas, CallHas, LabelRead, Read}
use Rattle.plc_parse.proofs.Upward.{all_have, statements_read}

-- ---- between declarations

-- no local is in reach, and there are few labels
record Between (s : Scope) : Type 0 where
  locals : s.locals ≡ []
  labels : length s.labels ≤ most limits.Labels

declared_between : (s : Scope) (name : Placed Text) (b : Binding) → Between s → Has Between (declared s name b)
declared_between s name b h = new (place_of name.value s.names.names)
  where
    new : (o : Option ℕ) → Has Between (if_new o name.at (with_name s name.value b))
    new None = record { locals = h.locals; labels = h.labels }
    new (Some i) = tt

-- within a limit
record Room (what : What1) (n : ℕ) (s : Scope) : Type 0 where
  count : n ≤ most what
  between : Between s

room_for : (what : What1) (n : ℕ) (s : Scope) (name : Placed Text) (b : Binding) → Room what n s → (n == most what) ≡ false → Has (Room what (n + 1)) (declared s name b)
room_for what n s name b h few = weaker Between (Room what (n + 1)) (declared s name b) (λ t k. record { count = omega (arith, h.count, eqb-false n (most what) few); between = k }) (declared_between s name b h.between)

-- nothing was declared of a kind
room : {what : What1} {s : Scope} → Between s → Room what 0 s
room h = record { count = omega arith; between = h }

field_fits : (s : Scope) (n : ℕ) (f : FieldTree) → Room limits.Fields n s → Has (OneHas Free (Room limits.Fields) n) (field_means s n f)
field_fits s n (PointerField name) h = one_name Free (Room limits.Fields) n limits.Fields s name _ _ tt (room_for limits.Fields n s name _ h)
field_fits s n (DataField name) h = one_name Free (Room limits.Fields) n limits.Fields s name _ _ tt (room_for limits.Fields n s name _ h)

pointer_fits : (s : Scope) (n : ℕ) (name : Placed Text) → Room limits.Shared n s → Has (OneHas Free (Room limits.Shared) n) (shared_means s n name)
pointer_fits s n name h = one_name Free (Room limits.Shared) n limits.Shared s name _ _ tt (room_for limits.Shared n s name _ h)

function_fits : (s : Scope) (n : ℕ) (f : FunctionTree) → Room limits.Calls n s → Has (OneHas Free (Room limits.Calls) n) (function_means s n f)
function_fits s n (Declares name p) h = one_name Free (Room limits.Calls) n limits.Calls s name _ _ tt (room_for limits.Calls n s name _ h)

-- ---- auxiliary fields

record ValueFits (n : ℕ) (r : ℕ × Scope) : Type 0 where
  before : n < most limits.Values
  between : Between r.1

record ValuesFit (n : ℕ) (r : List ℕ × Scope) : Type 0 where
  count : n + length r.0 ≤ most limits.Values
  between : Between r.1

value_fits : (s : Scope) (g n : ℕ) (name : Placed Text) → n ≤ most limits.Values → Between s → Has (ValueFits n) (value_means g s n name)
value_fits s g n name le h = next Between (ValueFits n) (declared s name (Value g n)) _ (declared_between s name (Value g n) h) (λ t k. below (ValueFits n) n (most limits.Values) _ _ le (λ less. record { before = less; between = k }))

values_fit : (s : Scope) (g n : ℕ) (names : List (Placed Text)) → n ≤ most limits.Values → Between s → Has (ValuesFit n) (listed (value_means g) s n names)
values_fit s g n [] le h = record { count = omega arith; between = h }
values_fit s g n (name ∷ names) le h = next (ValueFits n) (ValuesFit n) (value_means g s n name) _ (value_fits s g n name le h) (λ first f.
    next (ValuesFit (n + 1)) (ValuesFit n) (listed (value_means g) first.1 (n + 1) names) _ (values_fit first.1 g (n + 1) names (omega (arith, f.before)) f.between) (λ others k.
    record { count = omega (arith, k.count); between = k.between }))

abbrev GhostFits : Ghost → Type 0
GhostFits g = length g.values ≤ most limits.Values

ghost_fits : (s : Scope) (n : ℕ) (g : GhostTree) → Room limits.Ghosts n s → Has (OneHas GhostFits (Room limits.Ghosts) n) (ghost_means s n g)
ghost_fits s n (Auxiliary name OfThreads) h = one_name GhostFits (Room limits.Ghosts) n limits.Ghosts s name _ _ (omega arith) (room_for limits.Ghosts n s name _ h)
ghost_fits s n (Auxiliary name (OneOf v vs)) h = unless (OneHas GhostFits (Room limits.Ghosts) n) (n == most limits.Ghosts) _ _ (λ few.
    next (Room limits.Ghosts (n + 1)) (OneHas GhostFits (Room limits.Ghosts) n) (declared s name _) _ (room_for limits.Ghosts n s name _ h few) (λ t k.
    next (ValuesFit 0) (OneHas GhostFits (Room limits.Ghosts) n) (listed (value_means n) t 0 (v ∷ vs)) _ (values_fit t n 0 (v ∷ vs) (omega arith) k.between) (λ values m.
    record { is = omega (arith, m.count); state = record { count = k.count; between = m.between } })))

-- ---- primitives of one step

abbrev Fewer : ℕ → Option Primitive → Type 0
Fewer n k = n + count_of k ≤ most limits.Prims

counted_fits : (n : ℕ) (has_new : Bool) (at : ℕ) (m : Result (Option Primitive) ParseFault) → n ≤ most limits.Prims → Has (Fewer n) (counted n has_new at m)
counted_fits n has_new at (Ok None) le = omega arith
counted_fits n has_new at (Ok (Some k)) le = below (Fewer n) n (most limits.Prims) _ _ le (λ less. unless (Fewer n) (has_new && is_new k) _ (Ok (Some k)) (λ one. omega arith))
counted_fits n has_new at (Err e) le = both_err (Fewer n) (stands_at at e) (n == most limits.Prims) e _ e

abbrev FormsFit : ℕ → List Primitive → Type 0
FormsFit n ks = n + length ks ≤ most limits.Prims

more_fits : (n : ℕ) (k : Option Primitive) (ks : List Primitive) → n + count_of k + length ks ≤ most limits.Prims → n + length (before k ks) ≤ most limits.Prims
more_fits n None ks h = omega arith
more_fits n (Some k) ks h = omega arith

forms_fit : {X : Type 0} (means : X → Result (Option Primitive) ParseFault) (n : ℕ) (has_new : Bool) (xs : List (Placed X)) → n ≤ most limits.Prims → Has (FormsFit n) (forms_mean means n has_new xs)
forms_fit means n has_new [] le = omega arith
forms_fit means n has_new (x ∷ xs) le = next (Fewer n) (FormsFit n) (counted n has_new x.at (means x.value)) _ (counted_fits n has_new x.at (means x.value) le) (λ k f.
    next (FormsFit (n + count_of k)) (FormsFit n) (forms_mean means (n + count_of k) (has_new || allocates k) xs) _ (forms_fit means (n + count_of k) (has_new || allocates k) xs f) (λ others m.
    more_fits n k others m))

-- ---- statements

abbrev FewLabels : Scope → Type 0
FewLabels s = length s.labels ≤ most limits.Labels

label_fits : (s : Scope) (n : Placed Text) → FewLabels s → Has (LabelRead FewLabels) (label_means s n)
label_fits s n h = below (LabelRead FewLabels) (length s.labels) (most limits.Labels) _ _ h (λ less. next FewLabels (LabelRead FewLabels) (declared_label s n) _ (new (place_of n.value s.names.names) less) (λ t k. k))
  where
    new : (o : Option ℕ) → length s.labels < most limits.Labels → Has FewLabels (if_new o n.at (with_name s n.value Taken) >>= λ t. Ok (with_label t (length s.names.names)))
    new None less = omega (arith, length-append s.labels (length s.names.names ∷ []))
    new (Some i) less = tt

one_fits : (k : Option Primitive) → StatementFits (one_or_skip k)
one_fits None = tt
one_fits (Some k) = tt

-- within the limits
abbrev Limits : Facts
Limits = record { Condition = Free; One = StatementFits; Many = StatementsFit; Several = BlocksFit }

limits_go_up : GoesUp Limits
limits_go_up = record {
  of_if = λ k a b free yes no. (yes, no);
  of_choice = λ bs h. h;
  of_loop = λ b h. h;
  leaves = record { of_break = tt; of_return = tt; of_label = λ l. tt; of_empty = tt; of_none = tt };
  of_more = λ line st b h others. (h, others);
  of_further = λ b bs h others. (h, others);
}

-- statements leave in a scope what labels leave
module _ (State : Scope → Type 0) (label_keeps : (s : Scope) (n : Placed Text) → State s → Has (LabelRead State) (label_means s n)) where
  parts_fit : PartsHave State Limits
  parts_fit = record {
    primitive = λ s p h. all_have (PrimitiveHas Limits) (primitive_means s p) one_fits;
    atomic = λ s ps h. weaker (FormsFit 0) (AtomicHas Limits) (atomic_means s ps) (λ b k. omega (arith, k)) (forms_fit (primitive_means s) 0 false ps (omega arith));
    call = λ s n a h. all_have (CallHas Limits) (call_means s n a) (λ c l. tt);
    condition = λ s c h. all_have Free (condition_means s c) (λ k. tt);
    label = label_keeps;
  }

  pub statements_fit : (lines : List ℕ) (s : Scope) (in_loop : Bool) (b : BlockTree) → State s → Has (Read State StatementsFit) (statements_mean lines s in_loop b)
  statements_fit lines s in_loop b h = statements_read State Limits limits_go_up parts_fit lines s in_loop b h

-- ---- locals

pub record Few (s t : Scope) : Type 0 where
  pub locals : length t.locals ≤ most_locals
  pub labels : t.labels ≡ s.labels

pub record Kept (s : Scope) (x : ℕ × Scope) : Type 0 where
  pub locals : x.1.locals ≡ s.locals
  pub labels : x.1.labels ≡ s.labels

pub number_keeps : (o : Option ℕ) (s : Scope) (name : Placed Text) → Has (Kept s) (local_number o s name)
number_keeps None s name = record { locals = refl; labels = refl }
number_keeps (Some i) s name = if_ok (Kept s) (may_name_local (slice_get s.bindings i) (has_local s.locals i)) (i, s) (faults.Duplicate name.at) (record { locals = refl; labels = refl })

one_more : (s : Scope) (x : ℕ × Scope) (p q : Bool) → Kept s x → length s.locals < most_locals → Few s (with_local x.1 x.0 p q)
one_more s x p q k h =
    let l : Local = record { name = x.0; pointer = p; param = q } in
    let count : length (x.1.locals ++ l ∷ []) ≡ length x.1.locals + 1 = length-append x.1.locals (l ∷ []) in
    let same : length x.1.locals ≡ length s.locals = ap length k.locals in
    record { locals = omega arith; labels = k.labels }

pub local_few : (s : Scope) (name : Placed Text) (p : Bool) → length s.locals ≤ most_locals → Has (Few s) (declared_local s name p)
unfolding declared_local
local_few s name p h =
    below (Few s) (length s.locals) most_locals _ _ h (λ less.
    next (Kept s) (Few s) (local_number (place_of name.value s.names.names) s name) _ (number_keeps (place_of name.value s.names.names) s name) (λ x k. one_more s x p false k less))

pub parameter_few : (s : Scope) (name : Placed Text) → length s.locals ≤ most_locals → Has (Few s) (declared_parameter s name)
unfolding declared_parameter
parameter_few s name h =
    next (Kept s) (Few s) (local_number (place_of name.value s.names.names) s name) _ (number_keeps (place_of name.value s.names.names) s name) (λ x k.
    below (Few s) (length s.locals) most_locals _ _ h (λ less. one_more s x false true k less))

few_then : (s t u : Scope) → Few s t → Few t u → Few s u
few_then s t u f g = record { locals = g.locals; labels = g.labels ∙ f.labels }

parameters_few : (s t : Scope) (names : List (Placed Text)) → Few s t → Has (Few s) (in_turn declared_parameter t names)
parameters_few s = turns (Few s) declared_parameter (λ t n h.
    weaker (Few t) (Few s) (declared_parameter t n) (λ u few. few_then s t u h few) (parameter_few t n h.locals))

pub one_local_few : (s : Scope) (l : FieldTree) → length s.locals ≤ most_locals → Has (Few s) (local_means s l)
one_local_few s (PointerField name) h = local_few s name true h
one_local_few s (DataField name) h = local_few s name false h

locals_few : (s t : Scope) (ls : List FieldTree) → Few s t → Has (Few s) (in_turn local_means t ls)
locals_few s = turns (Few s) local_means (λ t l h.
    weaker (Few t) (Few s) (local_means t l) (λ u few. few_then s t u h few) (one_local_few t l h.locals))

-- ---- operations

op_fits : (lines : List ℕ) (s : Scope) (n : ℕ) (o : Placed OpTree) → Room limits.Ops n s → Has (OneHas OpFits (Room limits.Ops) n) (placed_op_means lines s n o)
op_fits lines s n o h = on_line (line_at lines o.at) o.value
  where
    on_line : (line : ℕ) (o : OpTree) → Has (OneHas OpFits (Room limits.Ops) n) (op_means lines line s n o)
    on_line line (Operates name ps ls b) =
        unless (OneHas OpFits (Room limits.Ops) n) (n == most limits.Ops) _ _ (λ few.
        next (Room limits.Ops (n + 1)) (OneHas OpFits (Room limits.Ops) n) (declared s name Taken) _ (room_for limits.Ops n s name Taken h few) (λ t k.
        let count : length t.locals ≡ 0 = ap length k.between.locals in
        next (Few t) (OneHas OpFits (Room limits.Ops) n) (in_turn declared_parameter t ps) _ (parameters_few t t ps (record { locals = omega arith; labels = refl })) (λ p kept.
        next (Few t) (OneHas OpFits (Room limits.Ops) n) (in_turn local_means p ls) _ (locals_few t p ls kept) (λ l fewer.
        let same : length l.labels ≡ length t.labels = ap length fewer.labels in
        next (Read FewLabels StatementsFit) (OneHas OpFits (Room limits.Ops) n) (statements_mean lines l false b) _ (statements_fit FewLabels label_fits lines l false b (omega (arith, k.between.labels))) (λ body f.
        record { is = record { locals = fewer.locals; body = f.is }; state = record { count = k.count; between = record { locals = refl; labels = f.state } } })))))

-- ---- the file

-- within the limits
abbrev Fits : FileUnit → Type 0
Fits u = FileFits u.file

init_fits : (s : Scope) (starts : Option (List (Placed InitialTree))) → Has (FormsFit 0) (init_means s starts)
init_fits s None = omega arith
init_fits s (Some is) = forms_fit (initial_means s) 0 false is (omega arith)

unit_fits : (lines : List ℕ) (f : FileTree) → Has Fits (file_means lines f)
unfolding file_means
unit_fits lines f =
    next Between Fits (declared first_scope f.name Taken) _ (declared_between first_scope f.name Taken (record { locals = refl; labels = omega arith })) (λ s none.
    next (EachHas Free (Room limits.Fields) 0) Fits (listed field_means s 0 f.fields) _ (each_has field_means Free (Room limits.Fields) field_fits s 0 f.fields (room none)) (λ fields a.
    next (EachHas Free (Room limits.Shared) 0) Fits (listed shared_means fields.1 0 f.pointers) _ (each_has shared_means Free (Room limits.Shared) pointer_fits fields.1 0 f.pointers (room a.state.between)) (λ pointers b.
    next (EachHas Free (Room limits.Calls) 0) Fits (listed function_means pointers.1 0 f.functions) _ (each_has function_means Free (Room limits.Calls) function_fits pointers.1 0 f.functions (room b.state.between)) (λ functions c.
    any Fits (watch_means functions.1 f.watched) _ (λ observer.
    next (EachHas GhostFits (Room limits.Ghosts) 0) Fits (listed ghost_means functions.1 0 f.ghosts) _ (each_has ghost_means GhostFits (Room limits.Ghosts) ghost_fits functions.1 0 f.ghosts (room c.state.between)) (λ ghosts d.
    next (FormsFit 0) Fits (init_means ghosts.1 f.starts) _ (init_fits ghosts.1 f.starts) (λ starts i.
    next (EachHas OpFits (Room limits.Ops) 0) Fits (listed (placed_op_means lines) ghosts.1 0 f.ops) _ (each_has (placed_op_means lines) OpFits (Room limits.Ops) (op_fits lines) ghosts.1 0 f.ops (room d.state.between)) (λ ops m.
    any Fits (outlined_means ops.1 ops.0 f.outlined) _ (λ outline.
    record {
      fields = omega (arith, a.state.count);
      shared = omega (arith, b.state.count);
      funcs = omega (arith, c.state.count);
      ghosts = omega (arith, d.state.count);
      values = d.each;
      init = omega (arith, i);
      ops = omega (arith, m.state.count);
      each_op = m.each;
      labels = m.state.between.labels;
    })))))))))

pub file_fits : (lines : List ℕ) (f : FileTree) (u : FileUnit) → file_means lines f ≡ Ok u → FileFits u.file
file_fits lines f u e = has_along Fits (file_means lines f) u e (unit_fits lines f)
