-- What takes a primitive back leads to the state in which it was taken, and so do several, the last first.
use Rattle.std.proofs.Common.{◌≡◌, ℕ, zero, suc, ◌-◌, ◌<◌, Bool, true, false, ◌==◌, cond, List, [], ◌∷◌, ◌++◌, Option, Some, None, length, take, get_or, refl, sym, ap, ◌∙◌, subst, arith, inl, inr, length-append}
use Rattle.std.proofs.lemmas.Bool.{cases_Bool, eq-eqb}
use Rattle.plc_base.specs.declared.ids.FieldId.{FieldId}
use Rattle.plc_base.specs.Functions.{is_retire}
use Rattle.plc_base.specs.Tables.{put_at}
use Rattle.plc_base.proofs.Tables.{put_put, get-put_same}
use Rattle.plc_auto.specs.declared.event.Event.{Event}
use Rattle.plc_lang.specs.declared.syntax.Var.{Var}
use Rattle.plc_lang.specs.declared.syntax.Var.TheVariants as vars
use Rattle.plc_lang.specs.declared.syntax.Arg.{Arg}
use Rattle.plc_lang.specs.declared.syntax.Arg.TheVariants as args
use Rattle.plc_lang.specs.declared.syntax.Primitive.{Primitive}
use Rattle.plc_lang.specs.declared.syntax.Primitive.TheVariants.{Null, Copy, New, Load, Store, StoreNull, DataSet, DataLoad, DataStore, Eq, Ne, IsNull, NotNull, DataTest, Refresh, RefreshLoad, RefreshStore, Call, Done, Active, Ghost}
use Rattle.plc_lang.specs.declared.syntax.Primitive.TheVariants.{Mark, Unmark, MarkTest}
use Rattle.plc_lang.specs.Shape.{Shape, VarIn, PrimitiveIn}
use Rattle.plc_mem.specs.declared.cell.Cell.{Cell}
use Rattle.plc_mem.specs.declared.cell.Outcome.TheVariants.{Next}
use Rattle.plc_mem.specs.declared.undo.Undo.{Undo}
use Rattle.plc_mem.specs.State.{State, Node, Locals, at_shared, at_local, at_field, null_cell, fresh_cell, node_of, put_node, locals_of, with_locals, at, put, value_at, put_value, field_value, put_field_value, place, with_node, with_retired, fresh_node}
use Rattle.plc_mem.specs.Primitives.{cell_at, after, after_call}
use Rattle.plc_mem.specs.Outcomes.{outcome_of, next_of}
use Rattle.plc_mem.specs.Fit.{NodesFit, shape, Kept}
use Rattle.plc_mem.specs.Undoing.{undo_of, undo_of_store, undo_of_call, without_last_node, without_last_retired, undone, all_undone, UndoFits, UndosFit, TakesBack}
use Rattle.plc_mem.proofs.Nodes.{has_node, address-node_of, node-put_same, put-absent}
use Rattle.plc_mem.proofs.Views.{locals-with_same}
use Rattle.plc_mem.proofs.Joined.{with_with, join_node, kept-then}
use Rattle.plc_mem.proofs.Outcomes.{has_gone}

-- ---- tables and lists

put_own : {A : Type 0} (d : A) (xs : List A) (i : ℕ) → i < length xs → put_at d xs i (get_or xs i d) ≡ xs
put_own d [] i h = absurd (omega arith)
put_own d (x ∷ xs) zero h = refl
put_own d (x ∷ xs) (suc i) h = ap (λ ys. x ∷ ys) (put_own d xs i (omega arith))

put_back : {A : Type 0} (d : A) (xs : List A) (i : ℕ) (v : A) → i < length xs → put_at d (put_at d xs i v) i (get_or xs i d) ≡ xs
put_back d xs i v h = put_put d xs i v (get_or xs i d) ∙ put_own d xs i h

take_all : {A : Type 0} (xs ys : List A) → take (length xs) (xs ++ ys) ≡ xs
take_all [] ys = refl
take_all (x ∷ xs) ys = ap (λ zs. x ∷ zs) (take_all xs ys)

without_last : {A : Type 0} (xs : List A) (x : A) → take (length (xs ++ x ∷ []) - 1) (xs ++ x ∷ []) ≡ xs
without_last xs x =
    let n : length (xs ++ x ∷ []) - 1 ≡ length xs = omega (arith, length-append xs (x ∷ [])) in
    ap (λ k. take k (xs ++ x ∷ [])) n ∙ take_all xs (x ∷ [])

-- ---- the node of an address

put_twice : (ns : List Node) (a : ℕ) (m n : Node) → m.address ≡ a → put_node (put_node ns a m) a n ≡ put_node ns a n
put_twice [] a m n same = refl
put_twice (x ∷ ns) a m n same = go (put_twice ns a m n same) (x.address == a) refl
  where
    go : (put_node (put_node ns a m) a n ≡ put_node ns a n) → (b : Bool) → (x.address == a) ≡ b → put_node (cond (x.address == a) (m ∷ ns) (x ∷ put_node ns a m)) a n ≡ cond (x.address == a) (n ∷ ns) (x ∷ put_node ns a n)
    go rest true e = rw e (rw (eq-eqb m.address a same) refl)
    go rest false e = rw e (rw e (ap (λ zs. x ∷ zs) rest))

put_own_node : (ns : List Node) (a : ℕ) → put_node ns a (node_of ns a) ≡ ns
put_own_node [] a = refl
put_own_node (n ∷ ns) a = go (put_own_node ns a) (n.address == a)
  where
    go : (put_node ns a (node_of ns a) ≡ ns) → (b : Bool) → cond b (cond b n (node_of ns a) ∷ ns) (n ∷ put_node ns a (cond b n (node_of ns a))) ≡ n ∷ ns
    go rest true = refl
    go rest false = ap (λ zs. n ∷ zs) rest

node_fits : (k : ℕ) (ns : List Node) (a : ℕ) → NodesFit k ns → has_node ns a ≡ true → (length (node_of ns a).cells ≡ k) × (length (node_of ns a).values ≡ k)
node_fits k [] a fit h = cc
node_fits k (n ∷ ns) a fit h = go (node_fits k ns a fit.2) (n.address == a) refl
  where
    go : (has_node ns a ≡ true → (length (node_of ns a).cells ≡ k) × (length (node_of ns a).values ≡ k)) → (b : Bool) → (n.address == a) ≡ b → (length (cond (n.address == a) n (node_of ns a)).cells ≡ k) × (length (cond (n.address == a) n (node_of ns a)).values ≡ k)
    go rest true e = rw e (fit.0, fit.1)
    go rest false e = rw e (rest (rw e at h))

-- one list of the node is written and written back
node_back : {A : Type 0} (d : A) (part : Node → List A) (with_part : Node → List A → Node) (ns : List Node) (a f : ℕ) (v : A)
    → ((n : Node) (xs : List A) → (with_part n xs).address ≡ n.address) → ((n : Node) (xs : List A) → part (with_part n xs) ≡ xs) → ((n : Node) (xs ys : List A) → with_part (with_part n xs) ys ≡ with_part n ys) → ((n : Node) → with_part n (part n) ≡ n)
    → (has_node ns a ≡ true → f < length (part (node_of ns a)))
    → (let new = put_node ns a (with_part (node_of ns a) (put_at d (part (node_of ns a)) f v)) in put_node new a (with_part (node_of new a) (put_at d (part (node_of new a)) f (get_or (part (node_of ns a)) f d))) ≡ ns)
node_back d part with_part ns a f v address read write own small = elim (cases_Bool (has_node ns a)) [
  | inl there ↦ (
      let n = node_of ns a in
      let m = with_part n (put_at d (part n) f v) in
      let same : m.address ≡ a = address n _ ∙ address-node_of ns a in
      let at_m : node_of (put_node ns a m) a ≡ m = node-put_same ns a m same there in
      let was = get_or (part n) f d in
      ap (λ (x : Node). put_node (put_node ns a m) a (with_part x (put_at d (part x) f was))) at_m
      ∙ ap (λ xs. put_node (put_node ns a m) a (with_part m (put_at d xs f was))) (read n _)
      ∙ ap (λ x. put_node (put_node ns a m) a x) (write n _ _)
      ∙ ap (λ xs. put_node (put_node ns a m) a (with_part n xs)) (put_back d (part n) f v (small there))
      ∙ ap (λ x. put_node (put_node ns a m) a x) (own n)
      ∙ put_twice ns a m n same
      ∙ put_own_node ns a
      )
  | inr absent ↦ (
      let gone : (m : Node) → put_node ns a m ≡ ns = λ m. put-absent ns a m absent in
      ap (λ (new : List Node). put_node new a (with_part (node_of new a) (put_at d (part (node_of new a)) f (get_or (part (node_of ns a)) f d)))) (gone _) ∙ gone _
      )
]

-- ---- places

-- the locals of thread t are put in, then others, then the first again
written_back : (s : State) (t : ℕ) (l m n : Locals) → n ≡ l → with_locals (with_locals (with_locals s t (Some l)) t (Some m)) t (Some n) ≡ with_locals s t (Some l)
written_back s t l m n e = with_with (with_locals s t (Some l)) t m n ∙ with_with s t l n ∙ ap (λ o. with_locals s t (Some o)) e

local_back : (s : State) (t : ℕ) (l : Locals) (v : ℕ) (c : Cell) → v < length l.pointers → put (put (with_locals s t (Some l)) (at_local t v) c) (at_local t v) (at (with_locals s t (Some l)) (at_local t v)) ≡ with_locals s t (Some l)
unfolding put at
local_back s t l v c h =
    let w = with_locals s t (Some l) in
    let mine : locals_of w t ≡ l = locals-with_same s t (Some l) in
    let m : Locals = record (locals_of w t) { pointers = put_at null_cell (locals_of w t).pointers v c } in
    let was = get_or (locals_of w t).pointers v null_cell in
    ap (λ (o : Locals). with_locals (with_locals w t (Some m)) t (Some (record o { pointers = put_at null_cell o.pointers v was }))) (locals-with_same w t (Some m))
    ∙ written_back s t l m (record m { pointers = put_at null_cell m.pointers v was })
    (ap (λ (o : Locals). let n : Locals = record o { pointers = put_at null_cell (put_at null_cell o.pointers v c) v (get_or o.pointers v null_cell) } in n) mine
    ∙ ap (λ xs. let n : Locals = record l { pointers = xs } in n) (put_back null_cell l.pointers v c h))

shared_back : (s : State) (t : ℕ) (l : Locals) (i : ℕ) (c : Cell) → i < length s.shared → put (put (with_locals s t (Some l)) (at_shared i) c) (at_shared i) (at (with_locals s t (Some l)) (at_shared i)) ≡ with_locals s t (Some l)
unfolding put at with_locals
shared_back s t l i c h = ap (λ xs. record s { shared = xs; locals = put_at None s.locals t (Some l) }) (put_back null_cell s.shared i c h)

var_back : (s : State) (t : ℕ) (l : Locals) (p : Var) (c : Cell) → VarIn (shape s l) p → put (put (with_locals s t (Some l)) (place t p) c) (place t p) (cell_at (with_locals s t (Some l)) t p) ≡ with_locals s t (Some l)
var_back s t l (vars.Shared i) c h = shared_back s t l i c h
var_back s t l (vars.Local v) c h = local_back s t l v c h

value_back : (s : State) (t : ℕ) (l : Locals) (x n : ℕ) → x < length l.values → put_value (put_value (with_locals s t (Some l)) t x n) t x (value_at (with_locals s t (Some l)) t x) ≡ with_locals s t (Some l)
unfolding put_value value_at
value_back s t l x n h =
    let w = with_locals s t (Some l) in
    let mine : locals_of w t ≡ l = locals-with_same s t (Some l) in
    let m : Locals = record (locals_of w t) { values = put_at 0 (locals_of w t).values x n } in
    let was = get_or (locals_of w t).values x 0 in
    ap (λ (o : Locals). with_locals (with_locals w t (Some m)) t (Some (record o { values = put_at 0 o.values x was }))) (locals-with_same w t (Some m))
    ∙ written_back s t l m (record m { values = put_at 0 m.values x was })
    (ap (λ (o : Locals). let r : Locals = record o { values = put_at 0 (put_at 0 o.values x n) x (get_or o.values x 0) } in r) mine
    ∙ ap (λ xs. let r : Locals = record l { values = xs } in r) (put_back 0 l.values x n h))

field_back : (s : State) (a f : ℕ) (c : Cell) → NodesFit (length s.fields) s.nodes → f < length s.fields → put (put s (at_field a f) c) (at_field a f) (at s (at_field a f)) ≡ s
unfolding put at
field_back s a f c fit h = ap (λ ns. record s { nodes = ns })
    (node_back null_cell (λ (n : Node). n.cells) (λ (n : Node) (xs : List Cell). record n { cells = xs }) s.nodes a f c (λ n xs. refl) (λ n xs. refl) (λ n xs ys. refl) (λ n. refl) (λ there. omega (arith, (node_fits (length s.fields) s.nodes a fit there).0, h)))

field_value_back : (s : State) (a f n : ℕ) → NodesFit (length s.fields) s.nodes → f < length s.fields → put_field_value (put_field_value s a f n) a f (field_value s a f) ≡ s
unfolding put_field_value field_value
field_value_back s a f n fit h = ap (λ ns. record s { nodes = ns })
    (node_back 0 (λ (n : Node). n.values) (λ (n : Node) (xs : List ℕ). record n { values = xs }) s.nodes a f n (λ n xs. refl) (λ n xs. refl) (λ n xs ys. refl) (λ n. refl) (λ there. omega (arith, (node_fits (length s.fields) s.nodes a fit there).1, h)))

-- ---- nodes and retired addresses

node_dropped : (s : State) (a : ℕ) → without_last_node (with_node s a) ≡ s
unfolding without_last_node with_node
node_dropped s a = ap (λ ns. record s { nodes = ns }) (without_last s.nodes (fresh_node (length s.fields) a))

retired_dropped : (s : State) (a : ℕ) → without_last_retired (with_retired s a) ≡ s
unfolding without_last_retired with_retired
retired_dropped s a = ap (λ xs. record s { retired = xs }) (without_last s.retired a)

-- what a variable holds is apart from the nodes
same_cell : (s : State) (t a : ℕ) (p : Var) → cell_at s t p ≡ cell_at (with_node s a) t p
unfolding at locals_of with_node
same_cell s t a (vars.Shared i) = refl
same_cell s t a (vars.Local v) = refl

node_var : (s : State) (l : Locals) (a : ℕ) (p : Var) → VarIn (shape s l) p → VarIn (shape (with_node s a) l) p
unfolding with_node
node_var s l a p h = h

made_back : (s : State) (t a : ℕ) (l : Locals) (p : Var) → VarIn (shape s l) p → (let w = with_locals s t (Some l) in without_last_node (put (put (with_node w a) (place t p) (fresh_cell a)) (place t p) (cell_at w t p)) ≡ w)
made_back s t a l p h =
    let w = with_locals s t (Some l) in
    let joined = join_node s t l a in
    ap (λ c. without_last_node (put (put (with_node w a) (place t p) (fresh_cell a)) (place t p) c)) (same_cell w t a p)
    ∙ ap (λ x. without_last_node (put (put x (place t p) (fresh_cell a)) (place t p) (cell_at x t p))) (sym joined)
    ∙ ap without_last_node (var_back (with_node s a) t l p (fresh_cell a) (node_var s l a p h) ∙ joined)
    ∙ node_dropped w a

call_back : (s : State) (t : ℕ) (b : Bool) (r : Arg) → undone (after_call s t b r) t (undo_of_call b r) ≡ s
call_back s t true (args.Var p) = retired_dropped s (cell_at s t p).number
call_back s t true args.Null = refl
call_back s t true args.None = refl
call_back s t false r = refl

-- ---- one primitive

-- the state with the acting thread's locals has the nodes and the fields of the state
joined_fit : (s : State) (t : ℕ) (l : Locals) → NodesFit (length s.fields) s.nodes → NodesFit (length (with_locals s t (Some l)).fields) (with_locals s t (Some l)).nodes
unfolding with_locals
joined_fit s t l fit = fit

joined_field : (s : State) (t : ℕ) (l : Locals) (f : ℕ) → f < length s.fields → f < length (with_locals s t (Some l)).fields
unfolding with_locals
joined_field s t l f h = h

store_back : (s : State) (t : ℕ) (l : Locals) (p : Var) (f : FieldId) (c : Cell) → NodesFit (length s.fields) s.nodes → f.0 < length s.fields
    → (let w = with_locals s t (Some l) in undone (put w (at_field (cell_at w t p).number f.0) c) t (undo_of_store w t p f) ≡ w)
store_back s t l p f c fit h = field_back (with_locals s t (Some l)) _ f.0 c (joined_fit s t l fit) (joined_field s t l f.0 h)

taken_back : (s : State) (t a : ℕ) (l : Locals) (k : Primitive) → NodesFit (length s.fields) s.nodes → PrimitiveIn (shape s l) k → (let w = with_locals s t (Some l) in undone (after w t a k) t (undo_of w t k) ≡ w)
taken_back s t a l (Null p) fit h = var_back s t l p null_cell h
taken_back s t a l (Copy p q) fit h = var_back s t l p _ h.0
taken_back s t a l (New p) fit h = made_back s t a l p h
taken_back s t a l (Load p q f) fit h = var_back s t l p _ h.0
taken_back s t a l (Store p f q) fit h = store_back s t l p f _ fit h.1
taken_back s t a l (StoreNull p f) fit h = store_back s t l p f _ fit h.1
taken_back s t a l (DataSet x e) fit h = value_back s t l x _ h.0
taken_back s t a l (DataLoad x q f) fit h = value_back s t l x _ h.0
taken_back s t a l (DataStore p f e) fit h = field_value_back (with_locals s t (Some l)) _ f.0 _ (joined_fit s t l fit) (joined_field s t l f.0 h.1)
taken_back s t a l (Eq p q) fit h = refl
taken_back s t a l (Ne p q) fit h = refl
taken_back s t a l (IsNull p) fit h = refl
taken_back s t a l (NotNull p) fit h = refl
taken_back s t a l (DataTest r x e) fit h = refl
taken_back s t a l (Refresh p q) fit h = local_back s t l p _ h.0
taken_back s t a l (RefreshLoad p q f) fit h = local_back s t l p _ h.0
taken_back s t a l (RefreshStore p f q) fit h = store_back s t l p f _ fit h.1
taken_back s t a l (Mark p q) fit h = var_back s t l p _ h.0
taken_back s t a l (Unmark p q) fit h = var_back s t l p _ h.0
taken_back s t a l (MarkTest p m) fit h = refl
taken_back s t a l (Call f r) fit h = call_back (with_locals s t (Some l)) t (is_retire f) r
taken_back s t a l (Done f) fit h = refl
taken_back s t a l (Active p) fit h = refl
taken_back s t a l (Ghost p g v) fit h = refl

call_fits : (h : Shape) (b : Bool) (r : Arg) → UndoFits h (undo_of_call b r)
call_fits h true (args.Var p) = tt
call_fits h true args.Null = tt
call_fits h true args.None = tt
call_fits h false r = tt

undo_fits : (h : Shape) (s : State) (t : ℕ) (k : Primitive) → PrimitiveIn h k → UndoFits h (undo_of s t k)
undo_fits h s t (Null p) fit = fit
undo_fits h s t (Copy p q) fit = fit.0
undo_fits h s t (New p) fit = fit
undo_fits h s t (Load p q f) fit = fit.0
undo_fits h s t (Store p f q) fit = fit.1
undo_fits h s t (StoreNull p f) fit = fit.1
undo_fits h s t (DataSet x e) fit = fit.0
undo_fits h s t (DataLoad x q f) fit = fit.0
undo_fits h s t (DataStore p f e) fit = fit.1
undo_fits h s t (Eq p q) fit = tt
undo_fits h s t (Ne p q) fit = tt
undo_fits h s t (IsNull p) fit = tt
undo_fits h s t (NotNull p) fit = tt
undo_fits h s t (DataTest r x e) fit = tt
undo_fits h s t (Refresh p q) fit = fit.0
undo_fits h s t (RefreshLoad p q f) fit = fit.0
undo_fits h s t (RefreshStore p f q) fit = fit.1
undo_fits h s t (Mark p q) fit = fit.0
undo_fits h s t (Unmark p q) fit = fit.0
undo_fits h s t (MarkTest p m) fit = tt
undo_fits h s t (Call f r) fit = call_fits h (is_retire f) r
undo_fits h s t (Done f) fit = tt
undo_fits h s t (Active p) fit = tt
undo_fits h s t (Ghost p g v) fit = tt

-- ---- several, the last first

pub undone_last : (s : State) (t : ℕ) (us : List Undo) (u : Undo) → all_undone s t (us ++ u ∷ []) ≡ all_undone (undone s t u) t us
undone_last s t [] u = refl
undone_last s t (v ∷ us) u = ap (λ x. undone x t v) (undone_last s t us u)

fit_more : (h : Shape) (us : List Undo) (u : Undo) → UndosFit h us → UndoFits h u → UndosFit h (us ++ u ∷ [])
fit_more h [] u fit last = (last, tt)
fit_more h (v ∷ us) u fit last = (fit.0, fit_more h us u fit.1 last)

pub fit_last : (h : Shape) (us : List Undo) (u : Undo) → UndosFit h (us ++ u ∷ []) → UndosFit h us × UndoFits h u
fit_last h [] u fit = (tt, fit.0)
fit_last h (v ∷ us) u fit = let rest = fit_last h us u fit.1 in ((fit.0, rest.0), rest.1)

-- nothing was taken
pub takes_nothing_back : (t : ℕ) (s : State) (l : Locals) → TakesBack t s l [] s l
takes_nothing_back t s l = record { back = refl; fit = tt; kept = record { locals = refl; fields = refl; shape = refl } }

-- a primitive more was taken
pub takes_more_back : (t a : ℕ) (s mid new : State) (l m n : Locals) (us : List Undo) (u : Undo) (k : Primitive) (e : Option Event) → NodesFit (length mid.fields) mid.nodes → PrimitiveIn (shape mid m) k
    → Next e ≡ outcome_of (with_locals mid t (Some m)) t a k → with_locals new t (Some n) ≡ next_of (with_locals mid t (Some m)) t a k → Kept mid m new n → u ≡ undo_of (with_locals mid t (Some m)) t k → TakesBack t s l us mid m → TakesBack t s l (us ++ u ∷ []) new n
takes_more_back t a s mid new l m n us u k e nodes named out next kept is takes =
    let w = with_locals mid t (Some m) in
    let gone = has_gone w t a k e out in
    let one : undone (with_locals new t (Some n)) t u ≡ w = (λ i. undone (next i) t (is i)) ∙ ap (λ x. undone x t (undo_of w t k)) (sym gone.next) ∙ taken_back mid t a m k nodes named in
    record {
      back = undone_last (with_locals new t (Some n)) t us u ∙ ap (λ x. all_undone x t us) one ∙ takes.back;
      fit = subst (λ (h : Shape). UndosFit h (us ++ u ∷ [])) (sym kept.shape) (fit_more (shape mid m) us u takes.fit (subst (UndoFits (shape mid m)) (sym is) (undo_fits (shape mid m) w t k named)));
      kept = kept-then takes.kept kept;
    }

-- the state and the locals are what they are together
apart : (s new : State) (t : ℕ) (l m : Locals) → Kept s l new m → with_locals new t (Some m) ≡ with_locals s t (Some l) → (new ≡ s) × (m ≡ l)
unfolding with_locals
apart s new t l m kept e =
    let mine : Some m ≡ Some l = sym (get-put_same None new.locals t (Some m)) ∙ ap (λ (x : State). get_or x.locals t None) e ∙ get-put_same None s.locals t (Some l) in
    ((λ i. record { fields = (e i).fields; shared = (e i).shared; locals = kept.locals i; nodes = (e i).nodes; retired = (e i).retired }), cc)

-- all were taken back
pub all_back : (t : ℕ) (s old new : State) (l m n : Locals) (us : List Undo) → with_locals new t (Some n) ≡ all_undone (with_locals old t (Some m)) t us → Kept old m new n → TakesBack t s l us old m → (new ≡ s) × (n ≡ l)
all_back t s old new l m n us e kept takes = apart s new t l n (kept-then takes.kept kept) (e ∙ takes.back)

-- ---- what is dropped, beside the acting thread's locals

pub dropped_node_joined : (s : State) (t : ℕ) (l : Locals) → with_locals (without_last_node s) t (Some l) ≡ without_last_node (with_locals s t (Some l))
unfolding with_locals without_last_node
dropped_node_joined s t l = refl

pub dropped_retired_joined : (s : State) (t : ℕ) (l : Locals) → with_locals (without_last_retired s) t (Some l) ≡ without_last_retired (with_locals s t (Some l))
unfolding with_locals without_last_retired
dropped_retired_joined s t l = refl

pub dropped_node_kept : (s : State) (l : Locals) → Kept s l (without_last_node s) l
unfolding without_last_node
dropped_node_kept s l = record { locals = refl; fields = refl; shape = refl }

pub dropped_retired_kept : (s : State) (l : Locals) → Kept s l (without_last_retired s) l
unfolding without_last_retired
dropped_retired_kept s l = record { locals = refl; fields = refl; shape = refl }

pub nodes_fit_take : (k n : ℕ) (ns : List Node) → NodesFit k ns → NodesFit k (take n ns)
nodes_fit_take k zero ns fit = tt
nodes_fit_take k (suc n) [] fit = tt
nodes_fit_take k (suc n) (m ∷ ns) fit = (fit.0, fit.1, nodes_fit_take k n ns fit.2)
