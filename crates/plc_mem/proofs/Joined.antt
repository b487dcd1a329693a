-- The state with the acting thread's locals put in: what is read and written there, and what is apart from them.
use Rattle.std.proofs.Common.{◌≡◌, ℕ, ◌<◌, ◌==◌, Bool, true, false, not, length, set, get_or, Some, None, refl, sym, ap, ◌∙◌}
use Rattle.std.proofs.lemmas.Bool.{and_parts}
use Rattle.plc_lang.specs.declared.syntax.Var.{Var}
use Rattle.plc_lang.specs.declared.syntax.Primitive.TheVariants.{New}
use Rattle.plc_mem.specs.declared.cell.Cell.{Cell}
use Rattle.plc_mem.specs.State.{State, Locals, at_shared, at_local, at_field, null_cell, with_locals, is_used, at, put, value_at, put_value, field_value, put_field_value, with_node, with_retired}
use Rattle.plc_base.specs.Tables.{put_at}
use Rattle.plc_mem.specs.Primitives.{goes}
use Rattle.plc_mem.specs.Fit.{Kept}
use Rattle.plc_base.proofs.Tables.{put_is_set, put_put}
use Rattle.plc_mem.proofs.Views.{locals-with_same}

pub with_with : (s : State) (t : ℕ) (l m : Locals) → with_locals (with_locals s t (Some l)) t (Some m) ≡ with_locals s t (Some m)
unfolding with_locals
with_with s t l m = ap (λ xs. record s { locals = xs }) (put_put None s.locals t (Some l) (Some m))

-- ---- variables

pub read_shared : (s : State) (t : ℕ) (l : Locals) (i : ℕ) → get_or s.shared i null_cell ≡ at (with_locals s t (Some l)) (at_shared i)
unfolding at with_locals
read_shared s t l i = refl

pub read_local : (s : State) (t : ℕ) (l : Locals) (v : ℕ) → get_or l.pointers v null_cell ≡ at (with_locals s t (Some l)) (at_local t v)
unfolding at
read_local s t l v = sym (ap (λ (o : Locals). get_or o.pointers v null_cell) (locals-with_same s t (Some l)))

pub write_shared : (s : State) (t : ℕ) (l : Locals) (i : ℕ) (c : Cell) → i < length s.shared → with_locals (record s { shared = set s.shared i c }) t (Some l) ≡ put (with_locals s t (Some l)) (at_shared i) c
unfolding put with_locals
write_shared s t l i c h = ap (λ xs. record s { shared = xs; locals = put_at None s.locals t (Some l) }) (sym (put_is_set null_cell s.shared i c h))

pub write_local : (s : State) (t : ℕ) (l : Locals) (v : ℕ) (c : Cell) → v < length l.pointers → with_locals s t (Some (record l { pointers = set l.pointers v c })) ≡ put (with_locals s t (Some l)) (at_local t v) c
unfolding put
write_local s t l v c h =
    ap (λ xs. with_locals s t (Some (record l { pointers = xs }))) (sym (put_is_set null_cell l.pointers v c h))
    ∙ sym (with_with s t l _)
    ∙ ap (λ (o : Locals). with_locals (with_locals s t (Some l)) t (Some (record o { pointers = put_at null_cell o.pointers v c }))) (sym (locals-with_same s t (Some l)))

pub read_value : (s : State) (t : ℕ) (l : Locals) (x : ℕ) → get_or l.values x 0 ≡ value_at (with_locals s t (Some l)) t x
unfolding value_at
read_value s t l x = sym (ap (λ (o : Locals). get_or o.values x 0) (locals-with_same s t (Some l)))

pub write_value : (s : State) (t : ℕ) (l : Locals) (x n : ℕ) → x < length l.values → with_locals s t (Some (record l { values = set l.values x n })) ≡ put_value (with_locals s t (Some l)) t x n
unfolding put_value
write_value s t l x n h =
    ap (λ xs. with_locals s t (Some (record l { values = xs }))) (sym (put_is_set 0 l.values x n h))
    ∙ sym (with_with s t l _)
    ∙ ap (λ (o : Locals). with_locals (with_locals s t (Some l)) t (Some (record o { values = put_at 0 o.values x n }))) (sym (locals-with_same s t (Some l)))

-- ---- fields, nodes and retired addresses are apart from the locals

pub read_field : (s : State) (t : ℕ) (l : Locals) (a f : ℕ) → at (with_locals s t (Some l)) (at_field a f) ≡ at s (at_field a f)
unfolding at with_locals
read_field s t l a f = refl

pub write_field : (s : State) (t : ℕ) (l : Locals) (a f : ℕ) (c : Cell) → with_locals (put s (at_field a f) c) t (Some l) ≡ put (with_locals s t (Some l)) (at_field a f) c
unfolding put with_locals
write_field s t l a f c = refl

pub read_field_value : (s : State) (t : ℕ) (l : Locals) (a f : ℕ) → field_value (with_locals s t (Some l)) a f ≡ field_value s a f
unfolding field_value with_locals
read_field_value s t l a f = refl

pub write_field_value : (s : State) (t : ℕ) (l : Locals) (a f n : ℕ) → with_locals (put_field_value s a f n) t (Some l) ≡ put_field_value (with_locals s t (Some l)) a f n
unfolding put_field_value with_locals
write_field_value s t l a f n = refl

pub join_node : (s : State) (t : ℕ) (l : Locals) (a : ℕ) → with_locals (with_node s a) t (Some l) ≡ with_node (with_locals s t (Some l)) a
unfolding with_node with_locals
join_node s t l a = refl

pub used_join : (s : State) (t : ℕ) (l : Locals) (a : ℕ) → is_used (with_locals s t (Some l)) a ≡ is_used s a
unfolding is_used with_locals
used_join s t l a = refl

-- where a `new` isn't blocked its address isn't used
pub new_is_unused : (s : State) (t : ℕ) (l : Locals) (a : ℕ) (p : Var) → goes (with_locals s t (Some l)) t a (New p) ≡ true → is_used s a ≡ false
new_is_unused s t l a p e = sym (used_join s t l a) ∙ go _ (and_parts (not (a == 0)) (not (is_used (with_locals s t (Some l)) a)) e).1
  where
    go : (b : Bool) → not b ≡ true → b ≡ false
    go true e = cc
    go false e = refl

-- ---- what keeps the shape

pub field_kept : (s : State) (l : Locals) (a f : ℕ) (c : Cell) → Kept s l (put s (at_field a f) c) l
unfolding put
field_kept s l a f c = record { locals = refl; fields = refl; shape = refl }

pub value_kept : (s : State) (l : Locals) (a f n : ℕ) → Kept s l (put_field_value s a f n) l
unfolding put_field_value
value_kept s l a f n = record { locals = refl; fields = refl; shape = refl }

pub node_kept : (s : State) (l : Locals) (a : ℕ) → Kept s l (with_node s a) l
unfolding with_node
node_kept s l a = record { locals = refl; fields = refl; shape = refl }

pub retired_kept : (s : State) (l : Locals) (a : ℕ) → Kept s l (with_retired s a) l
unfolding with_retired
retired_kept s l a = record { locals = refl; fields = refl; shape = refl }

pub kept-then : {s new last : State} {l m n : Locals} → Kept s l new m → Kept new m last n → Kept s l last n
kept-then k j = record { locals = j.locals ∙ k.locals; fields = j.fields ∙ k.fields; shape = j.shape ∙ k.shape }
