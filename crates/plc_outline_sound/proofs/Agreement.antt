-- What a clause says depends on nothing but what it names.
use Rattle.std.proofs.Common.{◌≡◌, ℕ, ◌<◌, Bool, true, false, not, ◌||◌, ◌==◌, List, [], ◌∷◌, Option, Some, None}
use Rattle.std.proofs.Common.{slice_get, refl, ap, ap₂, ◌∙◌, arith}
use Rattle.std.specs.Prelude.{if◌then◌else◌}
use Rattle.std.specs.List.{list_any}
use Rattle.plc_lang.specs.declared.syntax.Local.{Local}
use Rattle.plc_lang.specs.declared.syntax.Field.{Field}
use Rattle.plc_lang.specs.Numbering.{pointer_number, data_number}
use Rattle.plc_logic.specs.declared.clause.Base.{Base}
use Rattle.plc_logic.specs.declared.clause.Base.TheVariants as bases
use Rattle.plc_logic.specs.declared.clause.Term.{Term}
use Rattle.plc_logic.specs.declared.clause.Term.TheVariants as terms
use Rattle.plc_logic.specs.declared.clause.Sort.{Sort}
use Rattle.plc_logic.specs.declared.clause.Literal.{Literal}
use Rattle.plc_logic.specs.declared.clause.Literal.TheVariants.{Same, Retired, Marked}
use Rattle.plc_logic.specs.declared.clause.Clause.{Clause}
use Rattle.plc_logic.specs.Fit.{InReach, IsNode, HasSort, HoldsPointer, LiteralFits}
use Rattle.plc_gc.specs.declared.slot.Slot.TheVariants.{Shared as in_shared, Local as in_local, Data as in_data}
use Rattle.plc_gc.specs.declared.slot.Slot.TheVariants.{SharedMark as shared_mark}
use Rattle.plc_gc.specs.declared.slot.Map.{Map}
use Rattle.plc_gc.specs.declared.slot.Map.TheVariants.{Auxiliary as auxiliary_field, Mark as mark_field}
use Rattle.plc_gc.specs.declared.slot.Map.TheVariants.{Retirement as retirement}
use Rattle.plc_gc.specs.State.{GcState, Locals, value, entry, count, locals_of, with_locals}
use Rattle.plc_gc.specs.Clauses.{declared_value, declared_mark, local_value, local_mark_value, declared_map}
use Rattle.plc_gc.specs.Clauses.{field_map, base_node, term_value, term_mark, literal_holds, Holds}
use Rattle.plc_gc.proofs.Views.{gives, locals-with_other}
use Rattle.plc_flow.proofs.Each.{Each, each_so}

-- ---- two states

-- a thread, or nobody, finds in both what a clause may name
pub record SeesSame (g h : GcState) (who : Option ℕ) : Type 0 where
  pub shared : (i : ℕ) → value h (in_shared i) ≡ value g (in_shared i)
  pub locals : (k : ℕ) → local_value h who k ≡ local_value g who k
  pub shared_marks : (i : ℕ) → value h (shared_mark i) ≡ value g (shared_mark i)
  pub local_marks : (k : ℕ) → local_mark_value h who k ≡ local_mark_value g who k
  pub entries : (m : Map) (n : ℕ) → entry h m n ≡ entry g m n
  pub count : count h ≡ count g
  pub fields : h.fields ≡ g.fields

module _ (g h : GcState) (who : Option ℕ) (same : SeesSame g h who) (b : ℕ → ℕ) where
  base_same : (x : Base) → base_node h who b x ≡ base_node g who b x
  base_same (bases.Shared i) = same.shared i
  base_same (bases.Local k) = same.locals k
  base_same (bases.Bound i) = refl

  field_same : (f : ℕ) → field_map h f ≡ field_map g f
  field_same f = ap (λ (fs : List Field). declared_map f (slice_get fs f)) same.fields

  entry_same : (m : Map) (x : Base) → entry h m (base_node h who b x) ≡ entry g m (base_node g who b x)
  entry_same m x = same.entries m (base_node h who b x) ∙ ap (entry g m) (base_same x)

  term_same : (x : Term) → term_value h who b x ≡ term_value g who b x
  term_same (terms.Shared i) = same.shared i
  term_same (terms.Local k) = same.locals k
  term_same (terms.Bound i) = refl
  term_same (terms.FieldOf x f) = ap (λ m. entry h m (base_node h who b x)) (field_same f.0)
      ∙ entry_same (field_map g f.0) x
  term_same (terms.GhostOf x i) = entry_same (auxiliary_field i) x
  term_same terms.Null = refl
  term_same (terms.Number n) = refl
  term_same (terms.Value i v) = refl
  term_same terms.Me = refl
  term_same terms.Nobody = refl

  mark_same : (x : Term) → term_mark h who b x ≡ term_mark g who b x
  mark_same (terms.Shared i) = same.shared_marks i
  mark_same (terms.Local k) = same.local_marks k
  mark_same (terms.FieldOf x f) = entry_same (mark_field f.0) x
  mark_same _ = refl

  literal_same : (l : Literal) → literal_holds h who b l ≡ literal_holds g who b l
  literal_same (Same x y equal) = ap₂ (λ m n. if equal then m == n else not (m == n)) (term_same x) (term_same y)
  literal_same (Retired x is_so) = ap (λ n. if is_so then n == 1 else not (n == 1)) (entry_same retirement x)
  literal_same (Marked x is_so) = ap (λ n. if is_so then n == 1 else not (n == 1)) (mark_same x)

  some_same : (ls : List Literal) → list_any (literal_holds h who b) ls ≡ list_any (literal_holds g who b) ls
  some_same [] = refl
  some_same (l ∷ ls) = ap₂ (λ x y. x || y) (literal_same l) (some_same ls)

pub holds_same : (g h : GcState) (who : Option ℕ) → SeesSame g h who → (c : Clause) → Holds g who c → Holds h who c
holds_same g h who same c holds b named = some_same g h who same b c.literals
    ∙ holds b (λ i less. let n = named i less in let k = same.count in (n.0, (let m = n.1 in omega arith)))

pub each_same : (g h : GcState) (who : Option ℕ) → SeesSame g h who → (cs : List Clause) → Each (Holds g who) cs
    → Each (Holds h who) cs
each_same g h who same cs all = each_so (Holds g who) (Holds h who) (holds_same g h who same) cs all

-- ---- locals of another thread

pub given_fields : (g : GcState) (t : ℕ) (l : Option Locals) → (with_locals g t l).fields ≡ g.fields
unfolding with_locals
given_fields g t l = refl

declared_same : (g : GcState) (t : ℕ) (l : Option Locals) (u : ℕ) → (u ≡ t → ⊥)
    → (ls : List Local) (k : ℕ) (o : Option Local)
    → declared_value (with_locals g t l) u ls k o ≡ declared_value g u ls k o
declared_same g t l u ne ls k None = refl
declared_same g t l u ne ls k (Some d) = go d.pointer
  where
    go : (b : Bool) → (if b then value (with_locals g t l) (in_local u (pointer_number ls k))
        else value (with_locals g t l) (in_data u (data_number ls k)))
        ≡ (if b then value g (in_local u (pointer_number ls k)) else value g (in_data u (data_number ls k)))
    go true = (gives g t l).others u (pointer_number ls k) ne
    go false = (gives g t l).other_values u (data_number ls k) ne

declared_mark_same : (g : GcState) (t : ℕ) (l : Option Locals) (u : ℕ) → (u ≡ t → ⊥) → (ls : List Local) (k : ℕ)
    (o : Option Local) → declared_mark (with_locals g t l) u ls k o ≡ declared_mark g u ls k o
declared_mark_same g t l u ne ls k None = refl
declared_mark_same g t l u ne ls k (Some d) =
    ap (λ n. if d.pointer then n else 0) ((gives g t l).other_marks u (pointer_number ls k) ne)

-- another thread sees nothing of it
pub other_sees : (g : GcState) (t : ℕ) (l : Option Locals) (u : ℕ) → (u ≡ t → ⊥)
    → SeesSame g (with_locals g t l) (Some u)
other_sees g t l u ne = record {
  shared = (gives g t l).shared;
  locals = λ k. declared_same g t l u ne (locals_of (with_locals g t l) u).declared k
      (slice_get (locals_of (with_locals g t l) u).declared k)
      ∙ ap (λ (m : Locals). declared_value g u m.declared k (slice_get m.declared k)) (locals-with_other g t l u ne);
  shared_marks = (gives g t l).shared_marks;
  local_marks = λ k.
      declared_mark_same g t l u ne (locals_of (with_locals g t l) u).declared k
      (slice_get (locals_of (with_locals g t l) u).declared k)
      ∙ ap (λ (m : Locals). declared_mark g u m.declared k (slice_get m.declared k)) (locals-with_other g t l u ne);
  entries = (gives g t l).nodes.entries;
  count = (gives g t l).nodes.count;
  fields = given_fields g t l;
}

-- nor does an invariant
pub nobody_sees : (g : GcState) (t : ℕ) (l : Option Locals) → SeesSame g (with_locals g t l) None
nobody_sees g t l = record {
  shared = (gives g t l).shared;
  locals = λ k. refl;
  shared_marks = (gives g t l).shared_marks;
  local_marks = λ k. refl;
  entries = (gives g t l).nodes.entries;
  count = (gives g t l).nodes.count;
  fields = given_fields g t l;
}

-- ---- two bindings

module _ (g : GcState) (who : Option ℕ) (reach : InReach) (b d : ℕ → ℕ)
    (agree : (i : ℕ) → i < reach.bound → d i ≡ b i) where
  bound_base : (x : Base) → IsNode reach x → base_node g who d x ≡ base_node g who b x
  bound_base (bases.Shared i) h = refl
  bound_base (bases.Local k) h = refl
  bound_base (bases.Bound i) h = agree i h

  bound_term : (x : Term) (s : Sort) → HasSort reach x s → term_value g who d x ≡ term_value g who b x
  bound_term (terms.Shared i) s h = refl
  bound_term (terms.Local k) s h = refl
  bound_term (terms.Bound i) s h = agree i h.0
  bound_term (terms.FieldOf x f) s h = ap (entry g (field_map g f.0)) (bound_base x h.0)
  bound_term (terms.GhostOf x i) s h = ap (entry g (auxiliary_field i)) (bound_base x h.0)
  bound_term terms.Null s h = refl
  bound_term (terms.Number n) s h = refl
  bound_term (terms.Value i v) s h = refl
  bound_term terms.Me s h = refl
  bound_term terms.Nobody s h = refl

  bound_mark : (x : Term) → HoldsPointer reach x → term_mark g who d x ≡ term_mark g who b x
  bound_mark (terms.FieldOf x f) h = ap (entry g (mark_field f.0)) (bound_base x h.0)
  bound_mark _ h = refl

  bound_literal : (l : Literal) → LiteralFits reach l → literal_holds g who d l ≡ literal_holds g who b l
  bound_literal (Same x y equal) h = ap₂ (λ m n. if equal then m == n else not (m == n)) (bound_term x h.0 h.1)
      (bound_term y h.0 h.2)
  bound_literal (Retired x is_so) h = ap (λ n. if is_so then n == 1 else not (n == 1))
      (ap (entry g retirement) (bound_base x h))
  bound_literal (Marked x is_so) h = ap (λ n. if is_so then n == 1 else not (n == 1)) (bound_mark x h)

  pub bound_some : (ls : List Literal) → Each (LiteralFits reach) ls
      → list_any (literal_holds g who d) ls ≡ list_any (literal_holds g who b) ls
  bound_some [] h = refl
  bound_some (l ∷ ls) h = ap₂ (λ x y. x || y) (bound_literal l h.0) (bound_some ls h.1)
