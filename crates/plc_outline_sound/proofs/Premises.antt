-- Each instance of a premise is true: one of its names is null or the new node, or the premise holds at them.
use Rattle.std.proofs.Common.{◌≡◌, ℕ, zero, suc, ◌<◌, Bool, true, false, List, [], ◌∷◌, map, length, Option, refl, sym}
use Rattle.std.proofs.Common.{ap, ◌∙◌, subst, arith, inl, inr, ◌⊎◌}
use Rattle.std.specs.Prelude.{flat_map, slice_index_or}
use Rattle.std.proofs.lemmas.Bool.{cases_eq}
use Rattle.plc_lang.specs.declared.syntax.File.{File}
use Rattle.plc_logic.specs.declared.clause.Clause.{Clause}
use Rattle.plc_logic.specs.declared.clause.Sort.TheVariants as sorts
use Rattle.plc_logic.specs.Fit.{InReach, LiteralFits}
use Rattle.plc_ground.specs.declared.terms.Symbol.TheVariants as symbols
use Rattle.plc_vocabulary.specs.declared.setting.Setting.{Setting}
use Rattle.plc_encoding.specs.Execution.{start}
use Rattle.plc_encoding.specs.Items.{escapes, instance_at, tuples, instances, read_literal}
use Rattle.plc_symbolic.specs.declared.symbolic.NodeTerm.{NodeTerm}
use Rattle.plc_symbolic.specs.declared.symbolic.NodeTerm.TheVariants.{At}
use Rattle.plc_symbolic.specs.declared.symbolic.SymbolicLit.{SymbolicLit}
use Rattle.plc_symbolic.specs.Terms.{term_of, is, null, new_node}
use Rattle.plc_gc.specs.State.{GcState, count}
use Rattle.plc_gc.specs.Clauses.{Holds}
use Rattle.plc_flow.proofs.Each.{Each, each_so}
use Rattle.plc_oblig.proofs.Lists.{each_flat, each_map}
use Rattle.plc_outline_sound.proofs.Meaning.{Meaning, node_in, IsTrueIn, node_value, equal_is_true, later_is_true, true_left}
use Rattle.plc_outline_sound.proofs.Meaning.{true_right}
use Rattle.plc_outline_sound.proofs.Scene.{Scene}
use Rattle.plc_outline_sound.proofs.Reading.{IsReadFor, some_true}
use Rattle.plc_outline_sound.proofs.Nodes.{IsBefore, IsTermBelow, new_is}

-- what is known of a premise: it fits what it may name, is read for its thread, and holds
pub record IsPremise (file : File) (w : Scene) (g : GcState) (owner : Bool) (c : Clause) : Type 0 where
  pub reach : InReach
  pub who : Option ℕ
  pub reads : IsReadFor w file reach g who owner
  pub fits : Each (LiteralFits reach) c.literals
  pub holds : Holds g who c

-- a node that isn't null and was made before
pub record IsOld (e : Meaning) (n : ℕ) (t : NodeTerm) : Type 0 where
  pub some : 0 < node_in e t
  pub made : node_in e t < n

old_at : (e : Meaning) (n : ℕ) (ts : List NodeTerm) (i : ℕ) → Each (IsOld e n) ts → i < length ts
    → IsOld e n (slice_index_or ts i (At symbols.Null))
old_at e n [] i h less = absurd (omega arith)
old_at e n (t ∷ ts) zero h less = h.0
old_at e n (t ∷ ts) (suc i) h less = old_at e n ts i h.1 (omega arith)

-- lists of so many of these nodes
pub record AreTuple (e : Meaning) (limit n : ℕ) (ts : List NodeTerm) : Type 0 where
  pub each : Each (IsTermBelow e limit) ts
  pub many : length ts ≡ n

pub each_tuple : (e : Meaning) (limit n : ℕ) (ts : List NodeTerm) → Each (IsTermBelow e limit) ts
    → Each (AreTuple e limit n) (tuples n ts)
each_tuple e limit zero ts h = (record { each = tt; many = refl }, tt)
each_tuple e limit (suc n) ts h = each_flat (AreTuple e limit (suc n)) (λ t. map (λ rest. t ∷ rest) (tuples n ts)) ts
    (each_so (IsTermBelow e limit) (λ t. Each (AreTuple e limit (suc n)) (map (λ rest. t ∷ rest) (tuples n ts)))
    (λ t is. each_map (AreTuple e limit (suc n)) (λ rest. t ∷ rest) (tuples n ts)
    (each_so (AreTuple e limit n) (λ rest. AreTuple e limit (suc n) (t ∷ rest))
    (λ rest k. record { each = (is, k.each); many = ap suc k.many }) (tuples n ts) (each_tuple e limit n ts h)))
    ts h)

module _ (e : Meaning) (file : File) (w : Scene) (g : GcState) (limit : ℕ) (before : IsBefore e file w g limit)
    (makes : Bool)
    (old_or_new : (n : ℕ) → n < limit → (n < count g) ⊎ ((makes ≡ true) × (n ≡ count g))) where
  null_escapes : (t : NodeTerm) → node_in e t ≡ 0 → (b : Bool) → IsTermBelow e limit t → IsTrueIn e (escapes b t)
  null_escapes t none b below = go b
    where
      one : (more : List SymbolicLit) → IsTrueIn e (is (term_of t) null ∷ more)
      one more = equal_is_true e (term_of t) null more
          (record {
            sort = below.sort ∙ sym before.means.sorts_are.null;
            value = node_value e t ∙ none
                ∙ sym (before.means.constants symbols.Null refl refl);
          })

      go : (b : Bool) → IsTrueIn e (escapes b t)
      go true = one (is (term_of t) new_node ∷ [])
      go false = one []

  new_escapes : (t : NodeTerm) → node_in e t ≡ count g → makes ≡ true → IsTermBelow e limit t
      → IsTrueIn e (escapes makes t)
  new_escapes t same made below =
      subst (λ b. IsTrueIn e (escapes b t)) (sym made)
      (later_is_true e (is (term_of t) null) (is (term_of t) new_node ∷ [])
      (equal_is_true e (term_of t) new_node []
      (record {
        sort = below.sort ∙ sym before.means.sorts_are.new;
        value = node_value e t ∙ same
            ∙ sym (new_is e file w g limit before);
      })))

  -- one of the names escapes, or each is a node of before
  escapes_or : (ts : List NodeTerm) → Each (IsTermBelow e limit) ts
      → IsTrueIn e (flat_map (escapes makes) ts) ⊎ Each (IsOld e (count g)) ts
  escapes_or [] h = inr tt
  escapes_or (t ∷ ts) h = go (cases_eq (node_in e t) 0) (old_or_new (node_in e t) h.0.below) (escapes_or ts h.1)
    where
      go : (node_in e t ≡ 0) ⊎ (node_in e t ≡ 0 → ⊥)
          → (node_in e t < count g) ⊎ ((makes ≡ true) × (node_in e t ≡ count g))
          → IsTrueIn e (flat_map (escapes makes) ts) ⊎ Each (IsOld e (count g)) ts
          → IsTrueIn e (flat_map (escapes makes) (t ∷ ts)) ⊎ Each (IsOld e (count g)) (t ∷ ts)
      go (inl none) c rest =
          inl (true_left e (escapes makes t) (flat_map (escapes makes) ts) (null_escapes t none makes h.0))
      go (inr some) (inr made) rest =
          inl (true_left e (escapes makes t) (flat_map (escapes makes) ts) (new_escapes t made.1 made.0 h.0))
      go (inr some) (inl old) (inl out) = inl (true_right e (escapes makes t) (flat_map (escapes makes) ts) out)
      go (inr some) (inl old) (inr all) = inr (record { some = omega arith; made = old }, all)

  instance_true : (owner : Bool) (c : Clause) → IsPremise file w g owner c → (ts : List NodeTerm)
      → AreTuple e limit (length c.bound.names) ts → IsTrueIn e (instance_at file.ghosts makes owner c.literals ts)
  instance_true owner c is ts t = go (escapes_or ts t.each)
    where
      go : IsTrueIn e (flat_map (escapes makes) ts) ⊎ Each (IsOld e (count g)) ts
          → IsTrueIn e (instance_at file.ghosts makes owner c.literals ts)
      go (inl out) =
          true_left e (flat_map (escapes makes) ts) (map (read_literal file.ghosts start owner ts) c.literals) out
      go (inr all) =
          true_right e (flat_map (escapes makes) ts) (map (read_literal file.ghosts start owner ts) c.literals)
          (some_true e file w start g before.means is.reach is.who owner is.reads ts
          (each_so (IsTermBelow e limit) (λ t. Rattle.plc_outline_sound.proofs.Meaning.node_sort e t ≡ sorts.Node)
          (λ t b. b.sort) ts t.each) c.literals is.fits
          (is.holds (λ i. node_in e (slice_index_or ts i (At symbols.Null)))
          (λ i less. let o = old_at e (count g) ts i all (let m = t.many in omega arith) in (o.some, o.made))))

  pub instances_true : (s : Setting) → s.makes ≡ makes → Each (IsTermBelow e limit) s.instances
      → (owner : Bool) (cs : List Clause) → Each (IsPremise file w g owner) cs
      → Each (IsTrueIn e) (flat_map (instances file.ghosts s owner) cs)
  instances_true s same nodes owner cs h =
      each_flat (IsTrueIn e) (instances file.ghosts s owner) cs
      (each_so (IsPremise file w g owner) (λ c. Each (IsTrueIn e) (instances file.ghosts s owner c))
      (λ c is. subst
      (λ b. Each (IsTrueIn e)
      (map (instance_at file.ghosts b owner c.literals) (tuples (length c.bound.names) s.instances))) (sym same)
      (each_map (IsTrueIn e) (instance_at file.ghosts makes owner c.literals)
      (tuples (length c.bound.names) s.instances)
      (each_so (AreTuple e limit (length c.bound.names))
      (λ ts. IsTrueIn e (instance_at file.ghosts makes owner c.literals ts)) (instance_true owner c is)
      (tuples (length c.bound.names) s.instances)
      (each_tuple e limit (length c.bound.names) s.instances nodes)))) cs h)
