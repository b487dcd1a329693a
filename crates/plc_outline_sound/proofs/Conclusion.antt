-- A conclusion that is false makes its negation true.
use Rattle.std.proofs.Common.{◌≡◌, ℕ, zero, suc, ◌+◌, ◌<◌, ◌≤◌, Bool, true, false, not, ◌==◌, [], ◌∷◌, map, length}
use Rattle.std.proofs.Common.{get_or, Option, Some, refl, sym, ap, ◌∙◌, subst, arith, inl, inr}
use Rattle.std.specs.Prelude.{slice_index_or}
use Rattle.std.specs.List.{list_any, range_with_len}
use Rattle.std.proofs.lemmas.Bool.{eqb-true, or_parts}
use Rattle.plc_lang.specs.declared.syntax.File.{File}
use Rattle.plc_lang.specs.declared.syntax.Var.{Var}
use Rattle.plc_lang.specs.declared.syntax.Primitive.TheVariants.{Active}
use Rattle.plc_lang.specs.Shape.{Shape, VarIn}
use Rattle.plc_logic.specs.declared.clause.Clause.{Clause}
use Rattle.plc_logic.specs.declared.clause.Sort.TheVariants as sorts
use Rattle.plc_logic.specs.Fit.{InReach, LiteralFits}
use Rattle.plc_ground.specs.declared.terms.Symbol.TheVariants as symbols
use Rattle.plc_ground.specs.declared.terms.Map.TheVariants as maps
use Rattle.plc_vocabulary.specs.declared.setting.Setting.{Setting}
use Rattle.plc_vocabulary.specs.declared.setting.Variables.{Variables}
use Rattle.plc_vocabulary.specs.Acts.{pointer_symbol}
use Rattle.plc_vocabulary.specs.Setting.{below, variables_of}
use Rattle.plc_encoding.specs.declared.execution.Execution.{Execution}
use Rattle.plc_encoding.specs.Execution.{current, map_now, not_null, held}
use Rattle.plc_encoding.specs.Items.{bound_nodes, denied_clause, denied_claim}
use Rattle.plc_symbolic.specs.declared.symbolic.NodeTerm.{NodeTerm}
use Rattle.plc_symbolic.specs.declared.symbolic.NodeTerm.TheVariants.{At}
use Rattle.plc_symbolic.specs.declared.symbolic.SymbolicTerm.TheVariants.{Constant}
use Rattle.plc_symbolic.specs.Terms.{is, is_not, null}
use Rattle.plc_gc.specs.State.{GcState, entry, is_retired, slot}
use Rattle.plc_gc.specs.Clauses.{literal_holds, AreNodes}
use Rattle.plc_gc.specs.Claims.{claim_holds}
use Rattle.plc_gc.specs.Primitives.{node_at}
use Rattle.plc_gc.specs.declared.slot.Map.TheVariants.{Retirement as retirement}
use Rattle.plc_flow.proofs.Each.{Each, each_both}
use Rattle.plc_oblig.proofs.Lists.{each_map, each_all, each_from}
use Rattle.plc_outline_sound.proofs.Meaning.{Meaning, node_in, node_sort, IsTrueIn, equal_is_true, unequal_is_true}
use Rattle.plc_outline_sound.proofs.Scene.{Scene, symbol_there}
use Rattle.plc_outline_sound.proofs.Variables.{ShapeFits, variable}
use Rattle.plc_outline_sound.proofs.Reading.{Means, IsReadFor, none_true}

-- the nodes of a clause's names
range_get : (first n i : ℕ) (d : NodeTerm) (f : ℕ → NodeTerm) → i < n
    → get_or (map f (range_with_len first n)) i d ≡ f (first + i)
range_get first zero i d f less = absurd (omega arith)
range_get first (suc n) zero d f less = ap f (omega arith)
range_get first (suc n) (suc i) d f less =
    range_get (first + 1) n i d f (omega arith) ∙ ap f (let same : first + 1 + i ≡ first + suc i = omega arith in same)

range_past : (first n i : ℕ) (d : NodeTerm) (f : ℕ → NodeTerm) → n ≤ i → get_or (map f (range_with_len first n)) i d ≡ d
range_past first zero i d f more = refl
range_past first (suc n) zero d f more = absurd (omega arith)
range_past first (suc n) (suc i) d f more = range_past (first + 1) n i d f (omega arith)

-- a clause that is false at this binding: past its names the binding is null
pub record IsFalse (file : File) (w : Scene) (h : GcState) (owner : Bool) (c : Clause) : Type 0 where
  pub reach : InReach
  pub who : Option ℕ
  pub reads : IsReadFor w file reach h who owner
  pub fits : Each (LiteralFits reach) c.literals
  pub named : AreNodes h (length c.bound.names) w.bound
  pub past : (i : ℕ) → length c.bound.names ≤ i → w.bound i ≡ 0
  pub fails : list_any (literal_holds h who w.bound) c.literals ≡ false

module _ (e : Meaning) (file : File) (w : Scene) (x : Execution) (h : GcState) (means : Means e file w x h) where
  binding_is : (n i : ℕ) → ((i : ℕ) → n ≤ i → w.bound i ≡ 0)
      → node_in e (slice_index_or (bound_nodes n) i (At symbols.Null)) ≡ w.bound i
  binding_is n i past = elim (Rattle.std.proofs.lemmas.Bool.cases_lt i n) [
    | inl less ↦ ap (node_in e) (range_get 0 n i (At symbols.Null) (λ i. At (symbols.Bound i)) less)
        ∙ ap (λ k. e.symbol (symbols.Bound k)) (let same : 0 + i ≡ i = omega arith in same)
        ∙ means.constants (symbols.Bound i) refl refl
    | inr more ↦ ap (node_in e) (range_past 0 n i (At symbols.Null) (λ i. At (symbols.Bound i)) more)
        ∙ means.constants symbols.Null refl refl ∙ sym (past i more)
  ]

  bound_sorted : (n : ℕ) → Each (λ t. node_sort e t ≡ sorts.Node) (bound_nodes n)
  bound_sorted n =
      each_map (λ t. node_sort e t ≡ sorts.Node) (λ i. At (symbols.Bound i)) (below n)
      (each_all (λ i. e.symbol_sort (symbols.Bound i) ≡ sorts.Node) means.sorts_are.bound (below n))

  pub clause_denied : (s : Setting) (c : Clause) → IsFalse file w h s.owned c
      → Each (IsTrueIn e) (denied_clause file.ghosts s x (Some c))
  clause_denied s c is =
      each_both (IsTrueIn e) (map (λ i. is_not (Constant (symbols.Bound i)) null ∷ []) (below (length c.bound.names))) _
      (each_map (IsTrueIn e) (λ i. is_not (Constant (symbols.Bound i)) null ∷ []) (below (length c.bound.names))
      (each_from (λ i. IsTrueIn e (is_not (Constant (symbols.Bound i)) null ∷ [])) 0 (length c.bound.names)
      (λ i low high. unequal_is_true e (Constant (symbols.Bound i)) null [] (λ same.
      let n = is.named i (omega arith) in
      let some = n.0 in
      let b = means.constants (symbols.Bound i) refl refl in
      let z = means.constants symbols.Null refl refl in
      omega arith))))
      (none_true e file w x h means is.reach is.who s.owned is.reads (bound_nodes (length c.bound.names))
      (bound_sorted (length c.bound.names)) c.literals is.fits
      (ap (λ b. list_any (literal_holds h is.who b) c.literals)
      (Rattle.std.proofs.Math.Path.fun_ext (λ i. binding_is (length c.bound.names) i is.past)) ∙ is.fails))

  -- ---- claims

  not_so : (b : Bool) → not b ≡ false → b ≡ true
  not_so true f = refl
  not_so false f = cc

  pub claim_denied : (s : Setting) (shape : Shape) → ShapeFits shape w.mine → s.mine ≡ variables_of false w.mine
      → (p : Var) → VarIn shape p → claim_holds h w.acting (Active p) ≡ false
      → Each (IsTrueIn e) (denied_claim s x (Some (Active p)))
  claim_denied s shape shaped same p there fails =
      subst (λ (vs : Variables). Each (IsTrueIn e)
      (not_null x (pointer_symbol vs p) ∷
      (is (map_now x maps.Retired (At (current x (pointer_symbol vs p)))) (Constant symbols.Yes) ∷ []) ∷ []))
      (sym same) (
        unequal_is_true e (held x (pointer_symbol (variables_of false w.mine) p)) null [] (λ null_too.
            Rattle.std.proofs.lemmas.Bool.both_ways (node_at h w.acting p == 0) parts.0
            (Rattle.std.proofs.lemmas.Bool.eq-eqb (node_at h w.acting p) 0
            (sym its ∙ null_too ∙ means.constants symbols.Null refl refl))),
        (
          equal_is_true e (map_now x maps.Retired (At (current x (pointer_symbol (variables_of false w.mine) p))))
              (Constant symbols.Yes) [] (record {
                sort = means.sorts_are.maps maps.Retired ∙ sym means.sorts_are.yes;
                value = means.entries maps.Retired (e.symbol (current x (pointer_symbol (variables_of false w.mine) p)))
                    ∙ ap (entry h retirement) its
                    ∙ eqb-true (entry h retirement (node_at h w.acting p)) 1
                    (not_so (is_retired h (node_at h w.acting p)) parts.1)
                    ∙ sym (means.constants symbols.Yes refl refl);
              }),
          tt,
        ),
      )
    where
      v : Rattle.plc_outline_sound.proofs.Variables.IsVariable w (pointer_symbol (variables_of false w.mine) p)
          (slot w.acting p) sorts.Node
      v = variable w shape shaped p there

      its : e.symbol (current x (pointer_symbol (variables_of false w.mine) p)) ≡ node_at h w.acting p
      its = means.now.value (pointer_symbol (variables_of false w.mine) p) v.named
          ∙ symbol_there w h (pointer_symbol (variables_of false w.mine) p) (slot w.acting p) v.place

      parts : ((node_at h w.acting p == 0) ≡ false) × (not (is_retired h (node_at h w.acting p)) ≡ false)
      parts = (let r = or_parts (node_at h w.acting p == 0) (not (is_retired h (node_at h w.acting p))) fails in
          (r.0, r.1))
