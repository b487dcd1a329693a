-- Two terms are one as the program compares them only where they are equal, so equal terms are hashed alike: these
-- are lemmas that `Hash` of terms cites, and nothing that a reader must believe.
use Rattle.std.proofs.Common.{◌≡◌, true, refl, ap, ◌∙◌}
use Rattle.std.proofs.lemmas.Bool.{eqb-true, eq-eqb, and_parts, and_from}
use Rattle.plc_ground.specs.Symbols.{same_symbol, same_map}
use Rattle.plc_ground.specs.declared.terms.Map.TheVariants as maps
use Rattle.plc_ground.proofs.Symbols.{same_symbol_true, same_symbol_refl, same_map_true, same_map_refl, field_id}
use Rattle.plc_symbolic.specs.Same.{same_node, same_term}
use Rattle.plc_symbolic.specs.declared.symbolic.NodeTerm.{NodeTerm}
use Rattle.plc_symbolic.specs.declared.symbolic.NodeTerm.TheVariants.{At, Target}
use Rattle.plc_symbolic.specs.declared.symbolic.SymbolicTerm.{SymbolicTerm}
use Rattle.plc_symbolic.specs.declared.symbolic.SymbolicTerm.TheVariants.{Constant, Application}

same_node_true : (a b : NodeTerm) → same_node a b ≡ true → a ≡ b
same_node_true (At s) (At t) h = ap At (same_symbol_true s t h)
same_node_true (Target f s) (Target g t) h =
    let p = and_parts (same_map (maps.Field f) (maps.Field g)) (same_symbol s t) h in
    ap (λ x. Target x s) (field_id f g (eqb-true f.0 g.0 p.0)) ∙ ap (Target g) (same_symbol_true s t p.1)
same_node_true _ _ h = cc

pub same_term_true : (a b : SymbolicTerm) → same_term a b ≡ true → a ≡ b
same_term_true (Constant s) (Constant t) h = ap Constant (same_symbol_true s t h)
same_term_true (Application m v s) (Application l w t) h =
    let p = and_parts (same_map m l) _ h in
    let q = and_parts _ (same_node s t) p.1 in
    ap (λ x. Application x v s) (same_map_true m l p.0) ∙ ap (λ x. Application l x s) (eqb-true v w q.0)
    ∙ ap (Application l w) (same_node_true s t q.1)
same_term_true _ _ h = cc

same_node_refl : (a : NodeTerm) → same_node a a ≡ true
same_node_refl (At s) = same_symbol_refl s
same_node_refl (Target f s) = and_from _ _ (eq-eqb f.0 f.0 refl) (same_symbol_refl s)

pub same_term_refl : (a : SymbolicTerm) → same_term a a ≡ true
same_term_refl (Constant s) = same_symbol_refl s
same_term_refl (Application m v n) =
    and_from _ _ (same_map_refl m) (and_from _ _ (eq-eqb v v refl) (same_node_refl n))
