use Rattle.std.proofs.Common.{◌≡◌, ◌∙◌, ◌∷◌, [], List, length, map, flat_map, OnOk, sym, ap, subst, arith}
use Rattle.plc_logic.specs.declared.clause.Literal.{Literal}
use Rattle.plc_symbolic.specs.declared.symbolic.NodeTerm.{NodeTerm}
use Rattle.plc_symbolic.specs.declared.symbolic.SymbolicLit.{SymbolicLit}
use Rattle.plc_symbolic.specs.Numbering.{written_all}
use Rattle.plc_symbolic.specs.Terms.{Clauses}
use Rattle.plc_encoding.specs.Items.{instance_at, tuples}
use Rattle.plc_encoding.proofs.Tuples.{at-one, at-two}
use Rattle.plc_encoding.proofs.instances.push_instances.Goals as goal

pub returns-in-1 : goal.returns-in-1
returns-in-1 c =
    let w = c.args.w.now in
    let ts : List NodeTerm = w.setting.now.instances in
    let f : List Literal → List NodeTerm → List SymbolicLit = instance_at w.ghosts.now w.setting.now.makes w.owner in
    let ls : List Literal = c.args.clause.now.literals in
    let n : 1 ≡ length c.args.clause.now.bound.names = sym c.in-1.is ∙ c.len.ensures.count in
    let P : Clauses → Type 0 = λ cs. OnOk c.push_singles.result (c.push_singles.new.out ≡ written_all c.args.out.now cs) in
    let Q : List Literal → Type 0 = λ ks. P (map (λ a. f ks (a ∷ [])) ts) in
    let e : map (λ a. f ls (a ∷ [])) ts ≡ map (f ls) (tuples (length c.args.clause.now.bound.names) ts) =
    sym (at-one (f ls) ts) ∙ ap (λ k. map (f ls) (tuples k ts)) n in
    subst P e (subst Q c.as_slice-literals.ensures c.push_singles.ensures)

pub returns-in_default : goal.returns-in_default
returns-in_default c =
    let w = c.args.w.now in
    let ts : List NodeTerm = w.setting.now.instances in
    let f : List Literal → List NodeTerm → List SymbolicLit = instance_at w.ghosts.now w.setting.now.makes w.owner in
    let ls : List Literal = c.args.clause.now.literals in
    let n : 2 ≡ length c.args.clause.now.bound.names = omega arith in
    let P : Clauses → Type 0 = λ cs. OnOk c.push_pairs.result (c.push_pairs.new.out ≡ written_all c.args.out.now cs) in
    let Q : List Literal → Type 0 = λ ks. P (flat_map (λ a. map (λ b. f ks (a ∷ b ∷ [])) ts) ts) in
    let e : flat_map (λ a. map (λ b. f ls (a ∷ b ∷ [])) ts) ts ≡ map (f ls) (tuples (length c.args.clause.now.bound.names) ts) =
    sym (at-two (f ls) ts) ∙ ap (λ k. map (f ls) (tuples k ts)) n in
    subst P e (subst Q c.as_slice-literals.ensures c.push_pairs.ensures)
