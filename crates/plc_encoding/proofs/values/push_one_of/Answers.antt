use Rattle.std.proofs.Common.{◌≡◌, ◌∙◌, ◌+◌, ◌++◌, ◌∷◌, [], ℕ, sym, ap, refl}
use Rattle.std.proofs.lemmas.List.FromFn.{map-range_with_len_more}
use Rattle.plc_ground.specs.declared.terms.Symbol.TheVariants as symbols
use Rattle.plc_ground.specs.declared.terms.Map.TheVariants as maps
use Rattle.plc_symbolic.specs.declared.symbolic.SymbolicLit.{SymbolicLit}
use Rattle.plc_symbolic.specs.declared.symbolic.SymbolicTerm.TheVariants.{Constant, Application}
use Rattle.plc_symbolic.specs.Terms.{is}
use Rattle.plc_encoding.proofs.values.push_one_of.Goals as goal

pub loop-v-preserved : goal.loop-v-preserved
loop-v-preserved c =
    let f : ℕ → SymbolicLit = λ v. is (Application (maps.Ghost c.args.g) 0 c.args.node) (Constant (symbols.Value v)) in
    let k : ℕ = c.args.first + c.loop-v.v in
    let e : c.is.result ≡ f k = c.is.ensures ∙ ap (λ t. is t (Constant (symbols.Value k))) c.applied.ensures in
    c.in_ok-push.ensures.ok ∙ ap (λ x. c.loop-v.clause ++ x ∷ []) e ∙ ap (λ ls. ls ++ f k ∷ []) c.loop-v.invariant
    ∙ sym (map-range_with_len_more f c.args.first c.loop-v.v k refl)
