use Rattle.std.proofs.Common.{◌==◌, ◌<◌, length, slice_get, sym, ap, ◌∙◌, arith}
use Rattle.std.specs.Prelude.{option_map, option_and_then}
use Rattle.std.proofs.lemmas.Bool.{eq-eqb}
use Rattle.std.proofs.lemmas.Option.{slice_get-get_or}
use Rattle.plc_lang.specs.declared.syntax.Local.{Local}
use Rattle.plc_scope.specs.declared.binding.Found.TheVariants.{Local as LocalAt}
use Rattle.plc_scope.proofs.Finds.{found_here}
use Rattle.plc_scope.proofs.lookup.local_named.Goals as goal

pub returns-then-local-number : goal.returns-then-local-number
returns-then-local-number c =
    let within : c.loop-place.place < length c.args.locals.now = omega (arith, c.loop-place-test.true) in
    let there = slice_get-get_or c.args.locals.now c.loop-place.place _ within in
    let first = sym c.loop-place.invariant
    ∙ found_here (λ (l : Local). l.name == c.args.number) c.args.locals.now c.loop-place.place _ there (eq-eqb _ _ c.if-local-number.true) in
    sym (ap (option_and_then (λ i. option_map (λ (l : Local). LocalAt i l.pointer) (slice_get c.args.locals.now i))) first
    ∙ ap (option_map (λ (l : Local). LocalAt c.loop-place.place l.pointer)) there)
