use Rattle.std.proofs.Common.{◌≢◌, ◌∙◌, Some, ap, sym, subst, slice_index}
use Rattle.std.proofs.lemmas.Option.{none-some}
use Rattle.plc_ground.specs.Classes.{IsClash}
use Rattle.plc_ground.proofs.Changing.{clash_at}
use Rattle.plc_ground.proofs.equalities.clash_in.Goals as goal

pub returns-in_default-clause-none : goal.returns-in_default-clause-none
returns-in_default-clause-none c = λ k n kl nl hk hn. absurd (none-some _ (c.in_default.ensures.none k kl hk))

pub returns-clause-some : goal.returns-clause-some
returns-clause-some c =
    let first = c.in-Some.ensures.some in
    let second = c.in-Some-place_in.ensures.some in
    let ne : slice_index c.args.class.now (slice_index c.args.list.now c.in-Some-place_in.n) ≢ slice_index c.args.class.now (slice_index c.args.list.now c.in-Some.k) =
    λ e. second.2 (ap Some (ap (slice_index c.args.class.now) c.application_at-i.ensures.which ∙ sym e)) in
    subst (λ j. IsClash c.args.set.now.terms c.args.class.now j c.application_at-i.result) (sym c.application_at-j.ensures.which)
    (subst (λ i. IsClash c.args.set.now.terms c.args.class.now (slice_index c.args.list.now c.in-Some-place_in.n) i) (sym c.application_at-i.ensures.which)
    (clash_at c.args.set.now.terms c.args.class.now c.args.list.now c.args.x c.in-Some-place_in.n c.in-Some.k c.requires.list (second.0) (first.0) (second.1) (first.1) ne))
