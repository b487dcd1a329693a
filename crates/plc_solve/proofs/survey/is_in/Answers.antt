use Rattle.std.proofs.Common.{◌≡◌, ◌<◌, ◌==◌, Bool, false, ℕ, length, sym, ◌∙◌, arith}
use Rattle.std.proofs.lemmas.Grind.{common_steps}
use Rattle.plc_solve.proofs.Grouping.{joins_first, term_at}
use Rattle.plc_solve.proofs.survey.is_in.Goals as goal

has_first : (n : ℕ) (b : Bool) → b ≡ (n == 0) → b ≡ false → 0 < n
has_first n b is e = (let t : (n == 0) ≡ false = sym is ∙ e in grind (arith, common_steps))

pub is_of_group-requires-clause-first : goal.is_of_group-requires-clause-first
is_of_group-requires-clause-first c =
    term_at c.args.set.now c.args.group.now c.requires.group 0 (has_first (length c.args.group.now) c.is_empty.result c.is_empty.ensures c.if-is_empty.false)

pub returns : goal.returns
returns c t =
    joins_first c.args.set.now c.requires.well c.args.group.now c.requires.group
    (has_first (length c.args.group.now) c.is_empty.result c.is_empty.ensures c.if-is_empty.false) c.args.i (c.is_of_group.ensures.yes t)
