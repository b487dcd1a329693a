use Rattle.std.proofs.Common.{List, ℕ, arith, subst}
use Rattle.plc_sched.specs.Numbers.{IsNumberOf}
use Rattle.plc_cli.proofs.Numbers.{number_found}
use Rattle.plc_cli.proofs.words.number_in.Goals as goal

pub returns-clause-spelled : goal.returns-clause-spelled
returns-clause-spelled c =
    number_found c.args.word.now c.args.least c.args.most c.number_of.result c.requires (omega (arith, c.ranges.most))
    (subst (λ (word : List ℕ). IsNumberOf word c.args.least c.args.most c.number_of.result) c.as_bytes.ensures.value c.number_of.ensures)
