use Rattle.std.proofs.Common.{List, ℕ, arith, subst}
use Rattle.plc_sched.specs.Numbers.{IsNumberOf}
use Rattle.plc_cli.proofs.Numbers.{number_found}
use Rattle.plc_hunting.specs.Requests.{greatest_seed}
use Rattle.plc_hunting.proofs.words.seed_of.Goals as goal

pub returns : goal.returns
returns c =
    number_found c.args.word.now 0 greatest_seed c.number_of.result (omega arith) (omega arith)
    (subst (λ (word : List ℕ). IsNumberOf word 0 greatest_seed c.number_of.result) c.as_bytes.ensures.value c.number_of.ensures)
