use Rattle.std.proofs.Common.{◌*◌, ap, sym, ◌∙◌, count_by}
use Rattle.plc_oblig.specs.Size.{has_values}
use Rattle.plc_oblig.proofs.Lengths.{values_length}
use Rattle.plc_oblig.proofs.size.values_size.Goals as goal

pub returns-clause-size : goal.returns-clause-size
returns-clause-size c ts e = ap (λ n. n * c.args.nodes) c.count_enumerated.ensures ∙ ap (λ n. count_by has_values c.args.ghosts.now * n) e ∙ sym (values_length c.args.ghosts.now ts)
