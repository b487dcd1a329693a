use Rattle.std.proofs.Common.{ap, ◌∙◌}
use Rattle.std.specs.Option.{unwrap_or}
use Rattle.std.proofs.lemmas.Option.{unwrap_or-slice_get}
use Rattle.plc_type.specs.Types.{null_type}
use Rattle.plc_at.proofs.needs.type_in.Goals as goal

pub returns-in-None : goal.returns-in-None
returns-in-None c =
    c.null.ensures ∙ ap (λ o. unwrap_or o null_type) c.in-None.ensures
    ∙ unwrap_or-slice_get c.args.env.now.locals c.args.local null_type
