use Rattle.std.proofs.Common.{◌∙◌, ap, ◌∷◌}
use Rattle.plc_sched.proofs.Cuts.{cut_is, nothing_after, pieces_follow}
use Rattle.plc_sched.proofs.words.cut.Goals as goal

pub returns-in-empty-clause-pieces : goal.returns-in-empty-clause-pieces
returns-in-empty-clause-pieces c =
    cut_is c.args.mark _ c.args.bytes.now c.split_at.result.0.now c.split_at.result.1.now c.piece_length.ensures.value c.split_at.ensures.front c.split_at.ensures.back
    ∙ ap (λ more. c.split_at.result.0.now ∷ more) (nothing_after c.args.mark c.split_at.result.1.now c.in-empty.len_below)

pub returns-in-len1-up-clause-pieces : goal.returns-in-len1-up-clause-pieces
returns-in-len1-up-clause-pieces c =
    cut_is c.args.mark _ c.args.bytes.now c.split_at.result.0.now c.split_at.result.1.now c.piece_length.ensures.value c.split_at.ensures.front c.split_at.ensures.back
    ∙ ap (λ more. c.split_at.result.0.now ∷ more) (pieces_follow c.args.mark c.split_at.result.1.now c.in-len1-up.len_at_least)
