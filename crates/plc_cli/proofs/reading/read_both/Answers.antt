use Rattle.std.proofs.Common.{inr, subst}
use Rattle.plc_cli.specs.Reads.{IsContentOf}
use Rattle.plc_cli.proofs.TwoReads.{second_unread}
use Rattle.plc_cli.proofs.reading.read_both.Goals as goal

pub returns-in-Unread-2-clause-read : goal.returns-in-Unread-2-clause-read
returns-in-Unread-2-clause-read g c = inr (second_unread _ _ _ c.args.first.now c.args.second.now c.args.most c.in_ok-bytes.ensures.kept
    c.in-Read.bytes.items (subst (IsContentOf _ _ _ _) c.in-Read.is c.in_ok-bytes.ensures.read)
    c.in-Unread-2.answer.status c.in-Unread-2.answer.text.items (subst (IsContentOf _ _ _ _) c.in-Unread-2.is c.in_ok-more.ensures.read))
