use Rattle.std.proofs.Common.{sym, arith}
use Rattle.plc_auto.proofs.Stays.{past_all}
use Rattle.plc_auto.proofs.watcher.moved_from.Goals as goal

pub returns-else-l-count : goal.returns-else-l-count
returns-else-l-count c = sym (past_all c.args.observer.now c.args.l.0 c.args.kind c.args.by_own c.args.on_this (omega arith))
