use Rattle.plc_hunting.proofs.Found.{hunted_freely}
use Rattle.plc_hunting.proofs.hunting.hunted_freely.Goals as goal

pub returns : goal.returns
returns c = hunted_freely c.args.judged.now c.in_ok-races.races c.in_ok-found.found.trail c.in_ok-text.text.items c.in_ok-hunted.hunted.text.items c.in_ok-hunted.hunted.status c.in_ok-text.ensures c.in_ok-races.ensures.races c.in_ok-hunted.ensures.found c.in_ok-hunted.ensures.nothing
