use Rattle.std.proofs.Common.{arith, ◌≡◌, false}
use Rattle.std.specs.Prelude.{is_some}
use Rattle.plc_ground.proofs.Changing.{alone_at, none_of}
use Rattle.plc_ground.proofs.equalities.is_alone_in.Goals as goal

pub returns-in_default : goal.returns-in_default
returns-in_default c = λ t k n kl nl ek en. absurd (c.in_default.ensures.none k kl (omega arith) ek)

pub returns : goal.returns
returns c = λ t.
    let none : is_some c.place_from-2.result ≡ false = let e = c.is_none.ensures in grind arith in
    alone_at c.args.class.now c.args.list.now c.args.x c.in-Some.k c.in-Some.ensures.first (none_of c.place_from-2.result none c.place_from-2.ensures.none)
