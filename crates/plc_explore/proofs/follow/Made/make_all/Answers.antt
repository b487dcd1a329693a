use Rattle.std.proofs.Common.{◌≡◌, ◌∷◌, ◌∙◌, suc, drop, sym, ap, subst}
use Rattle.std.proofs.Math.Seq.{drop-cons}
use Rattle.plc_moves.specs.declared.words.Move.{Move}
use Rattle.plc_explore.specs.Following.{RacesFrom}
use Rattle.plc_explore.proofs.follow.Made.make_all.Goals as goal

pub returns-in-Ok-None-clause-none : goal.returns-in-Ok-None-clause-none
returns-in-Ok-None-clause-none g c = λ any goes none races.
    let l = c.loop-m in
    let moves = c.args.moves.now in
    let rest = drop (suc l.m-index) moves in
    let here : drop l.m-index moves ≡ c.m-item.result ∷ rest =
    drop-cons moves l.m-index c.m-item.result c.loop-m-test.true ∙ ap (λ (m : Move). m ∷ rest) (sym c.m-item.is) in
    let follows = rw c.in-Ok-None.field-0-is at
    (c.in-Ok-None.ensures.follows (l.invariant.any any) (l.invariant.goes any goes)) in
    follows.1 rest (subst (RacesFrom c.args.program.now l.config) here (l.invariant.none any goes races))
