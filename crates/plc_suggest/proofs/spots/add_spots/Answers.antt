use Rattle.std.proofs.Common.{◌≡◌, ◌++◌, List, length, ap, ◌∙◌, arith, length-append}
use Rattle.plc_suggest.specs.declared.spot.Spot.{Spot}
use Rattle.plc_suggest.specs.Spots.{spots_before}
use Rattle.plc_suggest.proofs.Listing.{all_added, pointers_counted, spots_are, spots_counted}
use Rattle.plc_suggest.proofs.spots.add_spots.Goals as goal

pub returns-then-len-shared-gt-MOST_SPOTS-clause-too_many : goal.returns-then-len-shared-gt-MOST_SPOTS-clause-too_many
returns-then-len-shared-gt-MOST_SPOTS-clause-too_many c = λ count e.
    let is : count ≡ 4097 = cc in
    let many = spots_counted c.args.shared c.args.locals c.args.step.0 c.args.prims.now c.if-is_empty.ensures in
    (is, omega (arith, many, c.len.ensures, c.if-len-shared-gt-MOST_SPOTS.true))

pub returns-clause-spots : goal.returns-clause-spots
returns-clause-spots c =
    all_added c.args.spots.now.items _ _ _ _ c.in_ok-add_numbered.ensures c.in_ok-add_numbered-2.ensures
    ∙ ap (λ (xs : List Spot). c.args.spots.now.items ++ xs)
    (spots_are c.args.shared c.args.locals c.args.step.0 c.args.prims.now c.if-is_empty.ensures)

pub returns-clause-few : goal.returns-clause-few
returns-clause-few c =
    let many = pointers_counted c.args.shared c.args.locals c.args.step.0 in
    let all = ap length (all_added c.args.spots.now.items _ _ _ _ c.in_ok-add_numbered.ensures c.in_ok-add_numbered-2.ensures) in
    omega (
      arith,
      many,
      all,
      length-append c.args.spots.now.items
          (spots_before c.args.step.0 c.args.shared c.args.locals),
      c.len.ensures,
      c.if-len-shared-gt-MOST_SPOTS.false,
    )
