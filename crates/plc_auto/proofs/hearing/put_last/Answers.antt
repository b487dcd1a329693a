use Rattle.std.proofs.Common.{true, false, sym, ◌∙◌, ◌==◌, arith}
use Rattle.std.proofs.lemmas.List.Quantifiers.{position-Some}
use Rattle.std.proofs.lemmas.Slice.{put_mid-rotated}
use Rattle.plc_auto.specs.Locations.{Row}
use Rattle.plc_auto.proofs.Moving.{placed_last, nowhere}
use Rattle.plc_auto.proofs.hearing.put_last.Goals as goal

pub returns-then-not-retired : goal.returns-then-not-retired
returns-then-not-retired c =
    let rows = c.args.rows.now in
    let d = c.index-rows-place.result in
    let found = sym c.place_of.ensures ∙ c.in-Some.is in
    put_mid-rotated c.in-Some.place _ rows c.rotate_left.new.self d (position-Some (λ (r : Row). r.address == c.args.a) rows c.in-Some.place d found).0 (omega arith) c.rotate_left.ensures.after
    ∙ placed_last c.args.a rows c.in-Some.place d false found (sym c.retired.ensures ∙ c.if-not-retired.true)

pub returns-else-not-retired : goal.returns-else-not-retired
returns-else-not-retired c =
    placed_last c.args.a c.args.rows.now c.in-Some.place c.index-rows-place.result true (sym c.place_of.ensures ∙ c.in-Some.is) (sym c.retired.ensures ∙ c.if-not-retired.false)

pub returns-in_default : goal.returns-in_default
returns-in_default c = sym (nowhere c.args.a c.args.rows.now (sym c.place_of.ensures ∙ c.in_default.is))
