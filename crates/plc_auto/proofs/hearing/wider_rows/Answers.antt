use Rattle.std.proofs.Common.{ℕ, ◌≡◌, ◌<◌, ◌+◌, ◌++◌, ◌∷◌, [], List, length, take, map, get_or, add-one, ap, sym, ◌∙◌}
use Rattle.std.proofs.Math.Seq.{take-suc}
use Rattle.std.proofs.lemmas.List.{map_push}
use Rattle.plc_auto.specs.Locations.{Row, wider}
use Rattle.plc_auto.proofs.hearing.wider_rows.Goals as goal

-- one row more
wider_more : (n i : ℕ) (rows more : List Row) (d row : Row) → i < length rows → row ≡ wider n (get_or rows i d) → more ≡ map (wider n) (take i rows) → more ++ row ∷ [] ≡ map (wider n) (take (i + 1) rows)
wider_more n i rows more d row h is e =
    ap (λ rs. rs ++ row ∷ []) e
    ∙ ap (λ r. map (wider n) (take i rows) ++ r ∷ []) is
    ∙ sym (rw add-one (ap (map (wider n)) (take-suc rows i d h) ∙ map_push (wider n) (take i rows) (get_or rows i d)))

pub loop-row-preserved : goal.loop-row-preserved
loop-row-preserved c = c.in_ok-push.ensures.items ∙ wider_more c.args.n c.loop-row.row-index c.args.rows.now c.loop-row.more.items _ c.in_ok-wider.field-0 c.loop-row-test.true (c.in_ok-wider.ensures ∙ ap (wider c.args.n) c.row-item.is) c.loop-row.invariant
