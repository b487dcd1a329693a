use Rattle.std.proofs.Common.{ℕ, ◌≡◌, ◌<◌, ◌+◌, ◌++◌, ◌∷◌, [], List, length, take, map, get_or, add-one, ap, sym, subst, ◌∙◌}
use Rattle.std.proofs.Math.Seq.{take-suc}
use Rattle.std.proofs.lemmas.List.{map_push, append_assoc}
use Rattle.plc_auto.specs.declared.watcher.Watcher.{Watcher}
use Rattle.plc_auto.specs.Locations.{owned}
use Rattle.plc_auto.proofs.locations.with_own_watchers.Goals as goal

-- one watcher more of the thread
owned_more : (t n i : ℕ) (watchers some more : List Watcher) (d : Watcher) → some ≡ take n watchers → i < length some → more ≡ watchers ++ map (owned t) (take i (take n watchers)) → more ++ owned t (get_or some i d) ∷ [] ≡ watchers ++ map (owned t) (take (i + 1) (take n watchers))
owned_more t n i watchers some more d is h e =
    let own = map (owned t) (take i (take n watchers)) in
    let next = owned t (get_or (take n watchers) i d) in
    let small : i < length (take n watchers) = subst (λ ws. i < length ws) is h in
    let pushed : map (owned t) (take (i + 1) (take n watchers)) ≡ own ++ next ∷ [] = rw add-one (ap (map (owned t)) (take-suc (take n watchers) i d small) ∙ map_push (owned t) (take i (take n watchers)) (get_or (take n watchers) i d)) in
    ap (λ ws. more ++ owned t (get_or ws i d) ∷ []) is
    ∙ ap (λ ws. ws ++ next ∷ []) e
    ∙ append_assoc watchers own (next ∷ [])
    ∙ ap (λ ws. watchers ++ ws) (sym pushed)

pub loop-w-preserved : goal.loop-w-preserved
loop-w-preserved c = c.in_ok-push.ensures.items ∙ owned_more c.args.t c.args.n c.loop-w.w-index c.args.watchers.now c.first-w-items.result.now c.loop-w.more.items _ c.first-w-items.ensures c.loop-w-test.true c.loop-w.invariant
