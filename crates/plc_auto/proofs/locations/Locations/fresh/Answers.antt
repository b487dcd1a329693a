use Rattle.std.proofs.Common.{◌≡◌, ap, ◌∙◌, map, replicate, length, Some, arith}
use Rattle.plc_auto.specs.Locations.{fresh, of_unheard}
use Rattle.plc_auto.proofs.locations.Locations.fresh.Goals as goal

pub returns : goal.returns
unfolding fresh
returns c =
    let many : c.len.result ≡ length (map of_unheard c.args.observers.now) = omega (arith, c.in_ok-watchers.watchers.ok.0, ap length c.in_ok-watchers.ensures) in
    λ i. record {
      unheard = length c.args.observers.now;
      watchers = c.in_ok-watchers.ensures i;
      others = (c.in_ok-begun.ensures ∙ ap (λ n. replicate n (Some 0)) many) i;
      rows = c.new.ensures.items i;
    }
