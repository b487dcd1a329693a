use Rattle.std.proofs.Common.{◌≡◌, ap, ◌∙◌, replicate, length, Some, arith}
use Rattle.plc_auto.specs.Locations.{of_threads, first_threads}
use Rattle.plc_auto.proofs.locations.Locations.of_threads.Goals as goal

pub returns : goal.returns
unfolding of_threads
returns c =
    let many : c.len.result ≡ length (first_threads c.args.observer c.args.threads) = omega (arith, c.in_ok-watchers.watchers.ok.0, ap length c.in_ok-watchers.ensures) in
    λ i. record {
      unheard = 0;
      watchers = c.in_ok-watchers.ensures i;
      others = (c.in_ok-begun.ensures ∙ ap (λ n. replicate n (Some 0)) many) i;
      rows = c.new.ensures.items i;
    }
