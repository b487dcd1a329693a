use Rattle.std.proofs.Common.{◌≡◌, ap, map, refl}
use Rattle.plc_cli.specs.Program.{own_names}
use Rattle.plc_cli.proofs.own.run_with.Goals as goal

pub returns-clause-ok : goal.returns-clause-ok
returns-clause-ok g c =
    let names : map (λ b. (goal.Reclaimer-dyn g (b.vtable, b.value)).named b.value) c.in_ok-reclaimers.reclaimers.items ≡ own_names =
    rw (c.in_ok-reclaimers.ensures.items, c.requires.leak_named, c.requires.list_named, c.requires.hazard_named, c.requires.epoch_named) refl in
    -- what is left open here is what `are` says of the four boxes
    record {
      reclaimers = _;
      own = record {
        leak = _;
        list = _;
        hazard = _;
        epoch = _;
        are = ap (map (λ b. (goal.Reclaimer-dyn g (b.vtable, b.value)).meanings b.value)) c.in_ok-reclaimers.ensures.items;
        leak_acts = c.requires.leak;
        list_acts = c.requires.list;
        hazard_acts = c.requires.hazard;
        epoch_acts = c.requires.epoch;
      };
      runs = rw names at c.run.ensures;
    }
