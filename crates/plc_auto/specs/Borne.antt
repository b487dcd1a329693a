-- Which labels an event bears, as the code finds them once, before it looks at the location.
use Rattle.std.specs.Prelude.{Bool}
use Rattle.plc_auto.specs.declared.table.Labels.{Labels}
use Rattle.plc_auto.specs.Table.{Label, retires, asks, granted, gives_up, frees}

-- whether an event with these labels bears one
abbrev pub borne : Labels → Label → Bool
borne found retires = found.retires
borne found asks = found.asks
borne found granted = found.granted
borne found gives_up = found.gives_up
borne found frees = found.frees
