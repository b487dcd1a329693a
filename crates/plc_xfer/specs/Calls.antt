-- What a call or a return of the thread itself makes of where pointers stand. It is on this pointer's address
-- or on another; null and no address are another.
use Rattle.std.specs.Prelude.{ℕ, true, false, if◌then◌else◌}
use Rattle.plc_base.specs.declared.ids.FuncId.{FuncId}
use Rattle.plc_base.specs.Mask.{union, meet}
use Rattle.plc_auto.specs.declared.event.EvKind.{EvKind}
use Rattle.plc_auto.specs.declared.event.EvKind.TheVariants.{Call}
use Rattle.plc_auto.specs.declared.observer.Observer.{Observer}
use Rattle.plc_base.specs.Functions.{is_retire}
use Rattle.plc_auto.specs.Sets.{step_set, unretired}
use Rattle.plc_type.specs.declared.env.PtrType.{PtrType}
use Rattle.plc_type.specs.Guarantees.{is_local, without_active}

-- the locations after one on this address
abbrev pub on_this : Observer → EvKind → ℕ → ℕ
on_this o kind m = step_set o m kind true true

-- the locations after one on another address or on none
abbrev pub on_other : Observer → EvKind → ℕ → ℕ
on_other o kind m = step_set o m kind true false

-- the locations after one that may be on this address and may be on another
abbrev pub on_either : Observer → EvKind → ℕ → ℕ
on_either o kind m = union (on_this o kind m) (on_other o kind m)

-- a pointer after a return, or a call without a pointer
abbrev pub other_type : Observer → EvKind → PtrType → PtrType
other_type o kind t = record { g = t.g; m = on_other o kind t.m }

-- the pointer with which a function is called; `retire` takes A from it, and so L
abbrev pub argument_type : Observer → FuncId → PtrType → PtrType
argument_type o f t =
    if is_retire f then record { g = without_active t.g; m = on_this o (Call f) t.m }
    else record { g = t.g; m = on_this o (Call f) t.m }

-- a pointer beside one that is retired: with L no other place holds its address, so that another is retired;
-- without L it may be this one
abbrev pub beside_retired : Observer → FuncId → PtrType → PtrType
beside_retired o f t =
    if is_local t.g then record { g = t.g; m = meet (on_either o (Call f) t.m) (unretired o) }
    else record { g = without_active t.g; m = on_either o (Call f) t.m }

-- a pointer beside the one with which a function is called
abbrev pub beside_type : Observer → FuncId → PtrType → PtrType
beside_type o f t = if is_retire f then beside_retired o f t else record { g = t.g; m = on_either o (Call f) t.m }
