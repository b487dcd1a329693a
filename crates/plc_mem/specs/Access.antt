-- Words of private functions: what they say of a primitive and of the addresses in use.
use Rattle.std.specs.Prelude.{ℕ, Bool, true, false, List, map}
use Rattle.plc_lang.specs.declared.syntax.Primitive.{Primitive}
use Rattle.plc_lang.specs.declared.syntax.Primitive.TheVariants.{New, Call}
use Rattle.plc_mem.specs.State.{Node}

-- the primitive may need memory
abbrev pub takes_memory : Primitive → Bool
takes_memory (New p) = true
takes_memory (Call f r) = true
takes_memory k = false

-- the addresses of nodes, in their order
abbrev pub addresses_of : List Node → List ℕ
addresses_of ns = map (λ n. n.address) ns
