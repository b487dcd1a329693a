-- Of two tests, whether they answer alike.
use Rattle.std.specs.Prelude.{Bool, true, false, not}

-- both are so, or neither is
abbrev pub same_bool : Bool → Bool → Bool
same_bool true b = b
same_bool false b = not b
