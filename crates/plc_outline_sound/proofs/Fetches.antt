-- The acts that read a field.
use Rattle.std.specs.Prelude.{Bool, true, false}
use Rattle.plc_vocabulary.specs.declared.acts.Act.{Act}
use Rattle.plc_vocabulary.specs.declared.acts.Act.TheVariants.{Assign, Make, Fetch, FetchMarked, Update, Test}
use Rattle.plc_vocabulary.specs.declared.acts.Act.TheVariants.{Differ, Skip}

-- the act reads a field
abbrev pub is_fetch : Act → Bool
is_fetch (Assign p e) = false
is_fetch (Make p) = false
is_fetch (Fetch p q f pointer) = true
is_fetch (FetchMarked p q f) = true
is_fetch (Update checked m p e) = false
is_fetch (Test a b equal) = false
is_fetch (Differ a b) = false
is_fetch Skip = false
