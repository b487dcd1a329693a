-- Which outlines use marks: those of which a literal speaks of them.
use Rattle.std.specs.Prelude.{Bool, true, false, ◌||◌}
use Rattle.std.specs.List.{list_any}
use Rattle.plc_logic.specs.declared.clause.Literal.{Literal}
use Rattle.plc_logic.specs.declared.clause.Literal.TheVariants.{Same, Retired, Marked}
use Rattle.plc_logic.specs.declared.clause.Clause.{Clause}
use Rattle.plc_logic.specs.declared.clause.Item.{Item}
use Rattle.plc_logic.specs.declared.clause.Outline.{Outline}

-- the literal says or denies that a pointer is marked
abbrev pub literal_uses_marks : Literal → Bool
literal_uses_marks (Same a b is_so) = false
literal_uses_marks (Retired x is_so) = false
literal_uses_marks (Marked t is_so) = true

-- one of the literals of a clause does
abbrev pub clause_uses_marks : Clause → Bool
clause_uses_marks c = list_any literal_uses_marks c.literals

-- the clause of an item does
abbrev pub item_uses_marks : Item → Bool
item_uses_marks item = clause_uses_marks item.clause

-- an outline uses marks where one of its invariants or items does
abbrev pub outline_uses_marks : Outline → Bool
outline_uses_marks outline = list_any clause_uses_marks outline.invariants || list_any item_uses_marks outline.items
