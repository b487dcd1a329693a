-- Which clause of an outline is meant by its number, and which items stand at a point.
use Rattle.std.specs.Prelude.{ℕ, ◌+◌, List, [], ◌∷◌, if◌then◌else◌}
use Rattle.std.specs.Prelude.{Option, Some, None, slice_get, option_map}
use Rattle.plc_flow.specs.declared.flow.Flow.{Flow}
use Rattle.plc_logic.specs.declared.clause.Clause.{Clause}
use Rattle.plc_logic.specs.declared.clause.Item.{Item as AnItem}
use Rattle.plc_logic.specs.declared.clause.Outline.{Outline}
use Rattle.plc_vocabulary.specs.Points.{stands_at}
use Rattle.plc_sentences.specs.declared.clauses.ClauseId.{ClauseId}
use Rattle.plc_sentences.specs.declared.clauses.ClauseId.TheVariants.{Invariant, Item}

-- so many items can be told apart by their numbers; an outline that was read has far fewer
abbrev pub most_items : ℕ
most_items = 65536

-- the clause that is named, if the outline has it
abbrev pub clause_named : Outline → Option ClauseId → Option Clause
clause_named outline None = None
clause_named outline (Some (Invariant k)) = slice_get outline.invariants k
clause_named outline (Some (Item k)) = option_map (λ (i : AnItem). i.clause) (slice_get outline.items k)

-- the numbers of those of these items that stand at a point, where so many items stand before
abbrev pub numbers_from : Flow → ℕ → ℕ → List AnItem → List ℕ
numbers_from flow p k [] = []
numbers_from flow p k (i ∷ is) =
    if stands_at flow p i then k ∷ numbers_from flow p (k + 1) is else numbers_from flow p (k + 1) is

-- the numbers of the items that stand at a point
abbrev pub numbers_at : Flow → Outline → ℕ → List ℕ
numbers_at flow outline p = numbers_from flow p 0 outline.items
