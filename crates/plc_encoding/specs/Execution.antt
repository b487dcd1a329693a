-- The executed part of a ground set: the clauses of each act, and what is current after it.
use Rattle.std.specs.Prelude.{ℕ, ◌+◌, Bool, true, false, if◌then◌else◌}
use Rattle.std.specs.Prelude.{List, [], ◌∷◌, ◌++◌, fold, flat_map, count_by}
use Rattle.plc_ground.specs.declared.terms.Symbol.{Symbol}
use Rattle.plc_ground.specs.declared.terms.Symbol.TheVariants as symbols
use Rattle.plc_ground.specs.declared.terms.Map.{Map}
use Rattle.plc_ground.specs.declared.terms.Map.TheVariants as maps
use Rattle.plc_vocabulary.specs.declared.acts.Act.{Act}
use Rattle.plc_vocabulary.specs.declared.acts.Act.TheVariants.{Assign, Make, Fetch, FetchMarked, Update}
use Rattle.plc_vocabulary.specs.declared.acts.Act.TheVariants.{Test, Differ, Skip}
use Rattle.plc_vocabulary.specs.Acts.{mark_of}
use Rattle.plc_encoding.specs.declared.execution.Execution.{Execution}
use Rattle.plc_symbolic.specs.declared.symbolic.NodeTerm.{NodeTerm}
use Rattle.plc_symbolic.specs.declared.symbolic.NodeTerm.TheVariants.{At}
use Rattle.plc_symbolic.specs.declared.symbolic.SymbolicTerm.{SymbolicTerm}
use Rattle.plc_symbolic.specs.declared.symbolic.SymbolicTerm.TheVariants.{Constant, Application}
use Rattle.plc_symbolic.specs.declared.symbolic.SymbolicLit.{SymbolicLit}
use Rattle.plc_ground.specs.Symbols.{same_symbol, same_map}
use Rattle.plc_symbolic.specs.Terms.{term_of, is, is_not, null}

-- nothing was executed
abbrev pub start : Execution
start = record { assigned = []; written = []; loads = 0 }

-- the constant that a variable has now: that of the last assignment to it, else its own; any other constant is itself
abbrev pub current : Execution → Symbol → Symbol
current x s = fold (λ (now : Symbol) (a : Symbol × Symbol). if same_symbol a.0 s then a.1 else now) s x.assigned

-- the version that a map has now: how often it was written
abbrev pub version : Execution → Map → ℕ
version x m = count_by (same_map m) x.written

-- the constant that a variable has now, as a term
abbrev pub held : Execution → Symbol → SymbolicTerm
held x s = Constant (current x s)

-- a version of a map at a node
abbrev pub map_now : Execution → Map → NodeTerm → SymbolicTerm
map_now x m n = Application m (version x m) n

abbrev pub assigned : Execution → Symbol → Symbol → Execution
assigned x p s = record x { assigned = x.assigned ++ (p, s) ∷ [] }

-- what is current after an act
abbrev pub after : Execution → Act → Execution
after x (Assign p e) = assigned x p (current x e)
after x (Make p) = assigned x p symbols.New
after x (Fetch p q f pointer) =
    record { assigned = x.assigned ++ (p, symbols.Loaded x.loads) ∷ []; written = x.written; loads = x.loads + 1 }
after x (FetchMarked p q f) = record {
  assigned = x.assigned ++ (mark_of p, symbols.MarkLoaded x.loads) ∷ (p, symbols.Loaded x.loads) ∷ [];
  written = x.written;
  loads = x.loads + 1;
}
after x (Update checked m p e) = record x { written = x.written ++ m ∷ [] }
after x (Test a b equal) = x
after x (Differ a b) = x
after x Skip = x

-- after several
abbrev pub after_all : Execution → List Act → Execution
after_all x more = fold after x more

-- p is not null
abbrev pub not_null : Execution → Symbol → List SymbolicLit
not_null x p = is_not (held x p) null ∷ []

-- a map whose version is v is written at p with e: the next version at a node
abbrev pub update_at : Map → ℕ → SymbolicTerm → SymbolicTerm → NodeTerm → List (List SymbolicLit)
update_at m v p e n =
    (is_not (term_of n) p ∷ is (Application m (v + 1) n) e ∷ [])
    ∷ (is (term_of n) p ∷ is (Application m (v + 1) n) (Application m v n) ∷ [])
    ∷ []

abbrev pub if_checked : Bool → List SymbolicLit → List (List SymbolicLit)
if_checked true c = c ∷ []
if_checked false c = []

abbrev pub test_lit : Bool → SymbolicTerm → SymbolicTerm → SymbolicLit
test_lit true a b = is a b
test_lit false a b = is_not a b

-- the clauses of an act
abbrev pub act_clauses : List NodeTerm → Execution → Act → List (List SymbolicLit)
act_clauses nodes x (Assign p e) = []
act_clauses nodes x (Make p) = []
act_clauses nodes x (Fetch p q f pointer) =
    not_null x q
    ∷ (is (Constant (symbols.Loaded x.loads)) (map_now x (maps.Field f) (At (current x q))) ∷ [])
    ∷ []
act_clauses nodes x (FetchMarked p q f) =
    not_null x q
    ∷ (is (Constant (symbols.Loaded x.loads)) (map_now x (maps.Field f) (At (current x q))) ∷ [])
    ∷ (is (Constant (symbols.MarkLoaded x.loads)) (map_now x (maps.FieldMark f) (At (current x q))) ∷ [])
    ∷ []
act_clauses nodes x (Update checked m p e) =
    if_checked checked (not_null x p) ++ flat_map (update_at m (version x m) (held x p) (held x e)) nodes
act_clauses nodes x (Test a b equal) = (test_lit equal (held x a) (held x b) ∷ []) ∷ []
act_clauses nodes x (Differ a b) =
    (is_not (held x a) (held x b) ∷ is_not (held x (mark_of a)) (held x (mark_of b)) ∷ []) ∷ []
act_clauses nodes x Skip = []

-- those of acts in order
abbrev pub executed_clauses : List NodeTerm → Execution → List Act → List (List SymbolicLit)
executed_clauses nodes x [] = []
executed_clauses nodes x (a ∷ more) = act_clauses nodes x a ++ executed_clauses nodes (after x a) more
