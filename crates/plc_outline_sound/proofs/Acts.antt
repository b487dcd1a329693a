-- Acts on states that are seen through the constants of ground sets. A variable is named by the constant that it has
-- at first, so its value changes; every other constant keeps what it stands for.
use Rattle.std.proofs.Common.{◌≡◌, ℕ, suc, ◌<◌, Bool, true, false, not, ◌&&◌, ◌==◌, List, [], ◌∷◌, refl}
use Rattle.std.specs.Prelude.{if◌then◌else◌}
use Rattle.plc_ground.specs.declared.terms.Symbol.{Symbol}
use Rattle.plc_ground.specs.declared.terms.Symbol.TheVariants as symbols
use Rattle.plc_ground.specs.declared.terms.Map.{Map}
use Rattle.plc_ground.specs.declared.terms.Map.TheVariants as maps
use Rattle.plc_vocabulary.specs.declared.acts.Act.{Act}
use Rattle.plc_vocabulary.specs.declared.acts.Act.TheVariants.{Assign, Make, Fetch, FetchMarked, Update, Test}
use Rattle.plc_vocabulary.specs.declared.acts.Act.TheVariants.{Differ, Skip}
use Rattle.plc_vocabulary.specs.Acts.{mark_of}
use Rattle.plc_ground.specs.Symbols.{same_symbol, same_map}

-- a value for each constant, what each map has at each node, and the number of the next node
pub record View : Type 0 where
  pub symbol : Symbol → ℕ
  pub map : Map → ℕ → ℕ
  pub count : ℕ

-- ---- acts

abbrev pub goes_checked : View → Bool → Symbol → Bool
goes_checked v true p = not (v.symbol p == 0)
goes_checked v false p = true

abbrev pub tests : Bool → ℕ → ℕ → Bool
tests true m n = m == n
tests false m n = not (m == n)

-- whether it isn't blocked
abbrev pub act_goes : View → Act → Bool
act_goes v (Assign p e) = true
act_goes v (Make p) = true
act_goes v (Fetch p q f pointer) = not (v.symbol q == 0)
act_goes v (FetchMarked p q f) = not (v.symbol q == 0)
act_goes v (Update checked m p e) = goes_checked v checked p
act_goes v (Test a b equal) = tests equal (v.symbol a) (v.symbol b)
act_goes v (Differ a b) =
    not ((v.symbol a == v.symbol b) && (v.symbol (mark_of a) == v.symbol (mark_of b)))
act_goes v Skip = true

unfoldable pub with_symbol : View → Symbol → ℕ → ℕ → View
with_symbol v p n count =
    record { symbol = λ s. if same_symbol p s then n else v.symbol s; map = v.map; count = count }

-- the map at one node
abbrev pub changed : (ℕ → ℕ) → ℕ → ℕ → ℕ → ℕ
changed f k n i = if i == k then n else f i

unfoldable pub with_map : View → Map → ℕ → ℕ → View
with_map v m k n =
    record {
      symbol = v.symbol;
      map = λ l i. if same_map l m then changed (v.map l) k n i else v.map l i;
      count = v.count;
    }

-- the state after it; what is read is read in the state before
abbrev pub act_after : View → Act → View
act_after v (Assign p e) = with_symbol v p (v.symbol e) v.count
act_after v (Make p) = with_symbol v p v.count (suc v.count)
act_after v (Fetch p q f pointer) = with_symbol v p (v.map (maps.Field f) (v.symbol q)) v.count
act_after v (FetchMarked p q f) =
    with_symbol (with_symbol v (mark_of p) (v.map (maps.FieldMark f) (v.symbol q)) v.count)
    p (v.map (maps.Field f) (v.symbol q)) v.count
act_after v (Update checked m p e) = with_map v m (v.symbol p) (v.symbol e)
act_after v (Test a b equal) = v
act_after v (Differ a b) = v
act_after v Skip = v

-- what is read
abbrev pub fetched : View → Act → ℕ
fetched v (Assign p e) = 0
fetched v (Make p) = 0
fetched v (Fetch p q f pointer) = v.map (maps.Field f) (v.symbol q)
fetched v (FetchMarked p q f) = v.map (maps.Field f) (v.symbol q)
fetched v (Update checked m p e) = 0
fetched v (Test a b equal) = 0
fetched v (Differ a b) = 0
fetched v Skip = 0

-- the mark of what is read
abbrev pub mark_fetched : View → Act → ℕ
mark_fetched v (Assign p e) = 0
mark_fetched v (Make p) = 0
mark_fetched v (Fetch p q f pointer) = 0
mark_fetched v (FetchMarked p q f) = v.map (maps.FieldMark f) (v.symbol q)
mark_fetched v (Update checked m p e) = 0
mark_fetched v (Test a b equal) = 0
mark_fetched v (Differ a b) = 0
mark_fetched v Skip = 0

-- ---- what a run of acts keeps

abbrev pub is_loaded : Symbol → Bool
is_loaded symbols.Null = false
is_loaded (symbols.Shared i) = false
is_loaded (symbols.Mine i) = false
is_loaded (symbols.Theirs i) = false
is_loaded symbols.New = false
is_loaded (symbols.Bound i) = false
is_loaded (symbols.Loaded i) = true
is_loaded symbols.Yes = false
is_loaded symbols.No = false
is_loaded symbols.Nobody = false
is_loaded symbols.Me = false
is_loaded symbols.You = false
is_loaded (symbols.Value i) = false
is_loaded (symbols.Number i) = false
is_loaded (symbols.MarkShared i) = false
is_loaded (symbols.MarkMine i) = false
is_loaded (symbols.MarkTheirs i) = false
is_loaded (symbols.MarkLoaded i) = true

-- a constant that primitives name: none of those of what is read
abbrev pub IsNamed : Symbol → Type 0
IsNamed s = is_loaded s ≡ false

-- the mark of such a constant is such
pub mark_named : (s : Symbol) → IsNamed s → IsNamed (mark_of s)
mark_named symbols.Null h = refl
mark_named (symbols.Shared i) h = refl
mark_named (symbols.Mine k) h = refl
mark_named (symbols.Theirs k) h = refl
mark_named symbols.New h = refl
mark_named (symbols.Bound i) h = refl
mark_named (symbols.Loaded r) h = cc
mark_named _ h = refl

abbrev pub NamesRightly : Act → Type 0
NamesRightly (Assign p e) = IsNamed e
NamesRightly (Make p) = Unit {0}
NamesRightly (Fetch p q f pointer) = IsNamed q
NamesRightly (FetchMarked p q f) = IsNamed q
NamesRightly (Update checked m p e) = IsNamed p × IsNamed e
NamesRightly (Test a b equal) = IsNamed a × IsNamed b
NamesRightly (Differ a b) = (IsNamed a × IsNamed b) × (IsNamed (mark_of a) × IsNamed (mark_of b))
NamesRightly Skip = Unit {0}

-- a pointer that is read leads to a node below this number, its mark is 0 or 1, and the node that is made is this one
abbrev pub ReadsBelow : ℕ → View → Act → Type 0
ReadsBelow limit v (Assign p e) = Unit {0}
ReadsBelow limit v (Make p) = Unit {0}
ReadsBelow limit v (Fetch p q f true) = v.map (maps.Field f) (v.symbol q) < limit
ReadsBelow limit v (Fetch p q f false) = Unit {0}
ReadsBelow limit v (FetchMarked p q f) =
    (v.map (maps.Field f) (v.symbol q) < limit) × (v.map (maps.FieldMark f) (v.symbol q) < 2)
ReadsBelow limit v (Update checked m p e) = Unit {0}
ReadsBelow limit v (Test a b equal) = Unit {0}
ReadsBelow limit v (Differ a b) = Unit {0}
ReadsBelow limit v Skip = Unit {0}

abbrev pub MakesNode : ℕ → View → Act → Type 0
MakesNode node v (Assign p e) = Unit {0}
MakesNode node v (Make p) = node ≡ v.count
MakesNode node v (Fetch p q f pointer) = Unit {0}
MakesNode node v (FetchMarked p q f) = Unit {0}
MakesNode node v (Update checked m p e) = Unit {0}
MakesNode node v (Test a b equal) = Unit {0}
MakesNode node v (Differ a b) = Unit {0}
MakesNode node v Skip = Unit {0}

-- the acts go one after the other and lead to this state
pub record Acted (node limit : ℕ) (v : View) (a : Act) : Type 0 where
  pub went : act_goes v a ≡ true
  pub names : NamesRightly a
  pub below : ReadsBelow limit v a
  pub makes : MakesNode node v a

abbrev pub ActsRun : ℕ → ℕ → View → List Act → View → Type 0
ActsRun node limit v [] w = v ≡ w
ActsRun node limit v (a ∷ more) w = Acted node limit v a × ActsRun node limit (act_after v a) more w
