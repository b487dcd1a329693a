-- What primitives do in ground sets: a table with a row for each. A variable is named by the constant that it has at
-- first; every other constant names itself.
use Rattle.std.specs.Prelude.{ℕ, ◌*◌, Bool, true, false, List, [], ◌∷◌, flat_map, slice_get, unwrap_or}
use Rattle.plc_base.specs.Functions.{is_retire}
use Rattle.plc_base.specs.declared.ids.FieldId.{FieldId}
use Rattle.plc_lang.specs.declared.syntax.Arg.{Arg}
use Rattle.plc_lang.specs.declared.syntax.Arg.TheVariants as args
use Rattle.plc_lang.specs.declared.syntax.Ghost.{Ghost as AuxiliaryField}
use Rattle.plc_lang.specs.declared.syntax.GhostVal.{GhostVal}
use Rattle.plc_lang.specs.declared.syntax.GhostVal.TheVariants as values
use Rattle.plc_lang.specs.declared.syntax.Num.{Num}
use Rattle.plc_lang.specs.declared.syntax.Num.TheVariants as nums
use Rattle.plc_lang.specs.declared.syntax.Rel.{Rel}
use Rattle.plc_lang.specs.declared.syntax.Rel.TheVariants as rels
use Rattle.plc_lang.specs.declared.syntax.Var.{Var}
use Rattle.plc_lang.specs.declared.syntax.Var.TheVariants as vars
use Rattle.plc_lang.specs.declared.syntax.Primitive.{Primitive}
use Rattle.plc_lang.specs.declared.syntax.Primitive.TheVariants.{Null, Copy, New, Load, Store, StoreNull, DataSet}
use Rattle.plc_lang.specs.declared.syntax.Primitive.TheVariants.{DataLoad, DataStore, Eq, Ne, IsNull, NotNull, DataTest}
use Rattle.plc_lang.specs.declared.syntax.Primitive.TheVariants.{Refresh, RefreshLoad, RefreshStore, Call, Done, Active}
use Rattle.plc_lang.specs.declared.syntax.Primitive.TheVariants.{Ghost, Mark, Unmark, MarkTest}
use Rattle.plc_lang.specs.Numbering.{value_number}
use Rattle.plc_flow.specs.WellFormed.{most_step_primitives}
use Rattle.plc_ground.specs.declared.terms.Symbol.{Symbol}
use Rattle.plc_ground.specs.declared.terms.Symbol.TheVariants as symbols
use Rattle.plc_ground.specs.declared.terms.Map.TheVariants as maps
use Rattle.plc_vocabulary.specs.declared.acts.Act.{Act}
use Rattle.plc_vocabulary.specs.declared.acts.Act.TheVariants.{Assign, Make, Fetch, FetchMarked, Update}
use Rattle.plc_vocabulary.specs.declared.acts.Act.TheVariants.{Test, Differ, Skip}
use Rattle.plc_vocabulary.specs.declared.setting.Variables.{Variables}

-- the constant with a number; null where there is none, which a primitive that fits never asks
abbrev pub symbol_at : List Symbol → ℕ → Symbol
symbol_at ss k = unwrap_or (slice_get ss k) symbols.Null

-- the constant of a pointer variable
abbrev pub pointer_symbol : Variables → Var → Symbol
pointer_symbol v (vars.Shared i) = symbols.Shared i
pointer_symbol v (vars.Local k) = symbol_at v.pointers k

-- the constant of a number or a data local
abbrev pub number_symbol : Variables → Num → Symbol
number_symbol v (nums.Lit n) = symbols.Number n
number_symbol v (nums.Local x) = symbol_at v.values x

-- the constant of what is put into an auxiliary field
abbrev pub ghost_symbol : List AuxiliaryField → ℕ → GhostVal → Symbol
ghost_symbol ghosts g (values.Value v) = symbols.Value (value_number ghosts g v)
ghost_symbol ghosts g values.Me = symbols.Me
ghost_symbol ghosts g values.None = symbols.Nobody

-- a test of data: an order says nothing
abbrev pub data_test : Rel → Symbol → Symbol → Act
data_test rels.Eq a b = Test a b true
data_test rels.Ne a b = Test a b false
data_test rels.Lt a b = Skip
data_test rels.Ge a b = Skip

-- a call: one of `retire` retires its argument, every other does nothing
abbrev pub call_act : Variables → Bool → Arg → Act
call_act v true (args.Var p) = Update true maps.Retired (pointer_symbol v p) symbols.Yes
call_act v true args.Null = Skip
call_act v true args.None = Skip
call_act v false a = Skip

-- the table of a program that uses no marks; its rows of `mark`, `unmark` and `marked` are never asked
abbrev pub act_of : List AuxiliaryField → Variables → Primitive → Act
act_of ghosts v (Null p) = Assign (pointer_symbol v p) symbols.Null
act_of ghosts v (Copy p q) = Assign (pointer_symbol v p) (pointer_symbol v q)
act_of ghosts v (New p) = Make (pointer_symbol v p)
act_of ghosts v (Load p q f) = Fetch (pointer_symbol v p) (pointer_symbol v q) f true
act_of ghosts v (Store p f q) = Update true (maps.Field f) (pointer_symbol v p) (pointer_symbol v q)
act_of ghosts v (StoreNull p f) = Update true (maps.Field f) (pointer_symbol v p) symbols.Null
act_of ghosts v (DataSet x e) = Assign (symbol_at v.values x) (number_symbol v e)
act_of ghosts v (DataLoad x q f) = Fetch (symbol_at v.values x) (pointer_symbol v q) f false
act_of ghosts v (DataStore p f e) = Update true (maps.Field f) (pointer_symbol v p) (number_symbol v e)
act_of ghosts v (Eq p q) = Test (pointer_symbol v p) (pointer_symbol v q) true
act_of ghosts v (Ne p q) = Test (pointer_symbol v p) (pointer_symbol v q) false
act_of ghosts v (IsNull p) = Test (pointer_symbol v p) symbols.Null true
act_of ghosts v (NotNull p) = Test (pointer_symbol v p) symbols.Null false
act_of ghosts v (DataTest r x e) = data_test r (symbol_at v.values x) (number_symbol v e)
act_of ghosts v (Refresh p q) = Assign (symbol_at v.pointers p) (pointer_symbol v q)
act_of ghosts v (RefreshLoad p q f) = Fetch (symbol_at v.pointers p) (pointer_symbol v q) f true
act_of ghosts v (RefreshStore p f q) = Update true (maps.Field f) (pointer_symbol v p) (pointer_symbol v q)
act_of ghosts v (Mark p q) = Assign (pointer_symbol v p) (pointer_symbol v q)
act_of ghosts v (Unmark p q) = Assign (pointer_symbol v p) (pointer_symbol v q)
act_of ghosts v (MarkTest p m) = Skip
act_of ghosts v (Call f a) = call_act v (is_retire f) a
act_of ghosts v (Done f) = Skip
act_of ghosts v (Active p) = Skip
act_of ghosts v (Ghost p g e) = Update false (maps.Ghost g) (pointer_symbol v p) (ghost_symbol ghosts g e)

-- ---- a program that uses marks: each pointer variable has a second constant, its mark

-- the constant of the mark of what a constant stands for; null and a new node are unmarked
abbrev pub mark_of : Symbol → Symbol
mark_of symbols.Null = symbols.No
mark_of (symbols.Shared i) = symbols.MarkShared i
mark_of (symbols.Mine k) = symbols.MarkMine k
mark_of (symbols.Theirs k) = symbols.MarkTheirs k
mark_of symbols.New = symbols.No
mark_of (symbols.Bound i) = symbols.No
mark_of (symbols.Loaded r) = symbols.MarkLoaded r
mark_of symbols.Yes = symbols.No
mark_of symbols.No = symbols.No
mark_of symbols.Nobody = symbols.No
mark_of symbols.Me = symbols.No
mark_of symbols.You = symbols.No
mark_of (symbols.Value v) = symbols.No
mark_of (symbols.Number n) = symbols.No
mark_of (symbols.MarkShared i) = symbols.No
mark_of (symbols.MarkMine k) = symbols.No
mark_of (symbols.MarkTheirs k) = symbols.No
mark_of (symbols.MarkLoaded r) = symbols.No

-- the constant of a mark that is set, or isn't
abbrev pub truth : Bool → Symbol
truth true = symbols.Yes
truth false = symbols.No

-- a variable gets a node and a mark
abbrev pub assign_marked : Symbol → Symbol → Symbol → List Act
assign_marked p e m = Assign (mark_of p) m ∷ Assign p e ∷ []

-- a field gets a node and a mark: that its owner isn't null is said once
abbrev pub store_marked : FieldId → Symbol → Symbol → Symbol → List Act
store_marked f p e m = Update true (maps.Field f) p e ∷ Update false (maps.FieldMark f) p m ∷ []

-- two variables are equal in their nodes and in their marks
abbrev pub same_marked : Symbol → Symbol → List Act
same_marked a b = Test a b true ∷ Test (mark_of a) (mark_of b) true ∷ []

-- the table: what a primitive does to pointers it does to their marks too
abbrev pub marked_acts : List AuxiliaryField → Variables → Primitive → List Act
marked_acts ghosts v (Null p) = assign_marked (pointer_symbol v p) symbols.Null symbols.No
marked_acts ghosts v (Copy p q) =
    assign_marked (pointer_symbol v p) (pointer_symbol v q) (mark_of (pointer_symbol v q))
marked_acts ghosts v (New p) = Assign (mark_of (pointer_symbol v p)) symbols.No ∷ Make (pointer_symbol v p) ∷ []
marked_acts ghosts v (Load p q f) = FetchMarked (pointer_symbol v p) (pointer_symbol v q) f ∷ []
marked_acts ghosts v (Store p f q) =
    store_marked f (pointer_symbol v p) (pointer_symbol v q) (mark_of (pointer_symbol v q))
marked_acts ghosts v (StoreNull p f) = store_marked f (pointer_symbol v p) symbols.Null symbols.No
marked_acts ghosts v (DataSet x e) = act_of ghosts v (DataSet x e) ∷ []
marked_acts ghosts v (DataLoad x q f) = act_of ghosts v (DataLoad x q f) ∷ []
marked_acts ghosts v (DataStore p f e) = act_of ghosts v (DataStore p f e) ∷ []
marked_acts ghosts v (Eq p q) = same_marked (pointer_symbol v p) (pointer_symbol v q)
marked_acts ghosts v (Ne p q) = Differ (pointer_symbol v p) (pointer_symbol v q) ∷ []
marked_acts ghosts v (IsNull p) = act_of ghosts v (IsNull p) ∷ []
marked_acts ghosts v (NotNull p) = act_of ghosts v (NotNull p) ∷ []
marked_acts ghosts v (DataTest r x e) = act_of ghosts v (DataTest r x e) ∷ []
marked_acts ghosts v (Refresh p q) =
    assign_marked (symbol_at v.pointers p) (pointer_symbol v q) (mark_of (pointer_symbol v q))
marked_acts ghosts v (RefreshLoad p q f) = FetchMarked (symbol_at v.pointers p) (pointer_symbol v q) f ∷ []
marked_acts ghosts v (RefreshStore p f q) =
    store_marked f (pointer_symbol v p) (pointer_symbol v q) (mark_of (pointer_symbol v q))
marked_acts ghosts v (Mark p q) = assign_marked (pointer_symbol v p) (pointer_symbol v q) symbols.Yes
marked_acts ghosts v (Unmark p q) = assign_marked (pointer_symbol v p) (pointer_symbol v q) symbols.No
marked_acts ghosts v (MarkTest p m) = Test (mark_of (pointer_symbol v p)) (truth m) true ∷ []
marked_acts ghosts v (Call f a) = act_of ghosts v (Call f a) ∷ []
marked_acts ghosts v (Done f) = act_of ghosts v (Done f) ∷ []
marked_acts ghosts v (Active p) = act_of ghosts v (Active p) ∷ []
marked_acts ghosts v (Ghost p g e) = act_of ghosts v (Ghost p g e) ∷ []

-- what a primitive does, where it is known whether the program uses marks
abbrev pub acts_of_primitive : Bool → List AuxiliaryField → Variables → Primitive → List Act
acts_of_primitive true ghosts v k = marked_acts ghosts v k
acts_of_primitive false ghosts v k = act_of ghosts v k ∷ []

-- primitives in order
abbrev pub acts_of : Bool → List AuxiliaryField → Variables → List Primitive → List Act
acts_of marked ghosts v ks = flat_map (acts_of_primitive marked ghosts v) ks

-- a primitive is two acts at most
abbrev pub most_acts : ℕ
most_acts = 2 * most_step_primitives
