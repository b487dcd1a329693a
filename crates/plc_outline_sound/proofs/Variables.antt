-- The constants of variables that primitives name: their places, and their sorts.
use Rattle.std.proofs.Common.{◌≡◌, ℕ, zero, suc, ◌<◌, ◌≤◌, Bool, true, false, List, [], ◌∷◌, map, filter, take}
use Rattle.std.proofs.Common.{Some, None, slice_get, count_by, refl, sym, ap, ◌∙◌, subst, arith}
use Rattle.std.specs.Prelude.{if◌then◌else◌}
use Rattle.std.proofs.lemmas.Bool.{not-true}
use Rattle.std.proofs.lemmas.List.Sums.{length-filter}
use Rattle.plc_lang.specs.declared.syntax.Local.{Local}
use Rattle.plc_lang.specs.declared.syntax.Var.{Var}
use Rattle.plc_lang.specs.declared.syntax.Var.TheVariants as vars
use Rattle.plc_lang.specs.declared.syntax.Num.{Num}
use Rattle.plc_lang.specs.declared.syntax.Num.TheVariants as nums
use Rattle.plc_lang.specs.declared.syntax.File.{File}
use Rattle.plc_lang.specs.Locals.{is_pointer, is_data}
use Rattle.plc_lang.specs.Numbering.{places_from, pointer_number, data_number, value_at}
use Rattle.plc_lang.specs.Shape.{Shape, VarIn, NumIn}
use Rattle.plc_lang.proofs.Numbers.{number_of_place, place_there}
use Rattle.plc_flow.proofs.Leaving.{filter_member}
use Rattle.plc_logic.specs.declared.clause.Sort.{Sort}
use Rattle.plc_logic.specs.declared.clause.Sort.TheVariants as sorts
use Rattle.plc_logic.specs.Fit.{pointer_sort}
use Rattle.plc_ground.specs.declared.terms.Symbol.{Symbol}
use Rattle.plc_ground.specs.declared.terms.Symbol.TheVariants as symbols
use Rattle.plc_ground.specs.declared.terms.Map.{Map}
use Rattle.plc_vocabulary.specs.Acts.{symbol_at, pointer_symbol, number_symbol, mark_of}
use Rattle.plc_vocabulary.specs.Setting.{local_symbol, variables_of}
use Rattle.plc_vocabulary.specs.Sorts.{local_sort, value_sort, map_sort}
use Rattle.plc_gc.specs.declared.slot.Slot.{Slot}
use Rattle.plc_gc.specs.declared.slot.Slot.TheVariants.{Local as in_local, LocalMark as local_mark, Data as in_data}
use Rattle.plc_gc.specs.State.{GcState, slot, mark_slot, number_of}
use Rattle.plc_oblig.proofs.Places.{there, map_there}
use Rattle.plc_outline_sound.proofs.Acts.{IsNamed}
use Rattle.plc_outline_sound.proofs.Meaning.{Meaning}
use Rattle.plc_outline_sound.proofs.Scene.{Scene, symbol_in, slot_of, local_slot, local_mark_slot, symbol_there}

-- the sorts of all constants but those of the nodes and numbers that are read, and of maps
pub record SortsAre (e : Meaning) (file : File) (mine theirs : List Local) : Type 0 where
  pub null : e.symbol_sort symbols.Null ≡ sorts.Node
  pub shared : (i : ℕ) → e.symbol_sort (symbols.Shared i) ≡ sorts.Node
  pub my : (k : ℕ) → e.symbol_sort (symbols.Mine k) ≡ local_sort (slice_get mine k)
  pub other : (k : ℕ) → e.symbol_sort (symbols.Theirs k) ≡ local_sort (slice_get theirs k)
  pub new : e.symbol_sort symbols.New ≡ sorts.Node
  pub bound : (i : ℕ) → e.symbol_sort (symbols.Bound i) ≡ sorts.Node
  pub yes : e.symbol_sort symbols.Yes ≡ sorts.Truth
  pub no : e.symbol_sort symbols.No ≡ sorts.Truth
  pub nobody : e.symbol_sort symbols.Nobody ≡ sorts.Thread
  pub me : e.symbol_sort symbols.Me ≡ sorts.Thread
  pub you : e.symbol_sort symbols.You ≡ sorts.Thread
  pub value : (v : ℕ) → e.symbol_sort (symbols.Value v) ≡ value_sort (value_at file.ghosts v)
  pub number : (n : ℕ) → e.symbol_sort (symbols.Number n) ≡ sorts.Number
  pub shared_marks : (i : ℕ) → e.symbol_sort (symbols.MarkShared i) ≡ sorts.Truth
  pub my_marks : (k : ℕ) → e.symbol_sort (symbols.MarkMine k) ≡ sorts.Truth
  pub other_marks : (k : ℕ) → e.symbol_sort (symbols.MarkTheirs k) ≡ sorts.Truth
  pub loaded_marks : (r : ℕ) → e.symbol_sort (symbols.MarkLoaded r) ≡ sorts.Truth
  pub maps : (m : Map) → e.map_sort m ≡ map_sort file m

-- a mark is of the sort of marks
pub mark_sort : {e : Meaning} {file : File} {mine theirs : List Local} → SortsAre e file mine theirs → (s : Symbol)
    → e.symbol_sort (mark_of s) ≡ sorts.Truth
mark_sort are (symbols.Shared i) = are.shared_marks i
mark_sort are (symbols.Mine k) = are.my_marks k
mark_sort are (symbols.Theirs k) = are.other_marks k
mark_sort are (symbols.Loaded r) = are.loaded_marks r
mark_sort are _ = are.no

-- ---- the local with a number of its kind

pub record IsNumbered (k : Local → Bool) (ls : List Local) (v : ℕ) : Type 0 where
  pub place : ℕ
  pub local : Local
  pub at : slice_get ls place ≡ Some local
  pub kind : k local ≡ true
  pub number : count_by k (take place ls) ≡ v
  pub there : slice_get (places_from k 0 ls) v ≡ Some place

pub numbered : (k : Local → Bool) (ls : List Local) (v : ℕ) → v < count_by k ls → IsNumbered k ls v
numbered k ls v small =
    let p = place_there k ls 0 v small in
    let s = number_of_place k ls 0 v p.0 p.1 in
    let same : p.0 ≡ s.0 = (let e = s.1 in omega arith) in
    let f = there (filter k ls) v (let e = length-filter k ls in omega arith) in
    record {
      place = p.0;
      local = f.0;
      at = ap (slice_get ls) same ∙ s.3 ∙ f.1;
      kind = (filter_member k ls v f.0 f.1).2;
      number = ap (λ n. count_by k (take n ls)) same ∙ s.2;
      there = p.1;
    }

symbol_there_is : (ss : List Symbol) (k : ℕ) (s : Symbol) → slice_get ss k ≡ Some s → symbol_at ss k ≡ s
symbol_there_is [] k s at = cc
symbol_there_is (r ∷ ss) zero s at = (let same : r ≡ s = cc in same)
symbol_there_is (r ∷ ss) (suc k) s at = symbol_there_is ss k s at

-- its constant
pub symbol_is : (k : Local → Bool) (ls : List Local) (v : ℕ) (n : IsNumbered k ls v)
    → symbol_at (map (local_symbol false) (places_from k 0 ls)) v ≡ symbols.Mine n.place
symbol_is k ls v n = symbol_there_is (map (local_symbol false) (places_from k 0 ls)) v (symbols.Mine n.place)
    (map_there (local_symbol false) (places_from k 0 ls) v n.place n.there)

-- ---- variables

-- the constant of a variable: it stands at this place, is none of what is read, and is of its sort
pub record IsVariable (w : Scene) (s : Symbol) (q : Slot) (sort : Sort) : Type 0 where
  pub place : slot_of w s ≡ Some q
  pub named : IsNamed s
  pub sorted : (e : Meaning) (file : File) → SortsAre e file w.mine w.theirs → e.symbol_sort s ≡ sort

pointer_at : (w : Scene) (v : ℕ) → v < count_by is_pointer w.mine
    → IsVariable w (symbol_at (variables_of false w.mine).pointers v) (in_local w.acting v) sorts.Node
pointer_at w v small = (let n = numbered is_pointer w.mine v small in
    subst (λ s. IsVariable w s (in_local w.acting v) sorts.Node) (sym (symbol_is is_pointer w.mine v n)) (record {
      place = ap (local_slot w.acting w.mine n.place) n.at
          ∙ ap Some (ap (λ b. if b then in_local w.acting (pointer_number w.mine n.place) else in_data w.acting
          (data_number w.mine n.place)) n.kind ∙ ap (in_local w.acting) n.number);
      named = refl;
      sorted = λ e file s. s.my n.place ∙ ap local_sort n.at ∙ ap pointer_sort n.kind;
    }))

-- the mark of a pointer local
pub mark_at : (w : Scene) (v : ℕ) → v < count_by is_pointer w.mine
    → IsVariable w (mark_of (symbol_at (variables_of false w.mine).pointers v)) (local_mark w.acting v) sorts.Truth
mark_at w v small = (let n = numbered is_pointer w.mine v small in
    subst (λ s. IsVariable w (mark_of s) (local_mark w.acting v) sorts.Truth) (sym (symbol_is is_pointer w.mine v n))
    (record {
      place = ap (local_mark_slot w.acting w.mine n.place) n.at
          ∙ ap (λ b. if b then Some (local_mark w.acting (pointer_number w.mine n.place)) else None) n.kind
          ∙ ap (λ v. Some (local_mark w.acting v)) n.number;
      named = refl;
      sorted = λ e file s. s.my_marks n.place;
    }))

pub data_at : (w : Scene) (x : ℕ) → x < count_by is_data w.mine
    → IsVariable w (symbol_at (variables_of false w.mine).values x) (in_data w.acting x) sorts.Number
data_at w x small = (let n = numbered is_data w.mine x small in let none = not-true n.local.pointer n.kind in
    subst (λ s. IsVariable w s (in_data w.acting x) sorts.Number) (sym (symbol_is is_data w.mine x n)) (record {
      place = ap (local_slot w.acting w.mine n.place) n.at
          ∙ ap Some (ap (λ b. if b then in_local w.acting (pointer_number w.mine n.place) else in_data w.acting
          (data_number w.mine n.place)) none ∙ ap (in_data w.acting) n.number);
      named = refl;
      sorted = λ e file s. s.my n.place ∙ ap local_sort n.at ∙ ap pointer_sort none;
    }))

-- the variables that a primitive of the acting thread may name
pub record ShapeFits (h : Shape) (ls : List Local) : Type 0 where
  pub pointers : h.pointers ≤ count_by is_pointer ls
  pub values : h.values ≤ count_by is_data ls

pub variable : (w : Scene) (h : Shape) → ShapeFits h w.mine → (p : Var) → VarIn h p
    → IsVariable w (pointer_symbol (variables_of false w.mine) p) (slot w.acting p) sorts.Node
variable w h fits (vars.Shared i) is = record { place = refl; named = refl; sorted = λ e file s. s.shared i }
variable w h fits (vars.Local v) is = pointer_at w v (let a = fits.pointers in omega arith)

pub variable_mark : (w : Scene) (h : Shape) → ShapeFits h w.mine → (p : Var) → VarIn h p
    → IsVariable w (mark_of (pointer_symbol (variables_of false w.mine) p)) (mark_slot w.acting p) sorts.Truth
variable_mark w h fits (vars.Shared i) is =
    record { place = refl; named = refl; sorted = λ e file s. s.shared_marks i }
variable_mark w h fits (vars.Local v) is = mark_at w v (let a = fits.pointers in omega arith)

pub local_pointer : (w : Scene) (h : Shape) → ShapeFits h w.mine → (v : ℕ) → v < h.pointers
    → IsVariable w (symbol_at (variables_of false w.mine).pointers v) (in_local w.acting v) sorts.Node
local_pointer w h fits v is = pointer_at w v (let a = fits.pointers in omega arith)

pub local_data : (w : Scene) (h : Shape) → ShapeFits h w.mine → (x : ℕ) → x < h.values
    → IsVariable w (symbol_at (variables_of false w.mine).values x) (in_data w.acting x) sorts.Number
local_data w h fits x is = data_at w x (let a = fits.values in omega arith)

-- a number or a data local
pub record IsAmount (w : Scene) (s : Symbol) (n : Num) : Type 0 where
  pub value : (g : GcState) → symbol_in w g s ≡ number_of g w.acting n
  pub named : IsNamed s
  pub sorted : (e : Meaning) (file : File) → SortsAre e file w.mine w.theirs → e.symbol_sort s ≡ sorts.Number

pub amount : (w : Scene) (h : Shape) → ShapeFits h w.mine → (n : Num) → NumIn h n
    → IsAmount w (number_symbol (variables_of false w.mine) n) n
amount w h fits (nums.Lit n) is = record { value = λ g. refl; named = refl; sorted = λ e file s. s.number n }
amount w h fits (nums.Local x) is = (let v = local_data w h fits x is in record {
  value = λ g. symbol_there w g _ (in_data w.acting x) v.place;
  named = v.named;
  sorted = v.sorted;
})
