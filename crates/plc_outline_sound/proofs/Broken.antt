-- What each constant stands for in a step that breaks an obligation: its premises hold before it, and its conclusion is
-- false after it.
use Rattle.std.proofs.Common.{◌≡◌, ℕ, ◌<◌, ◌≤◌, Bool, true, false, ◌||◌, cond, List, [], ◌∷◌, count_by}
use Rattle.std.proofs.Common.{Option, Some, None, refl, ap, ◌∙◌, arith}
use Rattle.std.specs.List.{list_any}
use Rattle.std.proofs.lemmas.Bool.{or_parts}
use Rattle.std.proofs.lemmas.List.Sums.{sum_by-cons}
use Rattle.plc_lang.specs.declared.syntax.File.{File}
use Rattle.plc_lang.specs.declared.syntax.Var.{Var}
use Rattle.plc_lang.specs.declared.syntax.Primitive.{Primitive}
use Rattle.plc_lang.specs.declared.syntax.Primitive.TheVariants.{Active}
use Rattle.plc_lang.specs.Allocation.{is_new}
use Rattle.plc_lang.specs.Shape.{Shape, VarIn, PrimitivesIn}
use Rattle.plc_lang.specs.WellSorted.{AreWellSorted}
use Rattle.plc_logic.specs.declared.clause.Clause.{Clause}
use Rattle.plc_logic.specs.declared.clause.Outline.{Outline}
use Rattle.plc_ground.specs.declared.terms.Symbol.{Symbol}
use Rattle.plc_ground.specs.declared.terms.Symbol.TheVariants as symbols
use Rattle.plc_flow.specs.declared.flow.Flow.{Flow}
use Rattle.plc_vocabulary.specs.declared.acts.Act.{Act}
use Rattle.plc_vocabulary.specs.declared.obligations.Obligation.{Obligation}
use Rattle.plc_vocabulary.specs.Acts.{acts_of}
use Rattle.plc_vocabulary.specs.Marks.{program_uses_marks}
use Rattle.plc_vocabulary.specs.Parts.{executed, acting_locals, has_owner, owner_locals, acting_premises, owner_premises}
use Rattle.plc_vocabulary.specs.Parts.{conclusion, claim_made}
use Rattle.plc_vocabulary.specs.Setting.{variables_of}
use Rattle.plc_vocabulary.specs.Sorts.{symbol_sort, map_sort}
use Rattle.plc_encoding.specs.Execution.{start}
use Rattle.plc_gc.specs.State.{GcState, count}
use Rattle.plc_gc.specs.Claims.{claim_holds}
use Rattle.plc_gc.specs.Ranges.{IsInRange, ValuesAreInRange}
use Rattle.plc_gc.specs.Run.{execute}
use Rattle.plc_gc.specs.Unmarked.{AllUnmarked}
use Rattle.plc_flow.proofs.Each.{Each}
use Rattle.plc_outline_sound.proofs.Acts.{IsNamed, fetched, mark_fetched}
use Rattle.plc_outline_sound.proofs.Current.{bit}
use Rattle.plc_outline_sound.proofs.Meaning.{Meaning}
use Rattle.plc_outline_sound.proofs.Future.{map_at, load_at}
use Rattle.plc_outline_sound.proofs.Scene.{Scene, symbol_in, seen}
use Rattle.plc_outline_sound.proofs.Variables.{ShapeFits}
use Rattle.plc_outline_sound.proofs.Premises.{IsPremise}
use Rattle.plc_outline_sound.proofs.Conclusion.{IsFalse}
use Rattle.plc_outline_sound.proofs.Beginning.{BeginsAs}

-- ---- the meaning

-- what each constant stands for, where the j-th thing that is read is this, and has this mark
abbrev pub meant : (ℕ → ℕ) → (ℕ → ℕ) → Scene → GcState → Symbol → ℕ
meant loads marks w g symbols.Null = symbol_in w g symbols.Null
meant loads marks w g (symbols.Shared i) = symbol_in w g (symbols.Shared i)
meant loads marks w g (symbols.Mine i) = symbol_in w g (symbols.Mine i)
meant loads marks w g (symbols.Theirs i) = symbol_in w g (symbols.Theirs i)
meant loads marks w g symbols.New = symbol_in w g symbols.New
meant loads marks w g (symbols.Bound i) = symbol_in w g (symbols.Bound i)
meant loads marks w g (symbols.Loaded j) = loads j
meant loads marks w g symbols.Yes = symbol_in w g symbols.Yes
meant loads marks w g symbols.No = symbol_in w g symbols.No
meant loads marks w g symbols.Nobody = symbol_in w g symbols.Nobody
meant loads marks w g symbols.Me = symbol_in w g symbols.Me
meant loads marks w g symbols.You = symbol_in w g symbols.You
meant loads marks w g (symbols.Value v) = symbol_in w g (symbols.Value v)
meant loads marks w g (symbols.Number n) = symbol_in w g (symbols.Number n)
meant loads marks w g (symbols.MarkShared i) = symbol_in w g (symbols.MarkShared i)
meant loads marks w g (symbols.MarkMine k) = symbol_in w g (symbols.MarkMine k)
meant loads marks w g (symbols.MarkTheirs k) = symbol_in w g (symbols.MarkTheirs k)
meant loads marks w g (symbols.MarkLoaded j) = marks j

pub meant_named : (loads marks : ℕ → ℕ) (w : Scene) (g : GcState) (s : Symbol) → IsNamed s
    → meant loads marks w g s ≡ symbol_in w g s
meant_named loads marks w g (symbols.Loaded j) h = cc
meant_named loads marks w g (symbols.MarkLoaded j) h = cc
meant_named loads marks w g s h = refl

abbrev pub scene_of : Flow → Obligation → ℕ → ℕ → ℕ → (ℕ → ℕ) → Scene
scene_of flow o acting owner node bound = record {
  ghosts = flow.file.ghosts;
  acting = acting;
  mine = acting_locals flow o;
  owner = owner;
  theirs = owner_locals flow o;
  node = node;
  bound = bound;
}

abbrev pub acts_in : Flow → Outline → Obligation → List Act
acts_in flow outline o =
    acts_of (program_uses_marks flow outline) flow.file.ghosts (variables_of false (acting_locals flow o))
    (executed flow o)

abbrev pub meaning_of : Flow → Outline → Obligation → Scene → GcState → Meaning
meaning_of flow outline o w g = record {
  symbol_sort = symbol_sort flow o (acts_in flow outline o);
  map_sort = map_sort flow.file;
  symbol = meant (load_at fetched start (seen w g) (acts_in flow outline o))
      (load_at mark_fetched start (seen w g) (acts_in flow outline o)) w g;
  version = map_at start (seen w g) (acts_in flow outline o);
}

-- ---- how many nodes are made

pub any_none : (ks : List Primitive) → list_any is_new ks ≡ false → count_by is_new ks ≡ 0
any_none [] h = refl
any_none (k ∷ ks) h =
    let p = or_parts (is_new k) (list_any is_new ks) h in
    let r = any_none ks p.1 in
    let c = sum_by-cons (λ x. cond (is_new x) 1 0) k ks in
    c ∙ rw p.0 (omega arith)

pub any_some : (ks : List Primitive) → list_any is_new ks ≡ true → 0 < count_by is_new ks
any_some [] h = cc
any_some (k ∷ ks) h = go (is_new k) refl h (any_some ks)
  where
    go : (b : Bool) → is_new k ≡ b → (b || list_any is_new ks) ≡ true
        → (list_any is_new ks ≡ true → 0 < count_by is_new ks) → 0 < count_by is_new (k ∷ ks)
    go true is h rest =
        let c = sum_by-cons (λ x. cond (is_new x) 1 0) k ks in
        let b : bit (is_new k) ≡ 1 = ap bit is in
        omega arith
    go false is h rest = (let c = sum_by-cons (λ x. cond (is_new x) 1 0) k ks in let r = rest h in omega arith)

-- ---- a broken obligation

abbrev pub ClaimFails : Scene → GcState → Shape → Option Primitive → Type 0
ClaimFails w h shape None = Unit {0}
ClaimFails w h shape (Some k) = (p : Var) × (k ≡ Active p) × VarIn shape p × (claim_holds h w.acting (Active p) ≡ false)

abbrev pub ClauseFails : File → Scene → GcState → Bool → Option Clause → Type 0
ClauseFails file w h owner None = Unit {0}
ClauseFails file w h owner (Some c) = IsFalse file w h owner c

-- all but the conclusion, at any nodes for its names
pub record IsReady (flow : Flow) (outline : Outline) (o : Obligation) (acting owner : ℕ) (g h : GcState) : Type 0 where
  pub apart : owner ≡ acting → ⊥
  pub shape : Shape
  pub shaped : ShapeFits shape (acting_locals flow o)
  pub names : PrimitivesIn shape (executed flow o)
  pub sorted : AreWellSorted flow.file (executed flow o)
  pub one_new : count_by is_new (executed flow o) ≤ 1
  pub taken : execute g acting (executed flow o) ≡ Some h
  pub fields : g.fields ≡ flow.file.fields
  pub ranges : IsInRange g
  pub unmarked : program_uses_marks flow outline ≡ false → AllUnmarked g
  pub values : ValuesAreInRange flow.file g
  pub begins : (b : ℕ → ℕ) → BeginsAs (scene_of flow o acting owner (count g) b) g o
  pub acting_holds : (b : ℕ → ℕ)
      → Each (IsPremise flow.file (scene_of flow o acting owner (count g) b) g false) (acting_premises flow outline o)
  pub owner_holds : (b : ℕ → ℕ)
      → Each (IsPremise flow.file (scene_of flow o acting owner (count g) b) g true) (owner_premises flow outline o)

-- the primitives lead from a state in which the premises hold to one in which the conclusion is false at these nodes
pub record IsBroken (flow : Flow) (outline : Outline) (o : Obligation) (acting owner : ℕ) (bound : ℕ → ℕ)
    (g h : GcState) : Type 0 where
  pub ready : IsReady flow outline o acting owner g h
  pub clause_fails : ClauseFails flow.file (scene_of flow o acting owner (count g) bound) h (has_owner o)
      (conclusion flow outline o)
  pub claim_fails : ClaimFails (scene_of flow o acting owner (count g) bound) h ready.shape (claim_made flow o)
