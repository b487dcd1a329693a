-- The meaning of versions and of what is read, taken once from a whole run of acts: a version is what the map has in
-- the first state with that version.
use Rattle.std.proofs.Common.{◌≡◌, ℕ, ◌+◌, ◌≤◌, Bool, true, false, ◌&&◌, ◌==◌, cond, List, [], ◌∷◌}
use Rattle.std.proofs.Common.{refl, sym, ap₂, ◌∙◌, arith}
use Rattle.std.specs.Prelude.{if◌then◌else◌}
use Rattle.std.proofs.lemmas.Bool.{eq-eqb, ne_eqb, eqb-true}
use Rattle.plc_ground.specs.declared.terms.Symbol.TheVariants as symbols
use Rattle.plc_ground.specs.declared.terms.Map.{Map}
use Rattle.plc_vocabulary.specs.declared.acts.Act.{Act}
use Rattle.plc_outline_sound.proofs.Fetches.{is_fetch}
use Rattle.plc_encoding.specs.declared.execution.Execution.{Execution}
use Rattle.plc_encoding.specs.Execution.{version, after}
use Rattle.plc_outline_sound.proofs.Acts.{View, act_after, fetched, mark_fetched}
use Rattle.plc_outline_sound.proofs.Current.{writes, version_after, map_stays, loads_after}
use Rattle.plc_outline_sound.proofs.Meaning.{Meaning}

-- the version k of a map
abbrev pub map_at : Execution → View → List Act → Map → ℕ → ℕ → ℕ
map_at x v [] m k n = v.map m n
map_at x v (a ∷ more) m k n = if version x m == k then v.map m n else map_at (after x a) (act_after v a) more m k n

-- what is read as the j-th, which is `fetched` or its mark
abbrev pub load_at : (View → Act → ℕ) → Execution → View → List Act → ℕ → ℕ
load_at read x v [] j = 0
load_at read x v (a ∷ more) j =
    if is_fetch a && (x.loads == j) then read v a else load_at read (after x a) (act_after v a) more j

-- the meaning agrees with what is to come
pub record Foresees (e : Meaning) (x : Execution) (v : View) (more : List Act) : Type 0 where
  pub maps : (m : Map) (k n : ℕ) → version x m ≤ k → e.version m k n ≡ map_at x v more m k n
  pub loads : (j : ℕ) → x.loads ≤ j → e.symbol (symbols.Loaded j) ≡ load_at fetched x v more j
  pub marks : (j : ℕ) → x.loads ≤ j → e.symbol (symbols.MarkLoaded j) ≡ load_at mark_fetched x v more j

map_first : (x : Execution) (v : View) (more : List Act) (m : Map) (k n : ℕ) → version x m ≡ k
    → map_at x v more m k n ≡ v.map m n
map_first x v [] m k n h = refl
map_first x v (a ∷ more) m k n h = rw (eq-eqb (version x m) k h) refl

pub map_now : (e : Meaning) (x : Execution) (v : View) (more : List Act) → Foresees e x v more → (m : Map) (n : ℕ)
    → e.version m (version x m) n ≡ v.map m n
map_now e x v more f m n = f.maps m (version x m) n (omega arith) ∙ map_first x v more m (version x m) n refl

later_version : (x : Execution) (v : View) (a : Act) (more : List Act) (m : Map) (k n : ℕ) → version (after x a) m ≤ k
    → map_at x v (a ∷ more) m k n ≡ map_at (after x a) (act_after v a) more m k n
later_version x v a more m k n le = go (version x m == k) refl
  where
    go : (b : Bool) → (version x m == k) ≡ b
        → (if b then v.map m n else map_at (after x a) (act_after v a) more m k n)
        ≡ map_at (after x a) (act_after v a) more m k n
    go true h =
        let same = eqb-true (version x m) k h in
        let rises = version_after x a m in
        let none : writes a m ≡ 0 = omega arith in
        sym (map_first (after x a) (act_after v a) more m k n (omega arith) ∙ map_stays v a m n none)
    go false h = refl

-- what is read first
pub first_load : (read : View → Act → ℕ) (x : Execution) (v : View) (a : Act) (more : List Act) → is_fetch a ≡ true
    → load_at read x v (a ∷ more) x.loads ≡ read v a
first_load read x v a more reads =
    ap₂ (λ b c. if b && c then read v a else load_at read (after x a) (act_after v a) more x.loads)
    reads (eq-eqb x.loads x.loads refl)

later_load : (read : View → Act → ℕ) (x : Execution) (v : View) (a : Act) (more : List Act) (j : ℕ)
    → (after x a).loads ≤ j
    → (x.loads ≤ j) × (load_at read x v (a ∷ more) j ≡ load_at read (after x a) (act_after v a) more j)
later_load read x v a more j le = go (is_fetch a) (loads_after x a)
  where
    go : (b : Bool) → (after x a).loads ≡ x.loads + cond b 1 0
        → (x.loads ≤ j) × ((if b && (x.loads == j) then read v a else load_at read (after x a) (act_after v a) more j)
        ≡ load_at read (after x a) (act_after v a) more j)
    go true h = (omega arith, rw (ne_eqb x.loads j (λ same. omega arith)) refl)
    go false h = (omega arith, refl)

pub later : (e : Meaning) (x : Execution) (v : View) (a : Act) (more : List Act) → Foresees e x v (a ∷ more)
    → Foresees e (after x a) (act_after v a) more
later e x v a more f = record {
  maps = λ m k n le.
      f.maps m k n (let rises = version_after x a m in omega arith) ∙ later_version x v a more m k n le;
  loads = λ j le. (let l = later_load fetched x v a more j le in f.loads j l.0 ∙ l.1);
  marks = λ j le. (let l = later_load mark_fetched x v a more j le in f.marks j l.0 ∙ l.1);
}
