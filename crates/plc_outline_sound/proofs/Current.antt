-- What is current after an act: versions of maps, and how many fields were read.
use Rattle.std.proofs.Common.{◌≡◌, ℕ, ◌+◌, Bool, true, false, cond, refl, ◌∙◌, arith}
use Rattle.std.specs.Prelude.{if◌then◌else◌}
use Rattle.std.proofs.lemmas.List.Sums.{fold_push}
use Rattle.plc_ground.specs.declared.terms.Symbol.{Symbol}
use Rattle.plc_ground.specs.declared.terms.Map.{Map}
use Rattle.plc_vocabulary.specs.declared.acts.Act.{Act}
use Rattle.plc_vocabulary.specs.declared.acts.Act.TheVariants.{Assign, Make, Fetch, FetchMarked, Update, Test}
use Rattle.plc_vocabulary.specs.declared.acts.Act.TheVariants.{Differ, Skip}
use Rattle.plc_outline_sound.proofs.Fetches.{is_fetch}
use Rattle.plc_encoding.specs.declared.execution.Execution.{Execution}
use Rattle.plc_encoding.specs.Execution.{version, after}
use Rattle.plc_ground.specs.Symbols.{same_map}
use Rattle.plc_ground.proofs.Symbols.{same_map_refl}
use Rattle.plc_outline_sound.proofs.Acts.{View, act_after, with_symbol, with_map, changed}

abbrev pub bit : Bool → ℕ
bit b = cond b 1 0

-- how often an act writes a map
abbrev pub writes : Act → Map → ℕ
writes (Assign p e) l = 0
writes (Make p) l = 0
writes (Fetch p q f pointer) l = 0
writes (FetchMarked p q f) l = 0
writes (Update checked m p e) l = bit (same_map l m)
writes (Test a b equal) l = 0
writes (Differ a b) l = 0
writes Skip l = 0

pub version_after : (x : Execution) (a : Act) (l : Map) → version (after x a) l ≡ version x l + writes a l
version_after x (Assign p e) l = omega arith
version_after x (Make p) l = omega arith
version_after x (Fetch p q f pointer) l = omega arith
version_after x (FetchMarked p q f) l = omega arith
version_after x (Update checked m p e) l =
    fold_push (λ (n : ℕ) (k : Map). n + cond (same_map l k) 1 0) 0 x.written m
version_after x (Test a b equal) l = omega arith
version_after x (Differ a b) l = omega arith
version_after x Skip l = omega arith

pub version_next : (x : Execution) (checked : Bool) (m : Map) (p e : Symbol)
    → version (after x (Update checked m p e)) m ≡ version x m + 1
version_next x checked m p e = version_after x (Update checked m p e) m ∙ rw (same_map_refl m) refl

-- a map whose version stays isn't written
pub map_stays : (v : View) (a : Act) (l : Map) (n : ℕ) → writes a l ≡ 0 → (act_after v a).map l n ≡ v.map l n
unfolding with_symbol with_map
map_stays v (Assign p e) l n h = refl
map_stays v (Make p) l n h = refl
map_stays v (Fetch p q f pointer) l n h = refl
map_stays v (FetchMarked p q f) l n h = refl
map_stays v (Update checked m p e) l n h = go (same_map l m) h
  where
    go : (b : Bool) → bit b ≡ 0
        → (if b then changed (v.map l) (v.symbol p) (v.symbol e) n else v.map l n) ≡ v.map l n
    go true h = absurd (omega arith)
    go false h = refl
map_stays v (Test a b equal) l n h = refl
map_stays v (Differ a b) l n h = refl
map_stays v Skip l n h = refl

pub loads_after : (x : Execution) (a : Act) → (after x a).loads ≡ x.loads + cond (is_fetch a) 1 0
loads_after x (Assign p e) = omega arith
loads_after x (Make p) = omega arith
loads_after x (Fetch p q f pointer) = refl
loads_after x (FetchMarked p q f) = refl
loads_after x (Update checked m p e) = omega arith
loads_after x (Test a b equal) = omega arith
loads_after x (Differ a b) = omega arith
loads_after x Skip = omega arith
