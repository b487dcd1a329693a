-- The table of a walk along its path.
use Rattle.std.proofs.Common.{◌≡◌, ℕ, List, [], ◌∷◌, ◌++◌, length, take, drop, reverse, sym, subst}
use Rattle.plc_ground.specs.declared.terms.Lit.{Lit}
use Rattle.plc_ground.specs.declared.terms.GroundSet.{GroundSet}
use Rattle.plc_ground.specs.declared.path.Turn.{Turn}
use Rattle.plc_ground.specs.declared.equalities.Change.{Change}
use Rattle.plc_ground.specs.declared.equalities.Equalities.{Equalities}
use Rattle.plc_ground.specs.Classes.{IsClosure}
use Rattle.plc_ground.specs.Changes.{undone, Extends}
use Rattle.plc_ground.specs.Paths.{literal, branch_of, IsAlong}
use Rattle.plc_ground.proofs.Changing.{extends_back, extends_front}
use Rattle.plc_base.proofs.Lists.{newest_first}

-- the classes are those of the branch
pub closure_along : (s : GroundSet) (ts : List Turn) (trail : List Change) (class : List ℕ) → IsAlong s ts trail class →
    IsClosure s.terms (branch_of s ts) class
closure_along s [] trail class h = h
closure_along s (t ∷ ts) trail class h = h.0

-- a turn more
pub along_entered : (s : GroundSet) (path longer : List Turn) (t : Turn) (old new : Equalities) → t.mark ≡ length old.trail → Extends old new → longer ≡ path ++ t ∷ [] →
    ((branch : List Lit) → IsClosure s.terms branch old.class → IsClosure s.terms (branch ++ literal s t ∷ []) new.class) →
    IsAlong s (reverse path) old.trail old.class → IsAlong s (reverse longer) new.trail new.class
along_entered s path longer t old new m e is closed h =
    subst (λ (ts : List Turn). IsAlong s ts new.trail new.class) (sym (newest_first path longer t is)) (
      closed (branch_of s (reverse path)) (closure_along s (reverse path) old.trail old.class h),
      subst (λ n. IsAlong s (reverse path) (take n new.trail) (undone (drop n new.trail) new.class)) (sym m)
          (subst (λ (u : List Change). IsAlong s (reverse path) u
          (undone (drop (length old.trail) new.trail) new.class)) (sym (extends_front old new e))
          (subst (λ (c : List ℕ). IsAlong s (reverse path) old.trail c) (sym (extends_back old new e)) h)),
    )
