-- A step taken primitive by primitive, as the code does.
use Rattle.std.proofs.Common.{Result, Ok, Err, IfOk, set, ◌≡◌, ℕ, zero, suc, ◌+◌, ◌<◌, Bool, true, false, List, [], ◌∷◌, Option, Some, None, drop, length, get_or, refl, sym, ap, ◌∙◌, arith, length-set}
use Rattle.std.proofs.lemmas.List.{at_drop_more}
use Rattle.plc_lang.specs.declared.syntax.Primitive.{Primitive}
use Rattle.plc_lang.specs.Shape.{Shape, PrimitiveIn, PrimitivesIn}
use Rattle.plc_auto.specs.declared.event.Event.{Event}
use Rattle.plc_base.specs.declared.memory.NoMemory.{NoMemory}
use Rattle.plc_mem.specs.Fit.{Kept}
use Rattle.plc_mem.specs.declared.cell.Outcome.{Outcome}
use Rattle.plc_mem.specs.declared.cell.Outcome.TheVariants.{Next, Blocked, Race}
use Rattle.plc_mem.specs.declared.cell.RaceKind.{RaceKind}
use Rattle.plc_mem.specs.State.{State, Locals, no_locals, with_locals}
use Rattle.plc_base.specs.Tables.{put_at}
use Rattle.plc_base.proofs.Lists.{held_below}
use Rattle.plc_mem.specs.Primitives.{race_of, goes, after, event_of}
use Rattle.plc_mem.specs.Outcomes.{outcome, moved, outcome_of, next_of}
use Rattle.plc_run.specs.Run.{Ending, Stuck, Raced, turn, recorded, execute}
use Rattle.plc_run.specs.declared.execute.Ended.{Ended}
use Rattle.plc_run.specs.Ended.{heard, ending, InitEnds}

-- what the outcome of the first primitive makes of what the others come to
abbrev pub turned : Outcome → ℕ → Ending → Ending
turned (Next e) k next = next
turned Blocked k next = Stuck
turned (Race kind) k next = Raced kind k

pub execute_first : (s : State) (h : List Event) (t a k : ℕ) (p : Primitive) (ps : List Primitive) → execute s h t a k (p ∷ ps) ≡ turned (outcome_of s t a p) k (execute (next_of s t a p) (heard h (outcome_of s t a p)) t a (k + 1) ps)
unfolding outcome_of next_of
execute_first s h t a k p ps = go (race_of s t p) (goes s t a p)
  where
    go : (r : Option RaceKind) (g : Bool) → turn r g k (execute (after s t a p) (recorded h (event_of s t p)) t a (k + 1) ps)
        ≡ turned (outcome r g (event_of s t p)) k (execute (moved r g s (after s t a p)) (heard h (outcome r g (event_of s t p))) t a (k + 1) ps)
    go (Some kind) g = refl
    go None true = refl
    go None false = refl

pub fit_at : (h : Shape) (ps : List Primitive) (k : ℕ) (d : Primitive) → PrimitivesIn h ps → k < length ps → PrimitiveIn h (get_or ps k d)
fit_at h [] k d fit l = absurd (omega arith)
fit_at h (p ∷ ps) zero d fit l = fit.0
fit_at h (p ∷ ps) (suc k) d fit l = fit_at h ps k d fit.1 (omega arith)

pub execute_at : (s : State) (h : List Event) (t a k : ℕ) (ps : List Primitive) (d : Primitive) → k < length ps
    → execute s h t a k (drop k ps) ≡ turned (outcome_of s t a (get_or ps k d)) k (execute (next_of s t a (get_or ps k d)) (heard h (outcome_of s t a (get_or ps k d))) t a (k + 1) (drop (k + 1) ps))
execute_at s h t a k ps d l = at_drop_more (execute s h t a k) ps k d l ∙ execute_first s h t a k (get_or ps k d) (drop (k + 1) ps)

pub execute_stuck : (s : State) (h : List Event) (t a k : ℕ) (ps : List Primitive) (d : Primitive) (end : Ending) → k < length ps → Blocked ≡ outcome_of s t a (get_or ps k d) → execute s h t a k (drop k ps) ≡ end → Stuck ≡ end
execute_stuck s h t a k ps d end l e same =
    let next = λ (o : Outcome). turned o k (execute (next_of s t a (get_or ps k d)) (heard h o) t a (k + 1) (drop (k + 1) ps)) in
    ap next e ∙ sym (execute_at s h t a k ps d l) ∙ same

pub execute_raced : (s : State) (h : List Event) (t a k : ℕ) (ps : List Primitive) (d : Primitive) (kind : RaceKind) (end : Ending) → k < length ps → Race kind ≡ outcome_of s t a (get_or ps k d) → execute s h t a k (drop k ps) ≡ end → Raced kind k ≡ end
execute_raced s h t a k ps d kind end l e same =
    let next = λ (o : Outcome). turned o k (execute (next_of s t a (get_or ps k d)) (heard h o) t a (k + 1) (drop (k + 1) ps)) in
    ap next e ∙ sym (execute_at s h t a k ps d l) ∙ same

pub execute_went : (s new : State) (h g : List Event) (t a k : ℕ) (ps : List Primitive) (d : Primitive) (e : Option Event) (end : Ending) → k < length ps
    → Next e ≡ outcome_of s t a (get_or ps k d) → new ≡ next_of s t a (get_or ps k d) → g ≡ heard h (Next e) → execute s h t a k (drop k ps) ≡ end → execute new g t a (k + 1) (drop (k + 1) ps) ≡ end
execute_went s new h g t a k ps d e end l out to heard_so same =
    let next = λ (o : Outcome). turned o k (execute (next_of s t a (get_or ps k d)) (heard h o) t a (k + 1) (drop (k + 1) ps)) in
    rw (to, heard_so) (ap next out ∙ sym (execute_at s h t a k ps d l) ∙ same)

-- ---- locals that are taken out and given back

put_back : {A : Type 0} (xs : List (Option A)) (t : ℕ) (l : A) → get_or xs t None ≡ Some l → put_at None (set xs t None) t (Some l) ≡ xs
put_back [] t l e = cc
put_back (x ∷ xs) zero l e = ap (λ y. y ∷ xs) (sym e)
put_back (x ∷ xs) (suc t) l e = ap (λ ys. x ∷ ys) (put_back xs t l e)

pub given_back : (s : State) (t : ℕ) (l : Locals) → get_or s.locals t None ≡ Some l → with_locals (record s { locals = set s.locals t None }) t (Some l) ≡ s
unfolding with_locals
given_back s t l e = ap (λ xs. record s { locals = xs }) (put_back s.locals t l e)

-- the thread has a place for its locals, which holds none
set_none : {A : Type 0} (xs : List (Option A)) (t : ℕ) → get_or (set xs t None) t None ≡ None
set_none [] t = refl
set_none (x ∷ xs) zero = refl
set_none (x ∷ xs) (suc t) = set_none xs t

pub place_there : (s lent new : State) (t : ℕ) (l : Locals) → get_or s.locals t None ≡ Some l → lent ≡ record s { locals = set s.locals t None } → new.locals ≡ lent.locals → t < length new.locals
place_there s lent new t l held rest same =
    omega (arith, held_below s.locals t l held, ap (λ (s : State). length s.locals) rest, length-set s.locals t None, ap length same)

pub place_empty : (s lent new : State) (t : ℕ) → lent ≡ record s { locals = set s.locals t None } → new.locals ≡ lent.locals → get_or new.locals t None ≡ None
place_empty s lent new t rest same =
    ap (λ xs. get_or xs t None) same ∙ ap (λ (s : State). get_or s.locals t None) rest ∙ set_none s.locals t

-- ---- `init`

pub init_ends : (s new : State) (h g : List Event) (init ps : List Primitive) (me left : Locals) (r : Result Ended NoMemory) → me ≡ no_locals → ps ≡ init
    → IfOk r (λ e. ending e (with_locals new 0 (Some left)) g ≡ execute (with_locals s 0 (Some me)) h 0 1 0 ps) → Kept s me new left → IfOk r (λ e. InitEnds s h init e new g)
init_ends s new h g init ps me left (Ok e) none same ends kept =
    record { left = left; ends = ends ∙ (λ i. execute (with_locals s 0 (Some (none i))) h 0 1 0 (same i)); kept = kept.locals }
init_ends s new h g init ps me left (Err e) none same ends kept = tt
