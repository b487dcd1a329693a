-- From what erasure says of each claim that a step reaches to the claims that types ask for, one primitive after another.
use Rattle.std.proofs.Common.{◌≡◌, ℕ, ◌+◌, true, List, [], ◌∷◌, ◌++◌, None, refl, ap, ◌∙◌}
use Rattle.plc_lang.specs.declared.syntax.Var.{Var}
use Rattle.plc_lang.specs.declared.syntax.Primitive.{Primitive}
use Rattle.plc_lang.specs.declared.syntax.Primitive.TheVariants.{Active}
use Rattle.plc_auto.specs.declared.event.Event.{Event}
use Rattle.plc_auto.specs.declared.observer.Observer.{Observer}
use Rattle.plc_flow.specs.declared.flow.Flow.{Flow}
use Rattle.plc_moves.specs.declared.words.Move.{Move}
use Rattle.plc_moves.specs.declared.words.Move.TheVariants.{Step as Take}
use Rattle.plc_mem.specs.State.{State}
use Rattle.plc_mem.specs.Primitives.{race_of, goes, after, event_of}
use Rattle.plc_mem.specs.Outcomes.{address_or_null}
use Rattle.plc_run.specs.Run.{Configuration, Run, Fine, turn, recorded, execute}
use Rattle.plc_sound.specs.Claims.{ClaimTrue, ClaimsTrue, MoveClaims}
use Rattle.plc_erasure.specs.Erasure.{IsActive}
use Rattle.plc_erasure.specs.Laws.{ClaimsAreActive}
use Rattle.plc_safety.proofs.Active.{active_for_types}

-- the claims of the primitives are active in memory where they are reached; n is the number of the first
abbrev pub Reached : State → List Event → ℕ → ℕ → ℕ → List Primitive → Type 0
Reached s h t a n ks =
    (ps qs : List Primitive) (v : Var) → ks ≡ ps ++ Active v ∷ qs
    → (new : State) (heard : List Event) → execute s h t a n ps ≡ Fine new heard → IsActive new t v

-- so the first is true
first_true : (s : State) (h : List Event) (t a n : ℕ) (k : Primitive) (ks : List Primitive) → Reached s h t a n (k ∷ ks) → ClaimTrue s t k
first_true s h t a n (Active p) ks all = active_for_types s t p (all [] ks p refl s h refl)
first_true s h t a n k ks all = tt

-- a primitive that is no race and goes hands on to those after it
handed_on : (s : State) (h : List Event) (t a n : ℕ) (k : Primitive) (ps : List Primitive) → race_of s t k ≡ None → goes s t a k ≡ true
    → execute s h t a n (k ∷ ps) ≡ execute (after s t a k) (recorded h (event_of s t k)) t a (n + 1) ps
handed_on s h t a n k ps fine may =
    let next = execute (after s t a k) (recorded h (event_of s t k)) t a (n + 1) ps in
    ap (λ r. turn r (goes s t a k) n next) fine ∙ ap (λ b. turn None b n next) may

-- so all are true
pub all_true : (s : State) (h : List Event) (t a n : ℕ) (ks : List Primitive) → Reached s h t a n ks → ClaimsTrue s t a ks
all_true s h t a n [] all = tt
all_true s h t a n (k ∷ ks) all = (
  first_true s h t a n k ks all,
  λ fine may. all_true (after s t a k) (recorded h (event_of s t k)) t a (n + 1) ks
      (λ ps qs v whole new heard ran. all (k ∷ ps) qs v (ap (λ xs. k ∷ xs) whole) new heard (handed_on s h t a n k ps fine may ∙ ran)),
)

-- the claims of a move
pub move_claims : (flow : Flow) (o : Observer) (threads n : ℕ) (c : Configuration) → ClaimsAreActive flow o threads → Run flow o threads n c
    → (move : Move) → MoveClaims flow threads c move
move_claims flow o threads n c active run (Take t nth addr) = λ p step may.
    all_true c.state c.history t (address_or_null addr) 0 step.prims (active n c run t nth addr p step may)
move_claims flow o threads n c active run move = tt
