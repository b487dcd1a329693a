-- The table follows the history: what a move leaves of both.
use Rattle.std.proofs.Common.{◌≡◌, ℕ, Bool, true, false, cond, List, [], ◌∷◌, ◌++◌, refl, sym, ap, ◌∙◌, subst}
use Rattle.std.proofs.lemmas.Bool.{ne_eqb}
use Rattle.plc_auto.specs.declared.event.Event.{Event}
use Rattle.plc_auto.specs.declared.event.Event.TheVariants.{Free as Freed}
use Rattle.plc_auto.specs.declared.observer.Observer.{Observer}
use Rattle.plc_auto.specs.Location.{location, advance}
use Rattle.plc_auto.specs.Locations.{Locations, of_threads, locations_after, locations_after_all, may_free as bears}
use Rattle.plc_auto.proofs.Watched.{threads_follow}
use Rattle.std.proofs.lemmas.List.Sums.{fold-append}
use Rattle.plc_mem.specs.State.{freed}
use Rattle.plc_run.specs.Reach.{Goes, Blocks, Forbids, may_free, free_of, IsUnheard, Reaches}
use Rattle.plc_run.proofs.Judged.{is_some_of, some_if, free_at, free_from}
use Rattle.plc_run.specs.Position.{Position, threads_of, Follows}

pub unheard : (o : Observer) (p q : Position) → IsUnheard p q → Follows o p → Follows o q
unheard o p q same follows = same.located ∙ follows ∙ (λ i. locations_after_all (of_threads o (sym same.threads i)) (sym same.history i))

pub heard : (o : Observer) (p q : Position) (events : List Event) → threads_of q ≡ threads_of p → q.here.history ≡ p.here.history ++ events → q.located ≡ locations_after_all p.located events → Follows o p → Follows o q
heard o p q events same longer moved follows =
    moved ∙ ap (λ l. locations_after_all l events) follows
    ∙ sym (fold-append (λ (l : Locations) (e : Event). locations_after e l) (of_threads o (threads_of p)) p.here.history events)
    ∙ (λ i. locations_after_all (of_threads o (sym same i)) (sym longer i))

-- the locations judge a free as the history does
pub judged : (o : Observer) (p : Position) (a : ℕ) → Follows o p → bears p.located a ≡ may_free o (λ t. location o p.here.history t a) a (threads_of p)
judged o p a follows =
    let at = λ (t : ℕ). location o p.here.history t a in
    let law = (threads_follow o (threads_of p)).frees p.here.history a in
    let there : bears p.located a ≡ bears (locations_after_all (of_threads o (threads_of p)) p.here.history) a = ap (λ l. bears l a) follows in
    there ∙ same_tests (bears (locations_after_all (of_threads o (threads_of p)) p.here.history) a) (may_free o at a (threads_of p))
    (λ b. free_from o at a (threads_of p) (λ t small. is_some_of (advance o t a (Freed a) (at t)) (law.0 b t small)))
    (λ b. law.1 (λ t small. some_if (advance o t a (Freed a) (at t)) (free_at o at a (threads_of p) t b small)))
  where
    same_tests : (x y : Bool) → (x ≡ true → y ≡ true) → (y ≡ true → x ≡ true) → x ≡ y
    same_tests true y f g = sym (f refl)
    same_tests false true f g = g refl
    same_tests false false f g = refl

-- ---- frees in code

pub free_forbidden : (o : Observer) (p : Position) (a : ℕ) → Follows o p → (a ≡ 0 → ⊥) → bears p.located a ≡ false → Forbids a ≡ free_of o p.here a
free_forbidden o p a follows pos keeps =
    let d = Goes (record p.here { state = freed p.here.state a; history = p.here.history ++ Freed a ∷ [] }) in
    let may = may_free o (λ t. location o p.here.history t a) a (threads_of p) in
    sym (ap (λ b. cond b Blocks (cond may d (Forbids a))) (ne_eqb a 0 pos) ∙ ap (λ b. cond b d (Forbids a)) (sym (judged o p a follows) ∙ keeps))

pub free_goes : (o : Observer) (p : Position) (a : ℕ) → Follows o p → (a ≡ 0 → ⊥) → bears p.located a ≡ true
    → Goes (record p.here { state = freed p.here.state a; history = p.here.history ++ Freed a ∷ [] }) ≡ free_of o p.here a
free_goes o p a follows pos frees =
    let d = Goes (record p.here { state = freed p.here.state a; history = p.here.history ++ Freed a ∷ [] }) in
    let may = may_free o (λ t. location o p.here.history t a) a (threads_of p) in
    sym (ap (λ b. cond b Blocks (cond may d (Forbids a))) (ne_eqb a 0 pos) ∙ ap (λ b. cond b d (Forbids a)) (sym (judged o p a follows) ∙ frees))

pub free_done : (o : Observer) (p q : Position) (a : ℕ) → Follows o p → (a ≡ 0 → ⊥) → bears p.located a ≡ true
    → q.here.state ≡ freed p.here.state a → q.here.history ≡ p.here.history ++ Freed a ∷ [] → q.here.points ≡ p.here.points → q.ended ≡ p.ended → q.steps ≡ p.steps → Reaches (free_of o p.here a) p q
free_done o p q a follows pos frees state history points ended steps =
    subst (λ r. Reaches r p q) (free_goes o p a follows pos frees) ((λ i. record { state = state i; history = history i; points = points i }), ended, steps)
