-- Every place is valid from the first state on, and assignments keep it so: `init` is never a race, and only calls and returns are heard.
use Rattle.std.proofs.Common.{◌≡◌, ℕ, ◌+◌, Bool, true, false, not, List, [], ◌∷◌, Some, None, refl, sym, ap, ◌∙◌, subst}
use Rattle.std.specs.List.{list_any}
use Rattle.std.proofs.lemmas.Bool.{or_parts, not-false}
use Rattle.plc_lang.specs.declared.syntax.Primitive.{Primitive}
use Rattle.plc_lang.specs.declared.syntax.Primitive.TheVariants.{Null, Copy, New, Load, Store, StoreNull, DataSet, DataLoad, DataStore, Call, Done, Ghost}
use Rattle.plc_lang.specs.declared.syntax.Primitive.TheVariants.{Mark, Unmark}
use Rattle.plc_lang.specs.WellSorted.{is_initial}
use Rattle.plc_flow.specs.declared.flow.Flow.{Flow}
use Rattle.plc_flow.specs.WellSorted.{FlowIsWellSorted}
use Rattle.plc_mem.specs.State.{State, place, with_locals, first_state, no_locals}
use Rattle.plc_mem.specs.Primitives.{race_of, goes, after, event_of}
use Rattle.plc_mem.proofs.Validity.{AllValid, after_valid, given_valid, first_valid}
use Rattle.plc_run.specs.Run.{Ending, Fine, Stuck, Raced, turn, recorded, execute, Configuration, beginning, initialised}
use Rattle.plc_run.specs.Quiet.{IsQuiet, InitIsQuiet}

initial_no_race : (s : State) (t : ℕ) (k : Primitive) → AllValid s → is_initial k ≡ true → race_of s t k ≡ None
initial_no_race s t (Null p) all is = refl
initial_no_race s t (Copy p q) all is = refl
initial_no_race s t (New p) all is = refl
initial_no_race s t (Load p q f) all is = rw (all (place t q)) refl
initial_no_race s t (Store p f q) all is = rw (all (place t p)) refl
initial_no_race s t (StoreNull p f) all is = rw (all (place t p)) refl
initial_no_race s t (DataSet x e) all is = refl
initial_no_race s t (DataLoad x q f) all is = rw (all (place t q)) refl
initial_no_race s t (DataStore p f e) all is = rw (all (place t p)) refl
initial_no_race s t (Mark p q) all is = refl
initial_no_race s t (Unmark p q) all is = refl
initial_no_race s t (Ghost p g v) all is = refl
initial_no_race s t k all is = cc

initial_unheard : (s : State) (t : ℕ) (k : Primitive) → is_initial k ≡ true → event_of s t k ≡ None
initial_unheard s t (Call f r) is = cc
initial_unheard s t (Done f) is = cc
initial_unheard s t k is = refl

turn_quiet : (b : Bool) (k : ℕ) (next : Ending) → (b ≡ true → IsQuiet next) → IsQuiet (turn None b k next)
turn_quiet true k next then = then refl
turn_quiet false k next then = tt

execute_quiet : (s : State) (t a k : ℕ) (ps : List Primitive) → AllValid s → list_any (λ p. not (is_initial p)) ps ≡ false → IsQuiet (execute s [] t a k ps)
execute_quiet s t a k [] all initial = refl
execute_quiet s t a k (p ∷ ps) all initial =
    let parts = or_parts (not (is_initial p)) (list_any (λ p. not (is_initial p)) ps) initial in
    let is = not-false (is_initial p) parts.0 in
    subst (λ r. IsQuiet (turn r (goes s t a p) k (execute (after s t a p) (recorded [] (event_of s t p)) t a (k + 1) ps))) (sym (initial_no_race s t p all is))
    (subst (λ e. IsQuiet (turn None (goes s t a p) k (execute (after s t a p) (recorded [] e) t a (k + 1) ps))) (sym (initial_unheard s t p is))
    (turn_quiet (goes s t a p) k (execute (after s t a p) [] t a (k + 1) ps) (λ may. execute_quiet (after s t a p) t a (k + 1) ps (after_valid s t a p all may) parts.1)))

empty_first : (threads : ℕ) (end : Ending) (c : Configuration) → IsQuiet end → beginning threads end ≡ Some c → c.history ≡ []
empty_first threads (Fine s h) c quiet e = let same : h ≡ c.history = cc in sym same ∙ quiet
empty_first threads Stuck c quiet e = cc
empty_first threads (Raced kind k) c quiet e = absurd quiet

blocked_first : (threads : ℕ) (end : Ending) → IsQuiet end → beginning threads end ≡ None → end ≡ Stuck
blocked_first threads (Fine s h) quiet e = cc
blocked_first threads Stuck quiet e = refl
blocked_first threads (Raced kind k) quiet e = absurd quiet

pub quiet_init : (flow : Flow) (threads : ℕ) → FlowIsWellSorted flow → InitIsQuiet flow threads
quiet_init flow threads sorted =
    let valid = given_valid (first_state flow threads) 0 (Some no_locals) (first_valid _ _ threads) (λ v. refl) in
    let quiet = execute_quiet (with_locals (first_state flow threads) 0 (Some no_locals)) 0 1 0 flow.file.init valid sorted.file.init.initial in
    record {
      quiet = quiet;
      empty = λ c. empty_first threads (initialised flow threads) c quiet;
      blocked = (blocked_first threads (initialised flow threads) quiet, ap (beginning threads));
    }
