-- What a true claim says of memory: an invalid pointer isn't null and has a node that was freed, and so one that is retired.
use Rattle.std.proofs.Common.{◌≡◌, ℕ, Bool, true, false, not, ◌||◌, ◌==◌, sym, ap, ◌∙◌, inl, inr, ◌⊎◌}
use Rattle.std.proofs.lemmas.Bool.{cases_Bool, not-true, eq-eqb, false≢true}
use Rattle.plc_lang.specs.declared.syntax.Var.{Var}
use Rattle.plc_lang.specs.declared.syntax.Primitive.TheVariants.{Active}
use Rattle.plc_mem.specs.State.{State, is_null, is_retired}
use Rattle.plc_mem.specs.Primitives.{cell_at}
use Rattle.plc_mem.specs.Coherence.{IsCoherent}
use Rattle.plc_gc.specs.declared.slot.Map.TheVariants.{Retirement as retirement}
use Rattle.plc_gc.specs.State.{GcState, entry, is_retired as is_retired_node}
use Rattle.plc_gc.specs.Primitives.{node_at}
use Rattle.plc_gc.specs.Claims.{claim_holds}
use Rattle.plc_erasure.specs.Trace.{Trace}
use Rattle.plc_erasure.specs.Erasure.{IsErased, IsActive}
use Rattle.plc_erasure.proofs.Changes.{shown}

kept_node : (x y : Bool) → (x || not y) ≡ true → x ≡ false → y ≡ false
kept_node true y e f = cc
kept_node false y e f = not-true y e

pub claimed : (trace : Trace) (s : State) (g : GcState) (t : ℕ) (p : Var) → IsCoherent s → IsErased trace s g → claim_holds g t (Active p) ≡ true → IsActive s t p
claimed trace s g t p k er claim = record { valid = valid_by (cases_Bool (cell_at s t p).valid) (cases_Bool (is_null (cell_at s t p))); kept = λ some. kept_by some (valid_by (cases_Bool (cell_at s t p).valid) (cases_Bool (is_null (cell_at s t p)))) }
  where
    not_retired : is_null (cell_at s t p) ≡ false → is_retired_node g (node_at g t p) ≡ false
    not_retired some = kept_node (node_at g t p == 0) (is_retired_node g (node_at g t p)) claim (sym (shown trace s g er t p).null ∙ some)

    valid_by : (((cell_at s t p).valid ≡ true) ⊎ ((cell_at s t p).valid ≡ false)) → ((is_null (cell_at s t p) ≡ true) ⊎ (is_null (cell_at s t p) ≡ false)) → (cell_at s t p).valid ≡ true
    valid_by (inl v) z = v
    valid_by (inr v) (inl null) = (k.cells _).null null
    valid_by (inr v) (inr some) = absurd (false≢true (sym (not_retired some) ∙ eq-eqb (entry g retirement (node_at g t p)) 1 (er.gone (node_at g t p) ((shown trace s g er t p).invalid v))))

    kept_by : is_null (cell_at s t p) ≡ false → (cell_at s t p).valid ≡ true → is_retired s (cell_at s t p).number ≡ false
    kept_by some valid = er.retired (cell_at s t p).number ((k.cells _).used valid some) ∙ ap (is_retired_node g) (sym ((shown trace s g er t p).valid valid some)) ∙ not_retired some
