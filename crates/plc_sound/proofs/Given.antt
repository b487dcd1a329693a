-- Locals that come and go with a start and a return: other threads meet what they met, and the one that starts meets its entry.
use Rattle.std.proofs.Common.{◌≡◌, ℕ, List, get_or, Option, Some, None, refl, sym, ap, ◌∙◌, subst, inl, inr, ◌⊎◌}
use Rattle.std.proofs.lemmas.Bool.{cases_eq}
use Rattle.std.specs.Option.{unwrap_or}
use Rattle.plc_lang.specs.declared.syntax.Var.TheVariants.{Shared, Local}
use Rattle.plc_lang.specs.declared.syntax.Op.{Op}
use Rattle.plc_auto.specs.declared.event.Event.{Event}
use Rattle.plc_auto.specs.declared.observer.Observer.{Observer}
use Rattle.plc_mem.specs.declared.cell.Cell.{Cell}
use Rattle.plc_mem.specs.State.{State, Place, at_shared, at_local, at_field, Locals, null_cell, at, place, with_locals, starting, no_locals}
use Rattle.plc_base.proofs.Tables.{get-replicate}
use Rattle.plc_mem.proofs.Views.{gives}
use Rattle.plc_type.specs.declared.env.Env.{Env}
use Rattle.plc_xfer.specs.Rules.{type_of}
use Rattle.plc_sound.specs.Calm.{IsCalm}
use Rattle.plc_sound.specs.Meaning.{Fits, Meets, EnvMet}
use Rattle.plc_sound.proofs.Kept.{bare_met}

-- locals without a pointer that isn't null
abbrev pub AllNull : Option Locals → Type 0
AllNull l = (v : ℕ) → get_or (unwrap_or l no_locals).pointers v null_cell ≡ null_cell

pub none_null : AllNull None
none_null v = refl

pub starting_null : (op : Op) (args : List ℕ) → AllNull (Some (starting op args))
starting_null op args v = get-replicate null_cell _ v

-- each place holds what it held, or null
given_cells : (s : State) (t : ℕ) (l : Option Locals) → AllNull l → (q : Place) → (at (with_locals s t l) q ≡ at s q) ⊎ (at (with_locals s t l) q ≡ null_cell)
given_cells s t l null (at_shared i) = inl ((gives s t l).shared i)
given_cells s t l null (at_field a f) = inl ((gives s t l).fields a f)
given_cells s t l null (at_local u v) = elim (cases_eq u t) [
  | inl e ↦ inr (ap (λ u. at (with_locals s t l) (at_local u v)) e ∙ (gives s t l).pointers v ∙ null v)
  | inr ne ↦ inl ((gives s t l).others u v ne)
]

pub given_null : (s : State) (t : ℕ) (l : Option Locals) → AllNull l → (v : ℕ) → (at (with_locals s t l) (place t (Local v))).number ≡ 0
given_null s t l null v = ap (λ (c : Cell). c.number) ((gives s t l).pointers v ∙ null v)

pub given_met : (o : Observer) (h : List Event) (s : State) (t u : ℕ) (l : Option Locals) (e : Env) → (u ≡ t → ⊥) → AllNull l → IsCalm o e → EnvMet o h u s e → EnvMet o h u (with_locals s t l) e
given_met o h s t u l e ne null calm met = record {
  pointers = elim [
    | Shared i ↦ subst (λ ty. Meets o h u (with_locals s t l) (at_shared i) ty) (sym (calm.shared i)) (bare_met (at_shared i) (at (with_locals s t l) (at_shared i)) e.w met.addresses)
    | Local v ↦ λ nonnull.
        let same = (gives s t l).others u v ne in
        let f = met.pointers (Local v) (λ z. nonnull (ap (λ (c : Cell). c.number) same ∙ z)) in
        subst (λ c. Fits o h u (with_locals s t l) (at_local u v) c (type_of e (Local v))) (sym same) (record {
          somewhere = f.somewhere;
          safe = f.safe;
          active = λ g. (gives s t l).addresses.retired (at s (at_local u v)).number ∙ f.active g;
          alone = λ g r ne valid is. elim (given_cells s t l null r) [
            | inl there ↦ f.alone g r ne (ap (λ (c : Cell). c.valid) (sym there) ∙ valid) (ap (λ (c : Cell). c.number) (sym there) ∙ is)
            | inr gone ↦ nonnull (ap (λ (c : Cell). c.number) same ∙ sym is ∙ ap (λ (c : Cell). c.number) gone)
          ];
        })
  ];
  addresses = met.addresses;
}
