use Rattle.std.proofs.Common.{◌≡◌, ℕ, Bool, true, false, List, [], ◌∷◌, map, refl, sym, ap, subst, ◌∙◌}
use Rattle.std.specs.Prelude.{◌==◌, ◌||◌, IfOk, if◌then◌else◌}
use Rattle.std.specs.List.{list_any}
use Rattle.plc_base.specs.declared.ids.PointId.{PointId}
use Rattle.plc_lang.specs.Skeleton.{locals_at}
use Rattle.plc_auto.specs.Sets.{all_locations}
use Rattle.plc_type.specs.Environments.{bottom, entry}
use Rattle.plc_infer.specs.Programs.{number_of, program_of}
use Rattle.plc_infer.proofs.starts.start.Goals as goal

any_number : (es : List PointId) (p : ℕ) → list_any (λ (n : ℕ). n == p) (map number_of es) ≡ list_any (λ (e : PointId). e.0 == p) es
any_number [] p = refl
any_number (e ∷ es) p = ap (λ (b : Bool). (e.0 == p) || b) (any_number es p)

pub returns-then-is_entry : goal.returns-then-is_entry
returns-then-is_entry c =
    let s = program_of c.args.program.now in
    let m = locals_at s c.args.point in
    let is : list_any (λ (n : ℕ). n == c.args.point) s.entries ≡ true = any_number c.args.program.now.entries.now c.args.point ∙ sym c.is_entry.ensures ∙ c.if-is_entry.true in
    subst (λ (b : Bool). IfOk c.entry.result (λ env. env ≡ (if b then entry s.shared m (all_locations c.args.observer.now) else bottom s.shared m))) (sym is)
    (subst (λ (all : ℕ). IfOk c.entry.result (λ env. env ≡ entry s.shared m all)) c.all.ensures c.entry.ensures)

pub returns : goal.returns
returns c =
    let s = program_of c.args.program.now in
    let m = locals_at s c.args.point in
    let is : list_any (λ (n : ℕ). n == c.args.point) s.entries ≡ false = any_number c.args.program.now.entries.now c.args.point ∙ sym c.is_entry.ensures ∙ c.if-is_entry.false in
    subst (λ (b : Bool). IfOk c.bottom.result (λ env. env ≡ (if b then entry s.shared m (all_locations c.args.observer.now) else bottom s.shared m))) (sym is) c.bottom.ensures
