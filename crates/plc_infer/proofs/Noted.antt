-- What was replaced, and how it is put back.
use Rattle.std.proofs.Common.{◌≡◌, ℕ, ◌<◌, List, [], ◌∷◌, ◌++◌, length, get_or, refl, sym, ap, subst, ◌∙◌, length-set}
use Rattle.std.specs.Prelude.{slice_set, Some}
use Rattle.std.proofs.lemmas.List.{set-set, set-get_or}
use Rattle.std.proofs.lemmas.List.Elements.{All-push, All-pop}
use Rattle.plc_base.specs.declared.ids.PointId.{PointId}
use Rattle.plc_type.specs.declared.env.Env.{Env}
use Rattle.plc_infer.specs.declared.resuming.Replaced.{Replaced}
use Rattle.plc_infer.specs.Trials.{put_back, AreWithin, IsNoted}

-- the one that was replaced last is put back first
pub last_first : (rs : List Replaced) (r : Replaced) (envs : List Env)
    → put_back (rs ++ r ∷ []) envs ≡ put_back rs (slice_set envs r.point.0 r.env)
last_first [] r envs = refl
last_first (q ∷ rs) r envs = ap (λ (es : List Env). slice_set es q.point.0 q.env) (last_first rs r envs)

-- one is put back
pub one_back : (envs : List Env) (before rest : List Replaced) (r : Replaced) (end : List Env) → before ≡ rest ++ r ∷ []
    → put_back before envs ≡ end → AreWithin (length envs) before
    → (put_back rest (slice_set envs r.point.0 r.env) ≡ end) × AreWithin (length (slice_set envs r.point.0 r.env)) rest
one_back envs before rest r end last left w = (
  sym (last_first rest r envs) ∙ ap (λ (rs : List Replaced). put_back rs envs) (sym last) ∙ left,
  subst (λ (n : ℕ). AreWithin n rest) (sym (length-set envs r.point.0 r.env))
      (All-pop (λ (x : Replaced). x.point.0 < length envs) before rest (Some r) last w).0,
)

-- one more was replaced
pub one_noted : (envs new : List Env) (before now : List Replaced) (p : PointId) (old made : Env)
    → AreWithin (length envs) before → p.0 < length envs → old ≡ get_or envs p.0 old
    → now ≡ before ++ record { point = p; env = old } ∷ [] → new ≡ slice_set envs p.0 made → IsNoted envs new before now
one_noted envs new before now p old made w small is log put =
    let r : Replaced = record { point = p; env = old } in
    let again : slice_set (slice_set envs p.0 made) p.0 old ≡ envs = set-set envs p.0 made old
    ∙ ap (slice_set envs p.0) is ∙ set-get_or envs p.0 old in
    let long : length new ≡ length envs = ap length put ∙ length-set envs p.0 made in
    let inside : AreWithin (length envs) (before ++ r ∷ []) = All-push (λ (x : Replaced). x.point.0 < length envs)
    before r w small in
    record {
      back = ap (λ (rs : List Replaced). put_back rs new) log ∙ last_first before r new
          ∙ ap (put_back before) (ap (λ (es : List Env). slice_set es p.0 old) put ∙ again);
      within = subst (λ (n : ℕ). AreWithin n now) (sym long) (subst (AreWithin (length envs)) (sym log) inside);
      count = long;
    }

-- what was noted first, and then more
pub noted_more : (a b c : List Env) (xs ys zs : List Replaced) → IsNoted a b xs ys → IsNoted b c ys zs
    → IsNoted a c xs zs
noted_more a b c xs ys zs h k = record { back = k.back ∙ h.back; within = k.within; count = k.count ∙ h.count }
