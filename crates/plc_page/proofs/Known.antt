-- What is known at a point by the strongest pre-typing fits the observer.
use Rattle.std.proofs.Common.{◌≡◌, ℕ, List, Some, subst, arith}
use Rattle.std.specs.Prelude.{slice_get}
use Rattle.std.proofs.lemmas.Option.{slice_get_within, get_or_from_slice_get}
use Rattle.plc_lang.specs.Skeleton.{Skeleton, locals_at}
use Rattle.plc_auto.specs.declared.observer.Observer.{Observer}
use Rattle.plc_type.specs.declared.env.Env.{Env}
use Rattle.plc_type.specs.Environments.{bottom}
use Rattle.plc_xfer.specs.Rules.{FitsObserver}
use Rattle.plc_xfer.specs.Typings.{IsStrongest, env_at}
use Rattle.plc_xfer.proofs.Facts.{well_formed_fits}
use Rattle.plc_xfer.proofs.Order.{well_formed}

pub known_fits : (o : Observer) (s : Skeleton) (envs : List Env) (p : ℕ) (e : Env) → IsStrongest o s envs → slice_get envs p ≡ Some e → FitsObserver o e
known_fits o s envs p e strongest at =
    let small = slice_get_within envs p e at in
    let count = strongest.pretyping.count in
    let is = strongest.pretyping.environments p (omega arith) in
    subst (λ (x : Env). FitsObserver o x) (get_or_from_slice_get envs p e (bottom 0 0) at)
    (well_formed_fits o (env_at envs p) (well_formed o s.shared (locals_at s p) (env_at envs p) is))
