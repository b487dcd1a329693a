-- What `certify` shows can be read again: the sets of a pre-typing's environments are those that a certificate may have,
-- and the numbers of a tree that closes a ground set are places in that set.
use Rattle.std.proofs.Common.{◌≡◌, ℕ, suc, ◌<◌, List, [], ◌∷◌, ◌++◌, length, map, true, refl, sym, ap, subst, arith}
use Rattle.std.specs.List.{AllByRecursion}
use Rattle.std.proofs.lemmas.Bool.{and_parts}
use Rattle.plc_base.proofs.MaskLemmas.{within_small}
use Rattle.plc_auto.specs.declared.observer.Observer.{Observer}
use Rattle.plc_type.specs.declared.env.PtrType.{PtrType}
use Rattle.plc_type.specs.declared.env.Env.{Env}
use Rattle.plc_xfer.specs.Typings.{IsEnvironment, IsPretyping, IsTyping, env_at, all_types}
use Rattle.plc_xfer.proofs.Order.{range}
use Rattle.plc_lang.specs.Skeleton.{Skeleton}
use Rattle.plc_flow.specs.declared.flow.Flow.{Flow}
use Rattle.plc_flow.specs.Skeleton.{skeleton_of}
use Rattle.plc_ground.specs.declared.terms.Lit.{Lit}
use Rattle.plc_ground.specs.declared.terms.Node.{Node}
use Rattle.plc_ground.specs.declared.terms.Node.TheVariants.{Split, Leaf}
use Rattle.plc_ground.specs.declared.terms.GroundSet.{GroundSet}
use Rattle.plc_ground.specs.Fit.{IsWellFormed}
use Rattle.plc_ground.specs.Trees.{Close, below}
use Rattle.plc_cert.specs.Fits.{NodeFits, PointerFits, EnvFits, without_shared}
use Rattle.plc_cert.proofs.RoundTrip.{line_is_read}
use Rattle.plc_verify.specs.Environments.{with_shared, completed}
use Rattle.plc_check.specs.Certified.{CertificatesAreVerified}

-- ---- environments

module _ (o : Observer) where
  types_fit : (w : ℕ) (ts : List PtrType) → w < 256 → all_types o w ts ≡ true → AllByRecursion PointerFits ts
  types_fit w [] small h = tt
  types_fit w (t ∷ ts) small h =
      let each = and_parts _ _ h in
      let sets = and_parts _ _ (and_parts _ _ each.0).0 in
      ((sets.0, within_small t.m w sets.1 small), types_fit w ts small each.1)

  env_fits : (n m : ℕ) (e : Env) → IsEnvironment o n m e → EnvFits e
  env_fits n m e is = let small = (range o n m e is).0 in (small, types_fit e.w e.locals small is.types)

  each_fits : (envs : List Env) → ((p : ℕ) → p < length envs → EnvFits (env_at envs p)) → AllByRecursion EnvFits envs
  each_fits [] h = tt
  each_fits (e ∷ es) h = (h 0 (omega arith), each_fits es (λ p small. h (suc p) (omega (arith, small))))

  pub envs_fit : (s : Skeleton) (envs : List Env) → IsPretyping o s envs → AllByRecursion EnvFits envs
  envs_fit s envs h = each_fits envs (λ p small. env_fits s.shared _ (env_at envs p) (h.environments p (omega (arith, small, h.count))))

-- ---- trees

module _ (s : GroundSet) (well : IsWellFormed s) where
  pub nodes_fit : (branches : List (List Lit)) (nodes : List Node) → Close s branches nodes → AllByRecursion NodeFits nodes
  nodes_fit [] [] h = tt
  nodes_fit [] (n ∷ ns) h = absurd h
  nodes_fit (b ∷ bs) [] h = absurd h
  nodes_fit (b ∷ bs) (Split c ∷ ns) h =
      (let few = well.few_clauses in omega (arith, h.0), nodes_fit (below s b (Split c) ++ bs) ns h.1)
  nodes_fit (b ∷ bs) (Leaf x y ∷ ns) h =
      let few = well.few_terms in
      ((omega (arith, h.0.0), omega (arith, h.0.1)), nodes_fit (below s b (Leaf x y) ++ bs) ns h.1)

-- ---- the certificate that is read

-- a judge puts in what the text leaves out
completed_again : (flow : Flow) (envs : List Env) → completed flow (map without_shared envs) ≡ completed flow envs
completed_again flow [] = refl
completed_again flow (e ∷ es) = ap (λ (rest : List Env). with_shared (length flow.file.shared) e ∷ rest) (completed_again flow es)

pub read_and_valid : CertificatesAreVerified
read_and_valid j cert c = (
  line_is_read cert c.fits,
  record {
    version = c.valid.version;
    typing = subst (IsTyping j.observer (skeleton_of j.flow)) (sym (completed_again j.flow cert.env)) c.valid.typing;
    trees = c.valid.trees;
  },
)
