-- A certificate with an item that fails isn't valid; what a valid one shows.
use Rattle.std.proofs.Common.{◌≡◌, ℕ, zero, suc, ◌<◌, true, List, [], ◌∷◌, length, get_or, Some, None, sym, ap, subst, ◌∙◌, arith, inl, inr}
use Rattle.std.specs.Prelude.{option_map, Result, Ok, Err, MatchResult}
use Rattle.std.proofs.lemmas.Bool.{and_parts, cases_lt}
use Rattle.std.proofs.lemmas.List.{length-map}
use Rattle.std.proofs.lemmas.Option.{slice_get-map, slice_get_within, slice_get_cases, slice_get-get_or}
use Rattle.plc_lang.specs.Skeleton.{Passage, locals_at}
use Rattle.plc_auto.specs.declared.observer.Observer.{Observer}
use Rattle.plc_auto.specs.Sets.{all_locations}
use Rattle.plc_type.specs.declared.env.PtrType.{PtrType}
use Rattle.plc_type.specs.declared.env.Env.{Env}
use Rattle.plc_type.specs.Types.{type_below}
use Rattle.plc_type.specs.Environments.{types_below, env_below, entry}
use Rattle.plc_type.proofs.Ordered.{env_parts}
use Rattle.plc_xfer.specs.Rules.{type_of}
use Rattle.plc_xfer.specs.Typings.{env_at, led}
use Rattle.plc_flow.specs.declared.flow.Flow.{Flow}
use Rattle.plc_flow.specs.Skeleton.{skeleton_of, passage_of}
use Rattle.plc_logic.specs.declared.clause.Outline.{Outline}
use Rattle.plc_ground.proofs.Verdicts.{one_verdict}
use Rattle.plc_ground.proofs.Refuting.{closed_has_no_model}
use Rattle.plc_vocabulary.specs.Fit.{Fits}
use Rattle.plc_oblig.specs.Obligations.{obligations}
use Rattle.plc_oblig.specs.GroundSets.{ground_set}
use Rattle.plc_cert.specs.declared.cert.Cert.{Cert}
use Rattle.plc_verify.specs.declared.fault.Slot.{Slot}
use Rattle.plc_verify.specs.declared.fault.Slot.TheVariants.{W, Local}
use Rattle.plc_verify.specs.declared.fault.VerifyFault.{VerifyFault}
use Rattle.plc_verify.specs.declared.fault.VerifyFault.TheVariants.{Version, EnvCount, EnvAt, EntryAt, TypeAt, FlowAt}
use Rattle.plc_verify.specs.declared.fault.VerifyFault.TheVariants.{TreeCount, TreeAt, Memory}
use Rattle.plc_verify.specs.Environments.{AreOther, completed, IsTypingFault, IsFirstAbove}
use Rattle.plc_verify.specs.Environments.{FailsAfterStep, FailsAtEntry}
use Rattle.plc_verify.specs.Trees.{TreesClose, IsTreeFault}
use Rattle.plc_verify.specs.Validity.{certificate_version, IsValid, IsFirstFault, IsRefused, ValidCertificatesProve}
use Rattle.plc_verify.specs.Tests.{MayFail, MayNotClose}
use Rattle.plc_verify.proofs.Passages.{past_end, same_locals}
use Rattle.plc_xfer.specs.Typings.{IsTyping}

types_at : (x y : List PtrType) (v : ℕ) (t u : PtrType) → types_below x y ≡ true → length x ≡ length y → v < length x → type_below (get_or x v t) (get_or y v u) ≡ true
types_at [] y v t u h same small = absurd (omega arith)
types_at (a ∷ x) [] v t u h same small = absurd (omega arith)
types_at (a ∷ x) (b ∷ y) zero t u h same small = (and_parts _ _ h).0
types_at (a ∷ x) (b ∷ y) (suc v) t u h same small = types_at x y v t u (and_parts _ _ h).1 (omega arith) (omega arith)

-- no part of an environment is above that of one that it is below
not_above : (a b : Env) (var : Slot) → length a.locals ≡ length b.locals → env_below a b ≡ true → IsFirstAbove a b var → ⊥
unfolding type_of
not_above a b W same h above = let anywhere = (env_parts a b h).0 in absurd cc
not_above a b (Local v) same h (anywhere, before, fails) = elim (cases_lt v (length a.locals)) [
  | inl small ↦ fails (types_at a.locals b.locals v _ _ (env_parts a b h).2 same small)
  | inr past ↦ fails (past_end a b v past same anywhere)
]

module _ (flow : Flow) (o : Observer) (outline : Outline) (cert : Cert) (fits : Fits flow outline) where
  abbrev envs : List Env
  envs = completed flow cert.env

  no_flow : (k : ℕ) (var : Slot) → FailsAfterStep o (skeleton_of flow) envs k var → IsTyping o (skeleton_of flow) envs → ⊥
  no_flow k var f t = elim (slice_get_cases flow.steps k).1 [
    | inl found ↦
        let s = found.0 in
        let here = slice_get-map passage_of flow.steps k ∙ ap (option_map passage_of) found.2 in
        let is : f.passage ≡ passage_of s = let both : Some f.passage ≡ Some (passage_of s) = sym f.passage_is ∙ here in cc in
        let same = same_locals o flow envs k s fits.flow_fits.well fits.file f.entries found.2 in
        not_above (led o (env_at envs f.passage.from) f.passage.prims) (env_at envs f.passage.to) var
        (subst (λ (x : Passage). length (led o (env_at envs x.from) x.prims).locals ≡ length (env_at envs x.to).locals) (sym is) same)
        (t.pretyping.flows k f.passage f.passage_is) f.fails
    | inr past ↦
        let small = slice_get_within (skeleton_of flow).passages k f.passage f.passage_is in
        let l = length-map flow.steps passage_of in
        absurd (let p = past.0 in omega arith)
  ]

  no_entry : (i : ℕ) (var : Slot) → FailsAtEntry o (skeleton_of flow) envs i → IsTyping o (skeleton_of flow) envs → ⊥
  no_entry i var f t = f.narrow.fails (λ p is. (env_parts (entry (length flow.file.shared) (locals_at (skeleton_of flow) p) (all_locations o)) (env_at envs p) (t.pretyping.entries i p is)).0)

  pub version_refuses : (have want : ℕ) → AreOther have want cert.version (certificate_version flow outline)
      → IsRefused flow o outline cert (Version have want)
  version_refuses have want h = (inl h, λ v. h.differ (h.have_is ∙ v.version ∙ sym h.want_is))

  among_environments : cert.version ≡ certificate_version flow outline → (fault : VerifyFault)
      → IsTypingFault o (skeleton_of flow) envs fault → IsFirstFault flow o outline cert fault
  among_environments same fault h = inr (inl (record { version = same; is_fault = h }))

  pub environments_refuse : cert.version ≡ certificate_version flow outline → (fault : VerifyFault)
      → MayFail o (skeleton_of flow) envs fault → IsRefused flow o outline cert fault
  environments_refuse same (Version have want) h = absurd h
  environments_refuse same (EnvCount have want) h = (
    among_environments same (EnvCount have want) h,
    λ v. h.differ (h.have_is ∙ v.typing.pretyping.count ∙ sym h.want_is),
  )
  environments_refuse same (EnvAt point) h = (
    among_environments same (EnvAt point) h,
    λ v. h.fails (λ small. v.typing.pretyping.environments point.0 small),
  )
  environments_refuse same (EntryAt op var) h =
      (among_environments same (EntryAt op var) h, λ v. no_entry op.0 var h.0 v.typing)
  environments_refuse same (TypeAt step prim) h =
      (among_environments same (TypeAt step prim) h, λ v. h.fails (v.typing.holding step.0 prim))
  environments_refuse same (FlowAt step var) h =
      (among_environments same (FlowAt step var) h, λ v. no_flow step.0 var h v.typing)
  environments_refuse same (TreeCount have want) h = absurd h
  environments_refuse same (TreeAt obligation node) h = absurd h
  environments_refuse same Memory h = tt

  among_trees : cert.version ≡ certificate_version flow outline → IsTyping o (skeleton_of flow) envs
      → (fault : VerifyFault) → IsTreeFault flow outline cert.trees fault → IsFirstFault flow o outline cert fault
  among_trees same t fault h = inr (inr (record { version = same; typing = t; is_fault = h }))

  pub trees_refuse : cert.version ≡ certificate_version flow outline → IsTyping o (skeleton_of flow) envs
      → (fault : VerifyFault) → MayNotClose flow outline cert.trees fault → IsRefused flow o outline cert fault
  trees_refuse same t (TreeCount have want) h = (
    among_trees same t (TreeCount have want) h,
    λ v. h.differ (h.have_is ∙ v.trees.one_each ∙ sym h.want_is),
  )
  trees_refuse same t (TreeAt i node) h = (
    among_trees same t (TreeAt i node) h,
    λ v.
        let both = one_verdict (ground_set flow outline h.obligation) [] h.tree.nodes None (Some node)
        (v.trees.closed i h.obligation h.tree h.obligation_is h.tree_is) h.fails in
        absurd cc,
  )
  trees_refuse same t (Version have want) h = absurd h
  trees_refuse same t (EnvCount have want) h = absurd h
  trees_refuse same t (EnvAt point) h = absurd h
  trees_refuse same t (EntryAt op var) h = absurd h
  trees_refuse same t (TypeAt step prim) h = absurd h
  trees_refuse same t (FlowAt step var) h = absurd h
  trees_refuse same t Memory h = tt

  pub judged : cert.version ≡ certificate_version flow outline → IsTyping o (skeleton_of flow) envs
      → (r : Result (Unit {0}) VerifyFault)
      → MatchResult r (λ _. TreesClose flow outline cert.trees) (MayNotClose flow outline cert.trees)
      → MatchResult r (λ _. IsValid flow o outline cert) (IsRefused flow o outline cert)
  judged same t (Ok u) h = record { version = same; typing = t; trees = h }
  judged same t (Err fault) h = trees_refuse same t fault h

pub valid_prove : ValidCertificatesProve
valid_prove flow o outline cert v = (
  (completed flow cert.env, v.typing),
  λ i d small. elim (slice_get_cases cert.trees i).1 [
    | inl found ↦ closed_has_no_model (ground_set flow outline (get_or (obligations flow outline) i d)) found.0.nodes
        (v.trees.closed i (get_or (obligations flow outline) i d) found.0 (slice_get-get_or (obligations flow outline) i d small) found.2)
    | inr past ↦ let same = v.trees.one_each in let p = past.0 in absurd (omega arith)
  ],
)
