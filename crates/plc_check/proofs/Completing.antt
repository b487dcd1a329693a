-- A typing with its trees is a valid certificate: a certificate's types of shared pointers are those of a typing.
use Rattle.std.proofs.Common.{◌≡◌, ◌<◌, ℕ, List, Bool, true, false, if◌then◌else◌, length, get_or}
use Rattle.std.proofs.Common.{refl, sym, ap, ◌∙◌, subst, arith}
use Rattle.std.proofs.lemmas.List.{ext_get_or, get_or-map, length-map}
use Rattle.plc_type.specs.declared.env.PtrType.{PtrType}
use Rattle.plc_type.specs.declared.env.Env.{Env}
use Rattle.plc_type.specs.Environments.{bottom}
use Rattle.plc_xfer.specs.Typings.{IsTyping, IsPretyping, env_at}
use Rattle.plc_flow.specs.declared.flow.Flow.{Flow}
use Rattle.plc_flow.specs.Skeleton.{skeleton_of}
use Rattle.plc_auto.specs.declared.observer.Observer.{Observer}
use Rattle.plc_logic.specs.declared.clause.Outline.{Outline}
use Rattle.plc_vocabulary.specs.Marks.{program_uses_marks}
use Rattle.plc_oblig.specs.Obligations.{obligations}
use Rattle.plc_cert.specs.declared.cert.Cert.{Cert}
use Rattle.plc_cert.specs.Shape.{is_version}
use Rattle.plc_verify.specs.Environments.{with_shared, completed}
use Rattle.plc_verify.specs.Validity.{certificate_version}
use Rattle.plc_check.specs.declared.judged.Judged.{Judged}
use Rattle.plc_check.specs.Certified.{ShowsSafe}
use Rattle.plc_check.specs.Strongest.{IsStrongestTyping}
use Rattle.plc_check.specs.Counterexamples.{AreTreesFor}
use Rattle.plc_check.proofs.Matching.{one_each, tree_of, trees_fit}
use Rattle.plc_check.proofs.Readable.{envs_fit}

complete : (o : Observer) (flow : Flow) (envs : List Env) → IsPretyping o (skeleton_of flow) envs → completed flow envs ≡ envs
complete o flow envs h =
    ext_get_or (bottom 0 0) (completed flow envs) envs (length-map envs (with_shared (length flow.file.shared))) at
  where
    at : (i : ℕ) → i < length (completed flow envs) → get_or (completed flow envs) i (bottom 0 0) ≡ get_or envs i (bottom 0 0)
    at i lt =
        let within : i < length envs = omega (arith, lt, length-map envs (with_shared (length flow.file.shared))) in
        let is = h.environments i (omega (arith, within, h.count)) in
        get_or-map (with_shared (length flow.file.shared)) envs i (bottom 0 0) (bottom 0 0) within
        ∙ ap (λ (shared : List PtrType). record { shared = shared; locals = (env_at envs i).locals; w = (env_at envs i).w }) (sym is.shared_types)

-- there is no other version than those of files
version_fits : (flow : Flow) (outline : Outline) (n : ℕ) → n ≡ certificate_version flow outline → is_version n ≡ true
version_fits flow outline n e = ap is_version e ∙ either (program_uses_marks flow outline)
  where
    either : (marked : Bool) → is_version (if marked then 2 else 1) ≡ true
    either true = refl
    either false = refl

pub certificate : (j : Judged) (cert : Cert) → cert.version ≡ certificate_version j.flow j.unit_outline
    → IsStrongestTyping j cert.env
    → AreTreesFor j.flow j.unit_outline (obligations j.flow j.unit_outline) cert.trees → ShowsSafe j cert
certificate j cert version typing trees = record {
  valid = record {
    version = version;
    typing = subst (IsTyping j.observer (skeleton_of j.flow)) (sym (complete j.observer j.flow cert.env typing.typed.pretyping)) typing.typed;
    trees = record {
      one_each = one_each j.flow j.unit_outline (obligations j.flow j.unit_outline) cert.trees trees;
      closed = λ i o t e f. (tree_of j.flow j.unit_outline (obligations j.flow j.unit_outline) cert.trees i o t trees e f).closes;
    };
  };
  strongest = typing.strongest;
  once = λ i o t e f. (tree_of j.flow j.unit_outline (obligations j.flow j.unit_outline) cert.trees i o t trees e f).once;
  fits = (
    version_fits j.flow j.unit_outline cert.version version,
    envs_fit j.observer (skeleton_of j.flow) cert.env typing.typed.pretyping,
    trees_fit j.flow j.unit_outline (obligations j.flow j.unit_outline) cert.trees trees,
  );
}
