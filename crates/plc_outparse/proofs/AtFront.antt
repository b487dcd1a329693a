-- Why the meaning of an outline at the front of tokens is refused.
use Rattle.std.proofs.Common.{ℕ, List, refl}
use Rattle.plc_lang.specs.declared.syntax.Op.{Op}
use Rattle.plc_lex.specs.declared.token.TokenKind.{TokenKind}
use Rattle.plc_scope.specs.declared.fault.ParseFault.{ParseFault}
use Rattle.plc_scope.specs.declared.fault.ParseFault.TheVariants as faults
use Rattle.plc_scope.specs.declared.scope.Scope.{Scope}
use Rattle.plc_scope.specs.Answers.{FailsAs}
use Rattle.plc_syntax.specs.Stops.{AreOfOutline}
use Rattle.plc_syntax.specs.Trees.{OutlineTree}
use Rattle.plc_outparse.specs.Meaning.{outline_means}
use Rattle.plc_outparse.specs.Outlines.{IsPartFault, no_meaning, no_memory}

pub meaning_refused : (s : Scope) (ops : List Op) (at : ℕ) (ts after : List TokenKind) (o : OutlineTree)
    (e : ParseFault) → AreOfOutline o at ts after → FailsAs e (outline_means s ops o) → IsPartFault s ops at ts e
meaning_refused s ops at ts after o faults.Memory spelled h = no_memory refl
meaning_refused s ops at ts after o e spelled h = no_meaning after (record { tree = o; is_outline = spelled; is = h })
