use Rattle.std.proofs.Common.{rules, Some, Ok, sym, subst}
use Rattle.plc_scope.specs.declared.fault.ParseFault.{ParseFault}
use Rattle.plc_scope.specs.Answers.{FailsAs}
use Rattle.plc_parse.specs.Views.{with_form}
use Rattle.plc_parse.proofs.step.Step.push.Goals as goal

pub returns-then-is_new : goal.returns-then-is_new
returns-then-is_new c =
    subst (λ (e : ParseFault). FailsAs e (with_form c.args.self.now.primitives c.args.self.now.has_new 0 (Ok (Some c.args.primitive))))
    (sym c.past-then-is_new.ensures) (search rules)
