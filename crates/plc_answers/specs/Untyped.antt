-- The text of an untyped file.
use Rattle.std.specs.Prelude.{ℕ, List, ◌++◌, codes, decimal, slice_get}
use Rattle.plc_lang.specs.declared.syntax.Var.{Var}
use Rattle.plc_flow.specs.declared.flow.Flow.{Flow}
use Rattle.plc_xfer.specs.declared.fault.TypeFault.{TypeFault}
use Rattle.plc_xfer.specs.declared.fault.TypeFault.TheVariants.{DerefNotSafe, CompareNotSafe, RetireNotActive}
use Rattle.plc_answers.specs.Names.{variable_in}
use Rattle.plc_answers.specs.Steps.{step_line, step_operation}

-- KIND
abbrev pub fault_word : TypeFault → List ℕ
fault_word (DerefNotSafe var) = codes "deref"
fault_word (CompareNotSafe var) = codes "compare"
fault_word (RetireNotActive var) = codes "retire"

-- the variable that lacks what is asked
abbrev pub fault_variable : TypeFault → Var
fault_variable (DerefNotSafe var) = var
fault_variable (CompareNotSafe var) = var
fault_variable (RetireNotActive var) = var

-- WORD step S prim K line N KIND VAR
abbrev pub condition_text : List ℕ → Flow → ℕ → ℕ → TypeFault → List ℕ
condition_text word flow k i fault =
    let step = slice_get flow.steps k in
    word ++ codes " step " ++ decimal k ++ codes " prim " ++ decimal i ++ codes " line " ++ decimal (step_line step)
    ++ codes " " ++ fault_word fault ++ codes " "
    ++ variable_in flow.file (step_operation step) (fault_variable fault) ++ codes "\n"

-- untyped step S prim K line N KIND VAR
abbrev pub untyped_text : Flow → ℕ → ℕ → TypeFault → List ℕ
untyped_text flow k i fault = condition_text (codes "untyped") flow k i fault
