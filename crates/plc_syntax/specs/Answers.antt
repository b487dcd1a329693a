-- How the program's answers speak of what the specification reads.
use Rattle.std.specs.Prelude.{◌≡◌, ℕ, Result, Ok, Err}
use Rattle.plc_syntax.specs.Syntax.{kinds}
use Rattle.plc_syntax.specs.declared.rest.Rest.{Rest}
use Rattle.plc_syntax.specs.declared.fault.Fault.{Fault}
use Rattle.plc_syntax.specs.declared.fault.Fault.TheVariants as faults
use Rattle.plc_syntax.specs.Forms.{Read, Pass}

-- the fault is the specification's, unless memory ran out
abbrev pub FailsAs : {Y : Type 0} → Fault → Result Y ℕ → Type 0
FailsAs (faults.Syntax at) said = said ≡ Err at
FailsAs faults.Memory said = Unit {0}

-- the answer is what the specification reads
abbrev pub Gives : {A B : Type 0} → (A → B) → Result (A × Rest) Fault → Read B → Type 0
Gives view (Ok r) said = said ≡ Ok (view r.0, r.1.at, kinds r.1.tokens.now)
Gives view (Err e) said = FailsAs e said

-- the answer is what the specification passes over
abbrev pub Passes : Result Rest Fault → Pass → Type 0
Passes (Ok r) said = said ≡ Ok (r.at, kinds r.tokens.now)
Passes (Err e) said = FailsAs e said
