-- What is said of the trees of a program, by the evidence that has both.
use Rattle.std.specs.Prelude.{◌≡◌, ℕ, List, [], length, Option}
use Rattle.plc_ground.specs.declared.terms.Node.{Node}
use Rattle.plc_ground.specs.Trees.{Closes, IsVerdict}
use Rattle.plc_vocabulary.specs.declared.obligations.Obligation.{Obligation}
use Rattle.plc_oblig.specs.Programs.{ProgramFits, obligations_of, set_of}
use Rattle.plc_verify.specs.declared.fault.VerifyFault.{VerifyFault}
use Rattle.plc_verify.specs.declared.trees.Evidence.{Evidence}
use Rattle.plc_verify.specs.Trees.{TreesClose}
use Rattle.plc_verify.specs.Tests.{MayNotClose, NotedClose, IsVerdictAt}

-- these nodes close the ground set of the obligation
abbrev pub ClosesSetOf : Evidence → Obligation → List Node → Type 0
ClosesSetOf e o nodes = Closes (set_of e.program o) nodes

-- what is found of these nodes, over the ground set of the obligation: the first that is bad, if one is
abbrev pub IsVerdictOn : Evidence → Obligation → List Node → Option ℕ → Type 0
IsVerdictOn e o nodes bad = IsVerdict (set_of e.program o) [] nodes bad

-- the outline fits the flow, and there is one tree for each obligation
pub record IsComplete (e : Evidence) : Type 0 where
  pub fits : ProgramFits e.program
  pub one_each : length e.trees.now ≡ length (obligations_of e.program)

-- each obligation that is noted has the tree with its number, which closes its ground set
abbrev pub TriedClose : Evidence → List (Obligation × ℕ) → Type 0
TriedClose e noted = NotedClose e.program.flow.now e.program.outline.now e.trees.now noted

-- what is found of the tree with this number, over the ground set of an obligation
abbrev pub IsVerdictOf : Evidence → ℕ → Obligation → Option ℕ → Type 0
IsVerdictOf e at o bad = IsVerdictAt e.program.flow.now e.program.outline.now e.trees.now at o bad

-- the trees close the ground sets of the obligations
abbrev pub Proves : Evidence → Type 0
Proves e = TreesClose e.program.flow.now e.program.outline.now e.trees.now

-- the first tree that doesn't, or memory that runs out
abbrev pub MayNotProve : Evidence → VerifyFault → Type 0
MayNotProve e fault = MayNotClose e.program.flow.now e.program.outline.now e.trees.now fault
