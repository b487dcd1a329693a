use Rattle.std.proofs.Common.{List, sym, subst, ◌∙◌}
use Rattle.plc_lang.specs.Skeleton.{Skeleton}
use Rattle.plc_type.specs.declared.env.Env.{Env}
use Rattle.plc_xfer.specs.Typings.{IsStrongest}
use Rattle.plc_flow.specs.Skeleton.{skeleton_of}
use Rattle.plc_infer.specs.Programs.{IsProgram}
use Rattle.plc_infer.specs.Graphs.{graph_of}
use Rattle.plc_infer.specs.Starts.{starts_of}
use Rattle.plc_infer.specs.Iteration.{IsStrongest as IsLeast}
use Rattle.plc_infer.proofs.Flows.{flow_is_program}
use Rattle.plc_infer.proofs.Programs.{program_strongest}
use Rattle.plc_infer.proofs.typing.pretyping.Goals as goal

pub strongest-requires : goal.strongest-requires
strongest-requires c =
    subst IsProgram (sym (c.program.ensures ∙ c.in_ok-lists.ensures)) (flow_is_program c.args.flow.now c.requires.flow)

pub returns : goal.returns
returns c =
    let o = c.args.observer.now in
    let least = subst (λ (s : Skeleton). IsLeast (graph_of o s) (starts_of o s) c.in_ok-envs.envs.items)
    (c.program.ensures ∙ c.in_ok-lists.ensures) c.in_ok-envs.ensures in
    subst (λ (envs : List Env). IsStrongest o (skeleton_of c.args.flow.now) envs) (sym c.from_vec.ensures)
    (program_strongest o (skeleton_of c.args.flow.now) (flow_is_program c.args.flow.now c.requires.flow) c.in_ok-envs.envs.items least)
