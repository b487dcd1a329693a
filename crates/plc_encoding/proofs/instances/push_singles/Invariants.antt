use Rattle.std.proofs.Common.{◌≡◌, ◌∷◌, [], map, drop}
use Rattle.plc_symbolic.specs.Numbering.{written_all}
use Rattle.plc_encoding.specs.Items.{instance_at}
use Rattle.plc_encoding.proofs.instances.push_singles.Given as goal

abbrev pub invariant-loop-node : goal.invariant-loop-node
invariant-loop-node l =
    written_all l.initial.out (map (λ a. instance_at l.w.ghosts.now l.w.setting.now.makes l.w.owner l.literals (a ∷ [])) l.w.setting.now.instances)
    ≡ written_all l.out (map (λ a. instance_at l.w.ghosts.now l.w.setting.now.makes l.w.owner l.literals (a ∷ [])) (drop l.node-index l.w.setting.now.instances))
