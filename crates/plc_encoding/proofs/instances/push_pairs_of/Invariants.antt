use Rattle.std.proofs.Common.{◌≡◌, ◌∷◌, [], map, drop}
use Rattle.plc_symbolic.specs.Numbering.{written_all}
use Rattle.plc_encoding.specs.Items.{instance_at}
use Rattle.plc_encoding.proofs.instances.push_pairs_of.Given as goal

abbrev pub invariant-loop-second : goal.invariant-loop-second
invariant-loop-second l =
    written_all l.initial.out (map (λ b. instance_at l.w.ghosts.now l.w.setting.now.makes l.w.owner l.literals (l.first ∷ b ∷ [])) l.w.setting.now.instances)
    ≡ written_all l.out (map (λ b. instance_at l.w.ghosts.now l.w.setting.now.makes l.w.owner l.literals (l.first ∷ b ∷ [])) (drop l.second-index l.w.setting.now.instances))
