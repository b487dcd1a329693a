use Rattle.std.proofs.Common.{◌≡◌, ◌∷◌, [], map, flat_map, drop}
use Rattle.plc_symbolic.specs.Numbering.{written_all}
use Rattle.plc_encoding.specs.Items.{instance_at}
use Rattle.plc_encoding.proofs.instances.push_pairs.Given as goal

abbrev pub invariant-loop-first : goal.invariant-loop-first
invariant-loop-first l =
    written_all l.initial.out (flat_map (λ a. map (λ b. instance_at l.w.ghosts.now l.w.setting.now.makes l.w.owner l.literals (a ∷ b ∷ [])) l.w.setting.now.instances) l.w.setting.now.instances)
    ≡ written_all l.out (flat_map (λ a. map (λ b. instance_at l.w.ghosts.now l.w.setting.now.makes l.w.owner l.literals (a ∷ b ∷ [])) l.w.setting.now.instances) (drop l.first-index l.w.setting.now.instances))
