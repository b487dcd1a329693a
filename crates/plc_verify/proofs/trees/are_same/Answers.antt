use Rattle.std.proofs.Common.{refl}
use Rattle.plc_verify.proofs.Closing.{same_nodes}
use Rattle.plc_verify.proofs.trees.are_same.Goals as goal

pub returns : goal.returns
returns c = same_nodes _ (λ c d. refl) (λ c a b. refl) (λ a b c. refl) (λ a b c d. refl) c.args.a.now c.args.b.now c.eq.result c.eq.ensures
