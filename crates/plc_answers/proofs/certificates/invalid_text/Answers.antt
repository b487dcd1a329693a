use Rattle.plc_answers.proofs.certificates.invalid_text.Goals as goal

pub returns-in-TreeCount : goal.returns-in-TreeCount
returns-in-TreeCount c = rw c.in-TreeCount.is c.pair_text-in-TreeCount.ensures
