use Rattle.plc_outside.proofs.real.RealFilesFiles.read.Goals as goal

pub returns-clause-others : goal.returns-clause-others
returns-clause-others g c = λ other h. rw (← c.self.view_is) (c.answer.ensures.others other h)
