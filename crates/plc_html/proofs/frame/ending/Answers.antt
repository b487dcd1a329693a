use Rattle.plc_html.proofs.frame.ending.Goals as goal

pub returns : goal.returns
unfolding Rattle.plc_html.specs.Frame.ending
returns c = c.joined.ensures
