use Rattle.plc_html.proofs.frame.beginning.Goals as goal

pub returns : goal.returns
unfolding Rattle.plc_html.specs.Frame.beginning
returns c = c.joined.ensures
