use Rattle.plc_oblig.proofs.PointCounts.{count_read, count_listed, count_small}
use Rattle.plc_oblig.proofs.runs.count_of.Goals as goal

pub bounds-o-p : goal.bounds-o-p
bounds-o-p c = count_listed c.args.o.flow.now c.args.o.outline.now c.args.o.counts.now c.args.p.0 c.args.o.each c.requires.point

pub returns-clause-count : goal.returns-clause-count
returns-clause-count c = count_read c.args.o.flow.now c.args.o.outline.now c.args.o.counts.now c.args.p.0 0 c.args.o.each c.requires.point

pub returns-clause-few : goal.returns-clause-few
returns-clause-few c =
    count_small c.args.o.flow.now c.args.o.outline.now c.args.p.0 _ c.requires.fits.outline_fits.items
    (count_read c.args.o.flow.now c.args.o.outline.now c.args.o.counts.now c.args.p.0 0 c.args.o.each c.requires.point)
