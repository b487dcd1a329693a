use Rattle.std.proofs.Common.{◌≡◌, ◌<◌, length, reverse, vec_len}
use Rattle.plc_solve.specs.Search.{Stands, splits}
use Rattle.plc_solve.specs.Measure.{left, base_of}
use Rattle.plc_solve.proofs.search.search.Given as goal

abbrev pub invariant-search : goal.invariant-search
invariant-search l = record {
  stands : Stands l.subject.set.now l.place (reverse l.frames.items);
  nonempty : 0 < vec_len l.frames;
  seen : length l.seen ≡ length l.subject.set.now.clauses;
  last : length l.last ≡ length l.subject.set.now.terms;
}

abbrev pub decreases-search : goal.decreases-search
decreases-search l = left l.subject.set.now (base_of l.subject.set.now) (splits l.place (reverse l.frames.items))
