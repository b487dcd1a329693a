use Rattle.std.proofs.Common.{◌∷◌, refl, ap, ◌∙◌}
use Rattle.std.proofs.lemmas.Result.{err_from_is_err_and}
use Rattle.plc_sched.specs.Entries.{head_text}
use Rattle.plc_sched.specs.Lines.{lines_of}
use Rattle.plc_sched.specs.Schedules.{IsScheduleOf, at_head}
use Rattle.plc_sched.proofs.Unique.{schedule_of, fault_after, schedules_are_one, memory_alone}
use Rattle.plc_sched.proofs.reading.read_schedule.Goals as goal

pub returns-in_default-clause-fault : goal.returns-in_default-clause-fault
returns-in_default-clause-fault c = (rw c.if-has_too_many_lines.false at c.has_too_many_lines.ensures, at_head (lines_of c.args.bytes.now) 1 refl c.in_default.ensures.none)

pub returns-in_err-entries-clause-fault : goal.returns-in_err-entries-clause-fault
returns-in_err-entries-clause-fault c =
    let p = err_from_is_err_and c.from_residual.result c.from_residual.ensures.1 in
    rw (p.1, p.2) (fault_after c.args.bytes.now c.in-Some.after.now c.in-Some.threads _ (rw c.if-has_too_many_lines.false at c.has_too_many_lines.ensures) c.in-Some.ensures.fits c.in-Some.ensures.some c.in_err-entries.ensures.err)

pub returns-in_err-entries-clause-spelled : goal.returns-in_err-entries-clause-spelled
returns-in_err-entries-clause-spelled c = λ s spelled.
    let p = err_from_is_err_and c.from_residual.result c.from_residual.ensures.1 in
    rw (p.1, p.2) (memory_alone c.args.bytes.now s _ spelled (fault_after c.args.bytes.now c.in-Some.after.now c.in-Some.threads _ (rw c.if-has_too_many_lines.false at c.has_too_many_lines.ensures) c.in-Some.ensures.fits c.in-Some.ensures.some c.in_err-entries.ensures.err))

read : (c : goal.In_ok-entries) → IsScheduleOf c.args.bytes.now (schedule_of c.in-Some.threads c.in_ok-entries.entries)
read c = record {
  lines = c.in-Some.ensures.some ∙ ap (λ lines. head_text c.in-Some.threads ∷ lines) c.in_ok-entries.ensures.ok.lines_are;
  threads = c.in-Some.ensures.fits;
  entries = c.in_ok-entries.ensures.ok.fit;
  count = rw c.if-has_too_many_lines.false at c.has_too_many_lines.ensures;
}

pub returns-clause-spelled : goal.returns-clause-spelled
returns-clause-spelled c = λ s spelled. schedules_are_one c.args.bytes.now (schedule_of c.in-Some.threads c.in_ok-entries.entries) s (read c) spelled

pub returns-clause-refuses : goal.returns-clause-refuses
returns-clause-refuses c = λ fault told other. other (memory_alone c.args.bytes.now (schedule_of c.in-Some.threads c.in_ok-entries.entries) fault (read c) told)
