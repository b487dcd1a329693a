use Rattle.std.proofs.Common.{◌<◌, length, Err, ap, subst, inl, refl, arith}
use Rattle.plc_outside.specs.Outside.{Appends, AppendsPart}
use Rattle.plc_cli.proofs.Running.{runs_of}
use Rattle.plc_cli.proofs.Statuses.{all_written, part_written, memory_ran_out}
use Rattle.plc_outside.proofs.Appending.{nothing_written}
use Rattle.plc_cli.proofs.program.run.Goals as goal

-- the whole text was written
pub returns-in-Ok-write_text : goal.returns-in-Ok-write_text
returns-in-Ok-write_text g c =
    runs_of _ _ _ _ _ _ _
    (all_written c.in-Ok.answer.status c.in-Ok.answer.text.items _ _ _ _
    (rw c.deref_mut.ensures.value at c.in-Ok.ensures.due) _ _
    (subst (Appends _ _) c.deref.ensures.value c.in-Ok-write_text.ensures.ok))
    (rw c.deref_mut.ensures.value at c.in-Ok.ensures.untouched) c.in-Ok.ensures.kept c.write_text.ensures.cause.later

-- the sink failed
pub returns-in-Err-Failed : goal.returns-in-Err-Failed
returns-in-Err-Failed g c =
    runs_of _ _ _ _ _ _ _
    (part_written c.in-Ok.answer.status c.in-Ok.answer.text.items _ _ _ _
    (rw c.deref_mut.ensures.value at c.in-Ok.ensures.due) _ _
    (record {
      part = subst (AppendsPart _ _) c.deref.ensures.value c.in-Err-Failed.ensures.err;
      rose = c.write_text.ensures.cause.failed (rw c.in-Err-Failed.is (ap Err c.in-Err-Failed.field-0-is));
      room = subst (λ text. (g.S.Sink.known c.args.out.now).room < length text) c.deref.ensures.value
          (c.write_text.ensures.room (rw c.in-Err-Failed.is (ap Err c.in-Err-Failed.field-0-is)));
      full = c.write_text.ensures.filled (rw c.in-Err-Failed.is (ap Err c.in-Err-Failed.field-0-is));
    }))
    (rw c.deref_mut.ensures.value at c.in-Ok.ensures.untouched) c.in-Ok.ensures.kept c.write_text.ensures.cause.later

-- memory ran out in the sink
pub returns : goal.returns
returns g c =
    runs_of _ _ _ _ _ _ _
    (memory_ran_out c.in-Ok.answer.status c.in-Ok.answer.text.items _ _ _ _
    (rw c.deref_mut.ensures.value at c.in-Ok.ensures.due) _ _
    (subst (AppendsPart _ _) c.deref.ensures.value c.in-Err-Memory.ensures.err))
    (rw c.deref_mut.ensures.value at c.in-Ok.ensures.untouched) c.in-Ok.ensures.kept c.write_text.ensures.cause.later

-- memory ran out before there was a text
pub returns-in-Err : goal.returns-in-Err
returns-in-Err g c =
    runs_of _ _ _ _ _ _ _ (inl (refl, nothing_written _))
    (rw c.deref_mut.ensures.value at c.answer_to.ensures.untouched) c.answer_to.ensures.kept (omega arith)
