use Rattle.std.proofs.Common.{◌<◌, length, Err, ap, subst}
use Rattle.plc_outside.specs.Outside.{Appends, AppendsPart}
use Rattle.plc_hunting.proofs.Outcomes.{all_written, part_written, memory_ran_out}
use Rattle.plc_hunting.proofs.asking.put.Goals as goal

-- the whole text was written
pub returns-in-Ok-clause-ends : goal.returns-in-Ok-clause-ends
returns-in-Ok-clause-ends g c =
    all_written c.args.hunted.now.status c.args.hunted.now.text.items c.requires _ _
    (subst (Appends _ _) c.deref.ensures.value c.in-Ok.ensures.ok)

-- the sink failed
pub returns-in-Err-Failed-clause-ends : goal.returns-in-Err-Failed-clause-ends
returns-in-Err-Failed-clause-ends g c =
    part_written c.args.hunted.now.status c.args.hunted.now.text.items c.requires _ _
    (record {
      part = subst (AppendsPart _ _) c.deref.ensures.value c.in-Err-Failed.ensures.err;
      rose = c.write_text.ensures.cause.failed (rw c.in-Err-Failed.is (ap Err c.in-Err-Failed.field-0-is));
      room = subst (λ text. (g.S.Sink.known c.args.out.now).room < length text) c.deref.ensures.value
          (c.write_text.ensures.room (rw c.in-Err-Failed.is (ap Err c.in-Err-Failed.field-0-is)));
      full = c.write_text.ensures.filled (rw c.in-Err-Failed.is (ap Err c.in-Err-Failed.field-0-is));
    })

-- memory ran out in the sink
pub returns-in-Err-Memory-clause-ends : goal.returns-in-Err-Memory-clause-ends
returns-in-Err-Memory-clause-ends g c =
    memory_ran_out c.args.hunted.now.status c.args.hunted.now.text.items c.requires _ _
    (subst (AppendsPart _ _) c.deref.ensures.value c.in-Err-Memory.ensures.err)
