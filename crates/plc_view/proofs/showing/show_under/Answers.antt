use Rattle.std.proofs.Common.{inl, inr, map, refl, arith}
use Rattle.std.specs.Prelude.{string_bytes}
use Rattle.plc_view.specs.Requests.{request_of}
use Rattle.plc_view.proofs.Outcomes.{due_low}
use Rattle.plc_view.proofs.showing.show_under.Goals as goal

pub put_apart-requires : goal.put_apart-requires
put_apart-requires g c =
    let meanings = map (λ b. (goal.Reclaimer-dyn g (b.vtable, b.value)).meanings b.value) c.deref_mut.result.now in
    let names = map (λ b. (goal.Reclaimer-dyn g (b.vtable, b.value)).named b.value) c.deref_mut.result.now in
    due_low c.in-Ok.answer.status c.in-Ok.answer.text.items meanings
    (request_of names (map string_bytes c.args.words.now)) (g.F.Files.known c.args.files.now)
    (g.F.Files.known c.answer_to.new.files) c.in-Ok.ensures.due

-- a text was made, and written as far as it went
pub returns : goal.returns
returns g c = record {
  outcome =
      inr (record {
        status = c.in-Ok.answer.status;
        text = c.in-Ok.answer.text.items;
        due = rw c.deref_mut.ensures.value at c.in-Ok.ensures.due;
        put = c.put_apart.ensures.put;
      });
  untouched = rw c.deref_mut.ensures.value at c.in-Ok.ensures.untouched;
  files_kept = c.in-Ok.ensures.kept;
  count_kept = c.put_apart.ensures.kept;
  causes_kept = c.put_apart.ensures.causes_kept;
}

-- memory ran out before there was a text
pub returns-in-Err : goal.returns-in-Err
returns-in-Err g c = record {
  outcome = inl (record { status_is = refl; unwritten = refl });
  untouched = rw c.deref_mut.ensures.value at c.answer_to.ensures.untouched;
  files_kept = c.answer_to.ensures.kept;
  count_kept = omega arith;
  causes_kept = omega arith;
}
