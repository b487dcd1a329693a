use Rattle.std.proofs.Common.{inl, inr, map, refl, arith}
use Rattle.std.specs.Prelude.{string_bytes}
use Rattle.plc_hunting.specs.Requests.{request_of}
use Rattle.plc_hunting.proofs.Outcomes.{due_low}
use Rattle.plc_hunting.proofs.asking.hunt.Goals as goal

pub put_apart-requires : goal.put_apart-requires
put_apart-requires g c =
    due_low c.in-Ok.hunted.status c.in-Ok.hunted.text.items (request_of (map string_bytes c.args.words.now))
    (g.F.Files.known c.args.files.now) (g.F.Files.known c.answer_to.new.files) c.in-Ok.ensures.due

-- a text was made, and written as far as it went
pub returns-in-Ok : goal.returns-in-Ok
returns-in-Ok g c = record {
  outcome =
      inr (record {
        status = c.in-Ok.hunted.status;
        text = c.in-Ok.hunted.text.items;
        due = c.in-Ok.ensures.due;
        put = c.put_apart.ensures.put;
      });
  untouched = c.in-Ok.ensures.untouched;
  files_kept = c.in-Ok.ensures.kept;
  count_kept = c.put_apart.ensures.kept;
  said_kept = c.put_apart.ensures.said_kept;
}

-- memory ran out before there was a text
pub returns-in-Err : goal.returns-in-Err
returns-in-Err g c = record {
  outcome = inl (record { status_is = refl; unwritten = refl });
  untouched = c.answer_to.ensures.untouched;
  files_kept = c.answer_to.ensures.kept;
  count_kept = omega arith;
  said_kept = omega arith;
}
