use Rattle.std.proofs.Common.{◌≡◌, append_assoc, refl}
use Rattle.plc_answers.proofs.samples.summary_text.Goals as goal

pub returns : goal.returns
returns c =
    let n : c.from-2.result ≡ c.args.n = c.from-2.ensures in
    rw (c.in_ok-push.ensures, c.in_ok-push_counts.ensures, c.in_ok-push_numbered-2.ensures, c.in_ok-push_numbered.ensures, c.new-out.ensures.items, c.from.ensures, n)
    (simp append_assoc refl)
