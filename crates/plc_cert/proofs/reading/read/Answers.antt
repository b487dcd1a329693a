use Rattle.std.proofs.Common.{sym, ap, ◌∙◌}
use Rattle.plc_cert.specs.Shape.{with_json}
use Rattle.plc_cert.proofs.Shapes.{json_of-utf8, json_of-none, no_truth}
use Rattle.plc_cert.proofs.reading.read.Goals as goal

pub returns-in-Ok : goal.returns-in-Ok
returns-in-Ok c memory =
    let parsed = c.in-Ok.ensures.ok in
    c.certificate.ensures memory ∙ sym (ap with_json (json_of-utf8 c.args.bytes.now parsed.0 ∙ parsed.1))

pub returns-else-is_memory : goal.returns-else-is_memory
returns-else-is_memory c memory = sym (ap with_json (json_of-none c.args.bytes.now (λ u. c.in-Err.ensures.err (λ m. no_truth (c.if-is_memory.ensures.1 m)) u)))
