use Rattle.std.proofs.Common.{◌*◌, ap, sym, ◌∙◌, length, arith}
use Rattle.plc_oblig.specs.Size.{if_marked}
use Rattle.plc_oblig.proofs.Lengths.{made_length, none_length}
use Rattle.plc_oblig.proofs.size.freshness_size.Goals as goal

pub returns-then-z-clause-size : goal.returns-then-z-clause-size
returns-then-z-clause-size c s z =
    let all = made_length c.args.file.now s (sym z.made ∙ c.if-z.true) in
    let pointers = z.pointers in
    let leads = ap (λ n. n * c.args.z.fields) z.nodes ∙ ap (λ n. length s.nodes * n) z.fields in
    let fields = c.len.ensures in
    let ghosts = c.len-then-z.ensures in
    let marks = c.if_marked.ensures ∙ ap (λ b. if_marked b c.args.z.fields) z.marked ∙ ap (if_marked s.marked) z.fields in
    omega arith

pub returns-clause-size : goal.returns-clause-size
returns-clause-size c s z = sym (none_length c.args.file.now s (sym z.made ∙ c.if-z.false))
