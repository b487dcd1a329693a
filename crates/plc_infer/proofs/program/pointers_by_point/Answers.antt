use Rattle.std.proofs.Common.{◌<◌, List, length, ap, ◌∙◌, arith}
use Rattle.std.proofs.lemmas.Option.{slice_get-get_or}
use Rattle.plc_lang.specs.declared.syntax.Op.{Op}
use Rattle.plc_flow.specs.declared.flow.Gate.{Gate}
use Rattle.plc_lang.specs.Locals.{pointers_of}
use Rattle.plc_infer.proofs.Points.{gate_wide, points_more}
use Rattle.plc_infer.proofs.program.pointers_by_point.Goals as goal

pub push_counts-requires : goal.push_counts-requires
push_counts-requires c =
    let gates = c.args.flow.now.gates in
    let small : c.loop-k.k < length gates = omega (arith, c.requires.flow.gates, ap (λ (os : List Op). length os) c.as_slice-ops.ensures) in
    rw c.as_slice-gates.ensures (gate_wide 0 gates c.args.flow.now.points c.loop-k.k _ c.requires.flow.ranges (slice_get-get_or gates c.loop-k.k _ small))

pub loop-k-preserved : goal.loop-k-preserved
loop-k-preserved c =
    let there : c.loop-k.k < length c.as_slice-gates.result.now = omega (arith, c.loop-k-test.true, c.requires.flow.gates, ap (λ (os : List Op). length os) c.as_slice-ops.ensures, ap (λ (gs : List Gate). length gs) c.as_slice-gates.ensures) in
    points_more c.args.flow.now.file.ops c.as_slice-ops.result.now c.args.flow.now.gates c.as_slice-gates.result.now c.loop-k.k _ _ c.pointer_count.result c.loop-k.counts.items c.push_counts.new.counts.items _
    c.as_slice-ops.ensures c.as_slice-gates.ensures c.loop-k-test.true there (c.pointer_count.ensures ∙ ap pointers_of c.index-ops-k.is) c.in_ok-push_counts.ensures c.loop-k.invariant
