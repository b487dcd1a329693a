use Rattle.std.proofs.Common.{[], List, get_or, map, refl}
use Rattle.plc_lang.specs.declared.syntax.Var.TheVariants as vars
use Rattle.plc_lang.specs.declared.syntax.Primitive.{Primitive}
use Rattle.plc_lang.specs.declared.syntax.Primitive.TheVariants as prims
use Rattle.plc_syntax.specs.Trees.{placed_then, each_then, initial_then}
use Rattle.plc_print.specs.Canonical.{initial_tree}
use Rattle.plc_print.proofs.Parts.{placed_leads, printed_at, copy_printed, initial_leads}
use Rattle.plc_print.proofs.declarations.initials.Goals as goal
use Rattle.plc_print.specs.Outlines.{bare}

pub loop-prim-preserved : goal.loop-prim-preserved
loop-prim-preserved c =
    let tree = initial_tree c.args.file.now in
    let tokens = λ (ks : List Primitive). each_then (placed_then initial_then) (map (λ k. bare (tree k)) ks) [] in
    copy_printed (λ (k : Primitive). placed_then initial_then (bare (tree k))) (λ k. placed_leads initial_then initial_leads (bare (tree k))) tokens (λ k others. refl) c.args.prims.now c.loop-prim.prim-index (prims.Null (vars.Shared 0)) c.loop-prim-test.true
    c.loop-prim.out.text.items c.loop-prim.invariant (printed_at 0 (initial_then (tree (get_or c.args.prims.now c.loop-prim.prim-index (prims.Null (vars.Shared 0))))) c.loop-prim.out.text.items c.in_ok-initial_line.ensures)
