use Rattle.std.proofs.Common.{◌≡◌, ◌++◌, [], List, ℕ, map, subst}
use Rattle.std.proofs.lemmas.Result.{on_ok_weaker}
use Rattle.plc_lang.specs.declared.syntax.Ghost.{Ghost}
use Rattle.plc_lang.specs.declared.syntax.Op.{Op}
use Rattle.plc_syntax.specs.Trees.{kinds_of, placed_then, Auxiliary, each_then, maybe_then, struct_then, shared_then, function_then, watch_then, ghost_then, init_then, op_then, outline_then}
use Rattle.plc_print.specs.Canonical.{ghost_kind, op_tree, canonical_tree}
use Rattle.plc_lang.specs.Names.{name_at}
use Rattle.plc_print.specs.Text.{text_of}
use Rattle.plc_print.proofs.Parts.{placed_leads, then_prints, each_leads, maybe_leads, struct_leads, shared_leads, function_leads, watch_leads, ghost_leads, init_leads, op_leads}
use Rattle.plc_print.proofs.printing.parts.Goals as goal
use Rattle.plc_print.specs.Outlines.{bare}

pub returns : goal.returns
returns c =
    let file = c.args.file.now in
    let tree = canonical_tree (record { file = file; observer = c.args.observer; outline = c.args.outlined.now }) in
    let outlined = maybe_then outline_then tree.outlined [] in
    let ops = each_then (placed_then op_then) tree.ops outlined in
    let starts = maybe_then init_then tree.starts ops in
    let ghosts = each_then ghost_then tree.ghosts starts in
    let watched = maybe_then watch_then tree.watched ghosts in
    let functions = each_then function_then tree.functions watched in
    let pointers = each_then shared_then tree.pointers functions in
    let shared_printed = subst (λ (ns : List ℕ). c.shared_pointers.new.out.text.items ≡ c.structure.new.out.text.items ++ text_of (kinds_of (each_then shared_then (map (λ n. bare (name_at file n)) ns) []))) c.as_slice.ensures c.in_ok-shared_pointers.ensures in
    let ghosts_printed = subst (λ (gs : List Ghost). c.auxiliaries.new.out.text.items ≡ c.watch.new.out.text.items ++ text_of (kinds_of (each_then ghost_then (map (λ (g : Ghost). Auxiliary (bare (name_at file g.name)) (ghost_kind file g.values)) gs) []))) c.as_slice-2.ensures c.in_ok-auxiliaries.ensures in
    let ops_printed = subst (λ (os : List Op). c.operations.new.out.text.items ≡ c.start.new.out.text.items ++ text_of (kinds_of (each_then (placed_then op_then) (map (λ o. bare (op_tree file o)) os) []))) c.as_slice-3.ensures c.in_ok-operations.ensures in
    on_ok_weaker c.outline.result (λ e. then_prints (struct_then tree.name tree.fields) (struct_leads tree.name tree.fields) pointers c.args.out.now.text.items c.in_ok-structure.ensures
    (then_prints (each_then shared_then tree.pointers) (each_leads shared_then shared_leads tree.pointers) functions c.structure.new.out.text.items shared_printed
    (then_prints (each_then function_then tree.functions) (each_leads function_then function_leads tree.functions) watched c.shared_pointers.new.out.text.items c.in_ok-declared_functions.ensures
    (then_prints (maybe_then watch_then tree.watched) (maybe_leads watch_then watch_leads tree.watched) ghosts c.declared_functions.new.out.text.items c.in_ok-watch.ensures
    (then_prints (each_then ghost_then tree.ghosts) (each_leads ghost_then ghost_leads tree.ghosts) starts c.watch.new.out.text.items ghosts_printed
    (then_prints (maybe_then init_then tree.starts) (maybe_leads init_then init_leads tree.starts) ops c.auxiliaries.new.out.text.items c.in_ok-start.ensures
    (then_prints (each_then (placed_then op_then) tree.ops) (each_leads (placed_then op_then) (placed_leads op_then op_leads) tree.ops) outlined c.start.new.out.text.items ops_printed e))))))) c.outline.ensures
