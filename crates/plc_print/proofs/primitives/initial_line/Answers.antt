use Rattle.std.proofs.Common.{◌∷◌, [], ◌++◌, ap, ◌∙◌, sym}
use Rattle.std.proofs.lemmas.Result.{on_ok_weaker}
use Rattle.plc_lex.specs.declared.token.Symbol.TheVariants.{Semicolon}
use Rattle.plc_lang.specs.declared.syntax.Primitive.{Primitive}
use Rattle.plc_syntax.specs.Trees.{symbol, kinds_of, InitialTree, set_then, ghost_set_then, initial_then}
use Rattle.plc_print.specs.Text.{text_of}
use Rattle.plc_print.specs.Canonical.{initial_tree, set_tree, ghost_tree}
use Rattle.plc_print.proofs.Initials.{initial_set}
use Rattle.plc_print.proofs.Parts.{then_prints, set_leads, ghost_set_leads}
use Rattle.plc_print.proofs.primitives.initial_line.Goals.{in-Ghost+in_ok-ghost_set-in-Ghost}
use Rattle.plc_print.proofs.primitives.initial_line.Goals.{in_default+in_ok-set-in_default}
use Rattle.plc_print.proofs.primitives.initial_line.Goals as goal

pub returns : goal.returns
returns c =
    let before = c.args.out.now.text.items in
    elim c.match-prim.branch [
      | in-Ghost+in_ok-ghost_set-in-Ghost w ↦
          let set = ghost_tree c.args.file.now [] w.in-Ghost.p w.in-Ghost.g w.in-Ghost.v in
          on_ok_weaker c.token.result (λ e.
          then_prints (ghost_set_then set) (ghost_set_leads set) (symbol Semicolon ∷ []) before
          w.in_ok-ghost_set-in-Ghost.ensures (e ∙ ap (λ out. out.text.items ++ text_of (kinds_of (symbol Semicolon ∷ []))) w.out-is)
          ∙ ap (λ (k : Primitive). before ++ text_of (kinds_of (initial_then (initial_tree c.args.file.now k) []))) (sym w.in-Ghost.is))
          c.token.ensures
      | in_default+in_ok-set-in_default w ↦
          let set = set_tree c.args.file.now [] c.args.prim in
          on_ok_weaker c.token.result (λ e.
          then_prints (set_then set) (set_leads set) (symbol Semicolon ∷ []) before
          w.in_ok-set-in_default.ensures (e ∙ ap (λ out. out.text.items ++ text_of (kinds_of (symbol Semicolon ∷ []))) w.out-is)
          ∙ ap (λ (i : InitialTree). before ++ text_of (kinds_of (initial_then i []))) (sym (initial_set c.args.file.now c.args.prim w.in_default.not-Ghost)))
          c.token.ensures
    ]
