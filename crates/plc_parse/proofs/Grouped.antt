-- A file means what its parts mean in the groups in which the program makes them.
use Rattle.std.proofs.Common.{◌≡◌, ◌∙◌, ℕ, List, Result, Ok, refl, sym, ap}
use Rattle.plc_lang.specs.declared.syntax.Op.{Op}
use Rattle.plc_logic.specs.declared.clause.Outline.{Outline}
use Rattle.plc_scope.specs.declared.binding.Binding.TheVariants.{Taken}
use Rattle.plc_scope.specs.declared.fault.ParseFault.{ParseFault}
use Rattle.plc_scope.specs.declared.scope.Scope.{Scope}
use Rattle.plc_scope.specs.Answers.{FailsAs}
use Rattle.plc_scope.specs.Scope.{◌>>=◌, first_scope, declared}
use Rattle.plc_scope.proofs.Sequence.{bind_joins, bind_same, bind_within, bind_stops, fails_along}
use Rattle.plc_syntax.specs.Trees.{FileTree}
use Rattle.plc_tree.specs.declared.file.File.{File}
use Rattle.plc_tree.specs.FileViews.{heading_tree, file_tree}
use Rattle.plc_parse.specs.declared.unit.Unit.{Unit as FileUnit}
use Rattle.plc_parse.specs.Meaning.{listed, field_means, shared_means, function_means, ghost_means, watch_means}
use Rattle.plc_parse.specs.Meaning.{init_means, placed_op_means, outlined_means, file_means}
use Rattle.plc_parse.specs.Parts.{FrontParts, declared_mean, front_means, body_means, parts_mean, unit_from}

-- what stands before the operations is the heading's alone
pub front_of_heading : (s : Scope) (form : File)
    → front_means s (heading_tree form.heading) ≡ front_means s (file_tree form)
unfolding front_means declared_mean
front_of_heading s form = refl

module _ (lines : List ℕ) (f : FileTree) where
  -- the operations and the outline after what stands before them
  abbrev ended : FrontParts × Scope → Result FileUnit ParseFault
  ended x = body_means lines x.1 f >>= λ b. Ok (unit_from x.0 b)

  abbrev grouped : Scope → Result FileUnit ParseFault
  grouped s = front_means s f >>= ended

  -- the unit of the parts after the struct's name
  abbrev from_parts : Scope → Result FileUnit ParseFault
  from_parts s = parts_mean lines s f >>= λ p. Ok (unit_from p.0 (p.1, p.2, p.3))

  of_parts : (s : Scope) → grouped s ≡ from_parts s
  unfolding parts_mean
  of_parts s = sym (bind_joins (front_means s f) _ _
      ∙ bind_same (front_means s f) _ ended (λ x. bind_joins (body_means lines x.1 f) _ _))

  of_groups : file_means lines f ≡ (declared first_scope f.name Taken >>= grouped)
  unfolding file_means declared_mean front_means body_means
  of_groups = bind_same (declared first_scope f.name Taken) _ grouped (λ s.
      bind_within (listed field_means s 0 f.fields) _ _ _ (λ x.
      bind_within (listed shared_means x.1 0 f.pointers) _ _ _ (λ y.
      bind_within (listed function_means y.1 0 f.functions) _ _ _ (λ z.
      bind_within (watch_means z.1 f.watched) _ _ ended (λ o.
      bind_within (listed ghost_means z.1 0 f.ghosts) _ _ ended (λ g.
      bind_within (init_means g.1 f.starts) _ _ ended (λ i.
      bind_within (listed (placed_op_means lines) g.1 0 f.ops) _ _ _ (λ p.
      bind_within (outlined_means p.1 p.0 f.outlined) _ _ _ (λ u. refl))))))))
      ∙ sym (bind_joins (declared_mean s f) _ ended))

  file_grouped : file_means lines f ≡ (declared first_scope f.name Taken >>= from_parts)
  file_grouped = of_groups ∙ bind_same (declared first_scope f.name Taken) grouped from_parts of_parts

  -- the unit of a file whose parts are known, and why there is none
  pub unit_made : (t : Scope) (p : FrontParts × List Op × Outline × Scope) → declared first_scope f.name Taken ≡ Ok t
      → parts_mean lines t f ≡ Ok p → file_means lines f ≡ Ok (unit_from p.0 (p.1, p.2, p.3))
  unit_made t p name is = file_grouped ∙ ap (λ r. r >>= from_parts) name
      ∙ ap (λ r. r >>= λ p. Ok (unit_from p.0 (p.1, p.2, p.3))) is

  pub none_made : (t : Scope) (e : ParseFault) → declared first_scope f.name Taken ≡ Ok t
      → FailsAs e (parts_mean lines t f) → FailsAs e (file_means lines f)
  none_made t e name fails = fails_along e _ (file_means lines f) (sym (file_grouped ∙ ap (λ r. r >>= from_parts) name))
      (bind_stops e (parts_mean lines t f) (λ p. Ok (unit_from p.0 (p.1, p.2, p.3))) fails)
