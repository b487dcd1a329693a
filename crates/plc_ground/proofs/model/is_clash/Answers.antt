use Rattle.std.proofs.Common.{◌∙◌, Some, inl, inr, ap, sym, arith}
use Rattle.std.proofs.lemmas.Bool.{eqb-true, eq-eqb, not-false, not-true, true≢false, false≢true}
use Rattle.plc_ground.specs.Symbols.{same_map}
use Rattle.plc_ground.proofs.Symbols.{same_map_true, same_map_refl}
use Rattle.plc_ground.proofs.Excluding.{applications_agree, constant_agrees}
use Rattle.plc_ground.proofs.model.is_clash.Goals as goal
use Rattle.plc_ground.proofs.model.is_clash.Goals.{then-class-arg, else-class-arg, then-class-i, else-class-i}

pub bounds-class-arg : goal.bounds-class-arg
bounds-class-arg c =
    let lt = c.requires.well.earlier _ _ _ c.args.i (c.term_at.ensures ∙ ap Some c.in-App-App.is-0) in
    omega (arith, lt, c.requires.first, c.requires.one_each)

pub bounds-class-to : goal.bounds-class-to
bounds-class-to c =
    let lt = c.requires.well.earlier _ _ _ c.args.j (c.term_at-2.ensures ∙ ap Some c.in-App-App.is-1) in
    omega (arith, lt, c.requires.second, c.requires.one_each)

pub returns-then-version-at-clause-yes : goal.returns-then-version-at-clause-yes
returns-then-version-at-clause-yes c = λ yes.
    let map = same_map_true c.in-App-App.map c.in-App-App.other (sym c.eq.ensures ∙ yes) in
    elim c.if-class-i.branch [
      | then-class-i w ↦
          let version = eqb-true c.in-App-App.version c.in-App-App.at (sym w.value-is ∙ c.if-version-at.true) in
          elim c.if-class-arg.branch [
            | then-class-arg u ↦ record {
              map = c.in-App-App.map;
              version = c.in-App-App.version;
              first = c.in-App-App.arg;
              second = c.in-App-App.to;
              first_is = c.term_at.ensures ∙ ap Some c.in-App-App.is-0;
              second_is = rw (map, version) (c.term_at-2.ensures ∙ ap Some c.in-App-App.is-1);
              arguments = u.if-class-arg.true;
              differ = λ same. true≢false (sym (eq-eqb _ _ same) ∙ not-true _ (sym u.value-is ∙ w.if-class-i.true));
            }
            | else-class-arg u ↦ absurd (u.if-class-arg.false (eqb-true _ _ (sym u.value-is ∙ w.if-class-i.true)))
          ]
      | else-class-i w ↦ absurd (false≢true (sym w.if-class-i.false ∙ sym w.value-is ∙ c.if-version-at.true))
    ]

pub returns-then-version-at-clause-no : goal.returns-then-version-at-clause-no
returns-then-version-at-clause-no c = λ no.
    applications_agree c.args.set.now.terms c.args.class.now c.args.i c.args.j _ _ _ _ _ _
    (c.term_at.ensures ∙ ap Some c.in-App-App.is-0)
    (c.term_at-2.ensures ∙ ap Some c.in-App-App.is-1)
    (λ same _ _. absurd (true≢false (sym (same_map_refl c.in-App-App.map) ∙ ap (same_map c.in-App-App.map) same ∙ sym c.eq.ensures ∙ no)))

pub returns-else-version-at-clause-yes : goal.returns-else-version-at-clause-yes
returns-else-version-at-clause-yes c = λ yes. absurd (false≢true (sym c.if-version-at.false ∙ yes))

pub returns-else-version-at-clause-no : goal.returns-else-version-at-clause-no
returns-else-version-at-clause-no c = λ no.
    applications_agree c.args.set.now.terms c.args.class.now c.args.i c.args.j _ _ _ _ _ _
    (c.term_at.ensures ∙ ap Some c.in-App-App.is-0)
    (c.term_at-2.ensures ∙ ap Some c.in-App-App.is-1)
    (λ _ version arguments. elim c.if-class-i.branch [
      | then-class-i w ↦ absurd (true≢false (sym (eq-eqb _ _ version) ∙ sym w.value-is ∙ no))
      | else-class-i w ↦ elim c.if-class-arg.branch [
        | then-class-arg u ↦ eqb-true _ _ (not-false _ (sym u.value-is ∙ w.if-class-i.false))
        | else-class-arg u ↦ absurd (true≢false (sym (eq-eqb _ _ arguments) ∙ sym u.value-is ∙ w.if-class-i.false))
      ]
    ])

pub returns-in_default-clause-yes : goal.returns-in_default-clause-yes
returns-in_default-clause-yes c = λ yes. absurd (false≢true yes)

pub returns-in_default-clause-no : goal.returns-in_default-clause-no
returns-in_default-clause-no c = λ _.
    constant_agrees c.args.set.now.terms c.args.class.now c.args.i c.args.j _
    (inr (c.term_at-2.ensures ∙ ap Some c.in_default.is-1))

pub returns-in_default-2-clause-yes : goal.returns-in_default-2-clause-yes
returns-in_default-2-clause-yes c = λ yes. absurd (false≢true yes)

pub returns-in_default-2-clause-no : goal.returns-in_default-2-clause-no
returns-in_default-2-clause-no c = λ _.
    constant_agrees c.args.set.now.terms c.args.class.now c.args.i c.args.j _
    (inl (c.term_at.ensures ∙ ap Some c.in_default.is-0))
