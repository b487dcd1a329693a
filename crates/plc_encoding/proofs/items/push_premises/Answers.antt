use Rattle.std.proofs.Common.{◌≡◌, ◌∙◌, ◌++◌, true, false, List, flat_map, All, OnOk, sym, ap, subst}
use Rattle.plc_lang.specs.declared.syntax.Ghost.{Ghost}
use Rattle.plc_logic.specs.declared.clause.Clause.{Clause}
use Rattle.plc_symbolic.specs.Numbering.{Drafted, written_all}
use Rattle.plc_vocabulary.specs.Parts.{acting_premises, owner_premises, clauses_of}
use Rattle.plc_encoding.specs.Bounds.{ClauseIn}
use Rattle.plc_encoding.specs.Items.{instances}
use Rattle.plc_encoding.proofs.Fitting.{before_in, reads_before, items_read}
use Rattle.plc_encoding.proofs.Written.{written-premises}
use Rattle.plc_encoding.proofs.items.push_premises.Goals as goal

pub push_invariants-requires : goal.push_invariants-requires
push_invariants-requires c =
    let w = c.args.w.now in
    let flow = w.flow.now in
    let Q : List Ghost → Type 0 = λ gs. All (ClauseIn gs) c.invariants_before.result.now in
    let R : List Clause → Type 0 = λ cs. All (ClauseIn flow.file.ghosts) cs in
    record {
      reads = reads_before flow w.outline.now c.as_slice.result.now _ c.requires c.as_slice.ensures c.new-before.ensures;
      clauses = subst Q (sym c.as_slice.ensures)
          (subst R (sym c.invariants_before.ensures) (before_in flow w.outline.now w.obligation.now c.requires));
    }

pub push_point-requires : goal.push_point-requires
push_point-requires c = let w = c.args.w.now in record {
  reads = reads_before w.flow.now w.outline.now c.as_slice.result.now _ c.requires c.as_slice.ensures c.new-before.ensures;
  clauses = items_read w.flow.now w.outline.now c.as_slice.result.now c.requires c.as_slice.ensures;
}

pub push_point-requires-2 : goal.push_point-requires-2
push_point-requires-2 c = let w = c.args.w.now in record {
  reads = reads_before w.flow.now w.outline.now c.as_slice.result.now _ c.requires c.as_slice.ensures c.new-before.ensures;
  clauses = items_read w.flow.now w.outline.now c.as_slice.result.now c.requires c.as_slice.ensures;
}

pub returns : goal.returns
returns c =
    let flow = c.args.w.now.flow.now in
    let outline = c.args.w.now.outline.now in
    let o = c.args.w.now.obligation.now in
    let s = c.args.w.now.setting.now in
    let gs : List Ghost = c.as_slice.result.now in
    let acting : List Clause = acting_premises flow outline o in
    let owned : List Clause = owner_premises flow outline o in
    let first : List Clause = clauses_of flow outline c.acting_point-point.result in
    let P : List Ghost → Type 0 = λ hs. OnOk c.push_point-2.result (c.push_point-2.new.out
    ≡ written_all c.args.out.now (flat_map (instances hs s false) acting ++ flat_map (instances hs s true) owned)) in
    let Q : Drafted → Type 0 = λ d. OnOk c.push_point-2.result (c.push_point-2.new.out ≡ d) in
    subst P c.as_slice.ensures (subst Q
    (written-premises (instances gs s false) (instances gs s true) c.args.out.now c.push_invariants.new.out c.push_point.new.out
    c.invariants_before.result.now first acting owned (clauses_of flow outline c.owner_point.result)
    (c.acting_point-point.ensures.premises outline ∙ ap (λ cs. cs ++ first) (sym c.invariants_before.ensures))
    (c.owner_point.ensures.premises flow outline)
    c.in_ok-push_invariants.ensures c.in_ok-push_point.ensures)
    c.push_point-2.ensures)
