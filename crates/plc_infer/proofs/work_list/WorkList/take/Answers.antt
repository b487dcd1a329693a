use Rattle.std.proofs.Common.{ℕ, List, refl, sym, subst, inl, arith}
use Rattle.plc_infer.specs.WorkLists.{Among}
use Rattle.plc_infer.proofs.work_list.WorkList.take.Goals as goal

pub index_mut-requires : goal.index_mut-requires
index_mut-requires c =
    let h = c.requires c.in-Some.point (subst (λ (xs : List ℕ). Among xs c.in-Some.point) (sym c.in-Some.ensures.items) (inl refl)) in
    omega (arith, h)
