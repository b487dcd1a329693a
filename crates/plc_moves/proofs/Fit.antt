-- Threads that fit go on fitting when one of them comes to another point, and another table takes the place of theirs.
use Rattle.std.proofs.Common.{◌≡◌, ℕ, ◌<◌, List, Option, Some, None, length, get_or, replicate, sym, ◌∙◌, subst, arith, inl, inr}
use Rattle.std.proofs.lemmas.List.{length-replicate}
use Rattle.std.proofs.lemmas.Bool.{cases_eq}
use Rattle.plc_base.specs.Tables.{put_at}
use Rattle.plc_base.proofs.Tables.{get-put_same, get-put_other, get-replicate, length_put}
use Rattle.plc_lang.specs.declared.syntax.Op.{Op}
use Rattle.plc_flow.specs.declared.flow.Flow.{Flow}
use Rattle.plc_flow.specs.declared.points.Point.{Point}
use Rattle.plc_moves.specs.Fit.{ThreadFits, ThreadsFit}

-- a thread that holds what it held, where what fitted fits still
pub thread_stays : {L : Type 0} (flow : Flow) (F G : Op → L → Type 0) (table new : List (Option L)) (t : ℕ) (q : Option Point) → ((o : Op) (l : L) → F o l → G o l) → get_or new t None ≡ get_or table t None → ThreadFits flow F table t q → ThreadFits flow G new t q
thread_stays flow F G table new t None stays e k = e ∙ k
thread_stays flow F G table new t (Some p) stays e k = record { operation = k.operation; gate = k.gate; locals = k.locals; named = k.named; opens = k.opens; within = k.within; held = e ∙ k.held; fits = stays k.operation k.locals k.fits }

-- what is new at thread t alone
pub record IsNewAt {L : Type 0} (t : ℕ) (table new : List (Option L)) : Type 0 where
  pub many : length new ≡ length table
  pub others : (u : ℕ) → (u ≡ t → ⊥) → get_or new u None ≡ get_or table u None

pub put_is_new : {L : Type 0} (t : ℕ) (table : List (Option L)) (l : Option L) → t < length table → IsNewAt t table (put_at None table t l)
put_is_new t table l small = record { many = length_put None table t l small; others = λ u ne. get-put_other None table t l u ne }

-- thread t comes to a point, or becomes idle
pub thread_came : {L : Type 0} (flow : Flow) (F G : Op → L → Type 0) (threads : ℕ) (table new : List (Option L)) (ps : List (Option Point)) (t : ℕ) (q : Option Point) → t < threads → ((o : Op) (l : L) → F o l → G o l) → IsNewAt t table new → ThreadFits flow G new t q → ThreadsFit flow F threads table ps
    → ThreadsFit flow G threads new (put_at None ps t q)
thread_came flow F G threads table new ps t q small stays n mine k = record {
  locals = n.many ∙ k.locals;
  points = length_put None ps t q (omega (arith, small, k.points)) ∙ k.points;
  each = λ u. elim (cases_eq u t) [
    | inl e ↦ subst (λ u. ThreadFits flow G new u (get_or (put_at None ps t q) u None)) (sym e) (subst (ThreadFits flow G new t) (sym (get-put_same None ps t q)) mine)
    | inr ne ↦ subst (ThreadFits flow G new u) (sym (get-put_other None ps t q u ne)) (thread_stays flow F G table new u (get_or ps u None) stays (n.others u ne) (k.each u))
  ];
}

-- every thread is idle
pub all_idle : {L : Type 0} (flow : Flow) (F : Op → L → Type 0) (threads : ℕ) (table : List (Option L)) → length table ≡ threads → ((t : ℕ) → get_or table t None ≡ None) → ThreadsFit flow F threads table (replicate threads None)
all_idle flow F threads table many none = record {
  locals = many;
  points = length-replicate threads None;
  each = λ t. subst (ThreadFits flow F table t) (sym (get-replicate None threads t)) (none t);
}

-- before all, thread 0 alone held something
pub idle_again : {L : Type 0} (threads : ℕ) (first : L) (new : List (Option L)) → 0 < threads → IsNewAt 0 (put_at None (replicate threads None) 0 (Some first)) new → (length (put_at None new 0 None) ≡ threads) × ((t : ℕ) → get_or (put_at None new 0 None) t None ≡ None)
idle_again {L = L} threads first new some n = (length_put None new 0 None (omega (arith, some, n.many, all)) ∙ n.many ∙ all, none)
  where
    all : length (put_at None (replicate threads None) 0 (Some first)) ≡ threads
    all = length_put None (replicate threads None) 0 (Some first) (omega (arith, some, length-replicate {A = Option L} threads None)) ∙ length-replicate threads None

    none : (t : ℕ) → get_or (put_at None new 0 None) t None ≡ None
    none t = elim (cases_eq t 0) [
      | inl e ↦ subst (λ t. get_or (put_at None new 0 None) t None ≡ None) (sym e) (get-put_same None new 0 None)
      | inr ne ↦ get-put_other None new 0 None t ne ∙ n.others t ne ∙ get-put_other None (replicate threads None) 0 (Some first) t ne ∙ get-replicate None threads t
    ]
