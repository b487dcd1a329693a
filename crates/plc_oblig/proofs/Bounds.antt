-- How much there is at most of what a set is made of.
use Rattle.std.proofs.Common.{◌≡◌, ℕ, ◌≤◌, List, filter, length, refl, subst, arith, slice_get, Option, Some, None}
use Rattle.std.specs.List.{All}
use Rattle.std.proofs.lemmas.List.Elements.{All-nil, All-get_or, All-filter, All-map, All-append, All-weaker}
use Rattle.std.proofs.lemmas.Option.{get_or_from_slice_get, slice_get_within, none-some}
use Rattle.plc_base.specs.Limits.{most, most_bound}
use Rattle.plc_base.specs.declared.limits.What1.TheVariants as limits
use Rattle.plc_lang.specs.declared.syntax.File.{File}
use Rattle.plc_flow.specs.declared.flow.Flow.{Flow}
use Rattle.plc_flow.specs.declared.flow.Gate.{Gate}
use Rattle.plc_flow.specs.declared.flow.Step.{Step}
use Rattle.plc_logic.specs.declared.clause.Clause.{Clause}
use Rattle.plc_logic.specs.declared.clause.Item.{Item}
use Rattle.plc_logic.specs.declared.clause.Outline.{Outline}
use Rattle.plc_logic.specs.declared.clause.Site.{Site}
use Rattle.plc_logic.specs.declared.clause.Site.TheVariants.{Over, At}
use Rattle.plc_logic.specs.Fit.{OutlineFits, ItemFits, SiteFits, InvariantFits}
use Rattle.plc_vocabulary.specs.declared.obligations.Obligation.{Obligation}
use Rattle.plc_vocabulary.specs.declared.obligations.Obligation.TheVariants.{Start, Enter, Own, Other, Claim}
use Rattle.plc_vocabulary.specs.Parts.{conclusion, entry_clauses, clauses_after}
use Rattle.plc_vocabulary.specs.Setting.{bound_of}
use Rattle.plc_vocabulary.specs.Points.{clauses_at, stands_at}

-- ---- clauses

pub record Small (c : Clause) : Type 0 where
  pub bound : length c.bound.names ≤ most_bound
  pub literals : length c.literals ≤ most limits.Literals

pub found_in : {A : Type 0} (P : A → Type 0) (xs : List A) (k : ℕ) (x : A) → slice_get xs k ≡ Some x → All P xs → P x
found_in P xs k x is all = subst P (get_or_from_slice_get xs k x x is) (All-get_or P xs k x (slice_get_within xs k x is) all)

small_at : (file : File) (c : Clause) (site : Site) → SiteFits file c site → Small c
small_at file c (Over o) f = record { bound = f.2.bound; literals = f.2.literals }
small_at file c (At labels) f = record { bound = f.4.bound; literals = f.4.literals }

pub small_invariants : (file : File) (outline : Outline) → OutlineFits file outline → All Small outline.invariants
small_invariants file outline f = All-weaker (InvariantFits file) Small (λ c i. record { bound = i.bound; literals = i.literals }) outline.invariants f.each_invariant

pub small_items : (file : File) (outline : Outline) → OutlineFits file outline → All (λ (i : Item). Small i.clause) outline.items
small_items file outline f = All-weaker (ItemFits file) (λ (i : Item). Small i.clause) (λ (i : Item) fits. small_at file i.clause i.site fits) outline.items f.each_item

pub small_at_point : (flow : Flow) (outline : Outline) (p : ℕ) → OutlineFits flow.file outline → All Small (clauses_at flow outline p)
small_at_point flow outline p f = All-map Small (λ (i : Item). i.clause) (filter (stands_at flow p) outline.items)
    (All-filter (stands_at flow p) (λ (i : Item). Small i.clause) outline.items (small_items flow.file outline f))

small_after : (flow : Flow) (outline : Outline) (s : Option Step) → OutlineFits flow.file outline → All Small (clauses_after flow outline s)
small_after flow outline None f = All-nil Small
small_after flow outline (Some s) f = small_at_point flow outline s.to.0 f

small_entry : (flow : Flow) (outline : Outline) (g : Option Gate) → OutlineFits flow.file outline → All Small (entry_clauses flow outline g)
small_entry flow outline None f = All-nil Small
small_entry flow outline (Some g) f = small_at_point flow outline g.entry.0 f

pub small_conclusion : (flow : Flow) (outline : Outline) (o : Obligation) (c : Clause) → OutlineFits flow.file outline → conclusion flow outline o ≡ Some c → Small c
small_conclusion flow outline (Start i) c f is = found_in Small outline.invariants i c is (small_invariants flow.file outline f)
small_conclusion flow outline (Enter o k) c f is = found_in Small _ k c is (small_entry flow outline (slice_get flow.gates o.0) f)
small_conclusion flow outline (Own s k) c f is = found_in Small _ k c is
    (All-append Small outline.invariants (clauses_after flow outline (slice_get flow.steps s.0)) (small_invariants flow.file outline f) (small_after flow outline (slice_get flow.steps s.0) f))
small_conclusion flow outline (Other s p k) c f is = found_in Small (clauses_at flow outline p.0) k c is (small_at_point flow outline p.0 f)
small_conclusion flow outline (Claim s j) c f is = absurd (none-some c is)

-- ---- names

few_names : (q : Option Clause) → ((c : Clause) → q ≡ Some c → Small c) → bound_of q ≤ most_bound
few_names None small = omega arith
few_names (Some c) small = (small c refl).bound

pub few_bound : (flow : Flow) (outline : Outline) (o : Obligation) → OutlineFits flow.file outline → bound_of (conclusion flow outline o) ≤ most_bound
few_bound flow outline o f = few_names (conclusion flow outline o) (λ c is. small_conclusion flow outline o c f is)
