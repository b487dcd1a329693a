-- Each item that a claim adds fits the file of its flow: it stands at one label, of the operation of which it names a
-- pointer local. So an outline that fits is extended to one that fits, where the items are few enough.
use Rattle.std.proofs.Common.{◌≡◌, ℕ, ◌+◌, ◌<◌, ◌≤◌, Bool, true, false, List, [], ◌∷◌, length, Some, All}
use Rattle.std.proofs.Common.{refl, sym, ap, subst, arith}
use Rattle.std.proofs.lemmas.List.{length-append}
use Rattle.std.proofs.lemmas.List.Elements.{All-nil, All-cons, All-head, All-tail, All-append}
use Rattle.plc_lang.specs.declared.syntax.Local.{Local}
use Rattle.plc_lang.specs.declared.syntax.File.{File}
use Rattle.plc_lang.specs.Labels.{labels_by_op, op_of_label}
use Rattle.plc_logic.specs.declared.clause.Base.TheVariants as bases
use Rattle.plc_logic.specs.declared.clause.Term.TheVariants as terms
use Rattle.plc_logic.specs.declared.clause.Sort.TheVariants as sorts
use Rattle.plc_logic.specs.declared.clause.Literal.TheVariants.{Same, Retired}
use Rattle.plc_logic.specs.declared.clause.Outline.{Outline}
use Rattle.plc_logic.specs.Fit.{pointer_sort, LiteralFits, in_reach_of, ClauseFits, LabelsFit, ItemFits, OutlineFits}
use Rattle.plc_flow.specs.declared.flow.Flow.{Flow}
use Rattle.plc_auto.specs.declared.observer.Observer.{Observer}
use Rattle.plc_type.specs.declared.env.Env.{Env}
use Rattle.plc_at.specs.declared.claim.LocationClaim.{LocationClaim}
use Rattle.plc_at.specs.Claims.{ClaimFits, locals_by_label}
use Rattle.plc_at.specs.Extended.{Need, Nothing, Unretired, RetiredNode, Unlocated}
use Rattle.plc_at.specs.Extended.{need_of, claimed_place, null_or_retired, item_at, items_for}
use Rattle.plc_at.specs.Extended.{added_items, extended, most_items}
use Rattle.plc_at.proofs.ExtendedPlaces.{IsPointerAt, in_operation, claimed_is_pointer}

-- the clause names a pointer local
clause_fits : (file : File) (ls : List Local) (place : ℕ) (is_so : Bool) → IsPointerAt ls place
    → ClauseFits file ls true (null_or_retired place is_so)
clause_fits file ls place is_so at =
    let clause = null_or_retired place is_so in
    let LiteralIsIn = LiteralFits (in_reach_of file ls true clause) in
    let same = Same (terms.Local place) terms.Null true in
    let retired = Retired (bases.Local place) is_so in
    record {
      bound = omega arith;
      some = omega arith;
      literals = omega arith;
      each = All-cons LiteralIsIn same (retired ∷ [])
          (sorts.Node, (at.local, at.there, sym (ap pointer_sort at.pointer)), refl)
          (All-cons LiteralIsIn retired [] (at.local, at.there, at.pointer) (All-nil LiteralIsIn));
    }

-- the label stands in the operation
label_fits : (flow : Flow) (o : Observer) (c : LocationClaim) (n : ℕ) → ClaimFits flow c
    → op_of_label (labels_by_op flow.file.ops) c.label ≡ Some n → LabelsFit flow.file (c.label ∷ []) n
label_fits flow o c n fits stands =
    let IsKnown = λ (l : ℕ). l < length flow.file.labels in
    let StandsThere = λ (l : ℕ). op_of_label (labels_by_op flow.file.ops) l ≡ Some n in
    record {
      some = omega arith;
      known = All-cons IsKnown c.label [] fits.label (All-nil IsKnown);
      within = All-cons StandsThere c.label [] stands (All-nil StandsThere);
    }

item_fits : (flow : Flow) (o : Observer) (c : LocationClaim) (is_so : Bool) → ClaimFits flow c
    → ItemFits flow.file (item_at flow c is_so)
item_fits flow o c is_so fits =
    let s = in_operation flow c.label c.local fits.local in
    let at = claimed_is_pointer (locals_by_label flow c.label) c.local fits.local in
    let place = claimed_place flow c in (
      s.number,
      s.operation,
      s.named,
      label_fits flow o c s.number fits s.stands,
      clause_fits flow.file s.operation.locals place is_so
          (subst (λ (ls : List Local). IsPointerAt ls place) s.locals at),
    )

-- what a claim adds
needed_fit : (flow : Flow) (o : Observer) (c : LocationClaim) (need : Need) → ClaimFits flow c
    → All (ItemFits flow.file) (items_for flow c need)
needed_fit flow o c Nothing fits = All-nil (ItemFits flow.file)
needed_fit flow o c Unretired fits =
    All-cons (ItemFits flow.file) (item_at flow c false) [] (item_fits flow o c false fits)
    (All-nil (ItemFits flow.file))
needed_fit flow o c RetiredNode fits =
    All-cons (ItemFits flow.file) (item_at flow c true) [] (item_fits flow o c true fits)
    (All-nil (ItemFits flow.file))
needed_fit flow o c Unlocated fits = All-nil (ItemFits flow.file)

-- what all claims add
added_fit : (flow : Flow) (o : Observer) (typing : List Env) (claims : List LocationClaim) → All (ClaimFits flow) claims
    → All (ItemFits flow.file) (added_items flow o typing claims)
added_fit flow o typing [] fit = All-nil (ItemFits flow.file)
added_fit flow o typing (c ∷ cs) fit =
    let need = need_of flow o typing c in
    All-append (ItemFits flow.file) (items_for flow c need) (added_items flow o typing cs)
    (needed_fit flow o c need (All-head (ClaimFits flow) c cs fit))
    (added_fit flow o typing cs (All-tail (ClaimFits flow) c cs fit))

-- the outline with them
pub extended_fits : (flow : Flow) (o : Observer) (typing : List Env) (claims : List LocationClaim) (outline : Outline)
    → OutlineFits flow.file outline → All (ClaimFits flow) claims
    → length outline.items + length (added_items flow o typing claims) ≤ most_items
    → OutlineFits flow.file (extended flow o typing claims outline)
extended_fits flow o typing claims outline fits claims_fit few =
    let added = added_items flow o typing claims in
    let count = length-append outline.items added in
    record {
      depth = fits.depth;
      invariants = fits.invariants;
      each_invariant = fits.each_invariant;
      items = omega arith;
      each_item = All-append (ItemFits flow.file) outline.items added fits.each_item
          (added_fit flow o typing claims claims_fit);
    }
