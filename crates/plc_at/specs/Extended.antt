-- What location claims add to an outline: that a node isn't retired, or that it is, where its type doesn't say enough.
use Rattle.std.specs.Prelude.{◌≡◌, ◌≢◌, ◌&&◌, ℕ, ◌<◌, Bool, true, false, if◌then◌else◌}
use Rattle.std.specs.Prelude.{List, [], ◌∷◌, ◌++◌, get_or, slice_get, Option, Some, None}
use Rattle.plc_base.specs.Limits.{most, most_bound}
use Rattle.plc_base.specs.declared.limits.What1.TheVariants as limits
use Rattle.plc_base.specs.declared.ids.PointId.{PointId}
use Rattle.plc_base.specs.Mask.{meet, union, within}
use Rattle.plc_lang.specs.Numbering.{pointer_place}
use Rattle.plc_flow.specs.declared.flow.Flow.{Flow}
use Rattle.plc_auto.specs.declared.observer.Observer.{Observer}
use Rattle.plc_auto.specs.Sets.{unretired}
use Rattle.plc_type.specs.declared.env.PtrType.{PtrType}
use Rattle.plc_type.specs.declared.env.Env.{Env}
use Rattle.plc_type.specs.Guarantees.{is_safe}
use Rattle.plc_type.specs.Types.{null_type}
use Rattle.plc_logic.specs.declared.clause.Base.TheVariants as bases
use Rattle.plc_logic.specs.declared.clause.Term.TheVariants as terms
use Rattle.plc_logic.specs.declared.clause.Literal.TheVariants.{Same, Retired}
use Rattle.plc_logic.specs.declared.clause.Clause.{Clause}
use Rattle.plc_logic.specs.declared.clause.Site.TheVariants.{At}
use Rattle.plc_logic.specs.declared.clause.Item.{Item}
use Rattle.plc_logic.specs.declared.clause.Outline.{Outline}
use Rattle.plc_at.specs.declared.claim.LocationClaim.{LocationClaim}
use Rattle.plc_at.specs.Claims.{locals_by_label}

-- ---- the type that a claim is about

-- the type of a pointer local: that of null where it isn't there, which comes to no claim that fits
abbrev pub local_type : ℕ → Option Env → PtrType
local_type v None = null_type
local_type v (Some e) = get_or e.locals v null_type

-- the environment of a point, where there is one
abbrev pub env_of : List Env → Option PointId → Option Env
env_of typing None = None
env_of typing (Some p) = slice_get typing p.0

-- the type of the claim's local at the label's point
abbrev pub claimed_type : Flow → List Env → LocationClaim → PtrType
claimed_type flow typing c = local_type c.local (env_of typing (slice_get flow.labels c.label))

-- ---- what it needs

-- whether the type says it already, it follows where the node isn't retired or where it is, or it doesn't follow
pub data Need : Type 0 where
  Nothing : Need
  Unretired : Need
  RetiredNode : Need
  Unlocated : Need

-- of a type and a set of locations: the first that is enough. An address whose node isn't retired stands in an
-- unretired location; that of a valid pointer whose node is retired stands in another. That the type's locations but
-- the unretired ones are in the set is said as: all of them are in the set or unretired
abbrev pub need : Observer → PtrType → ℕ → Need
need o t set =
    if within t.m set then Nothing
    else if within (meet t.m (unretired o)) set then Unretired
    else if is_safe t.g && within t.m (union set (unretired o)) then RetiredNode
    else Unlocated

-- of a claim under a typing
abbrev pub need_of : Flow → Observer → List Env → LocationClaim → Need
need_of flow o typing c = need o (claimed_type flow typing c) c.set

-- ---- what it adds

-- a place, or the first where there is none
abbrev pub place_or_first : Option ℕ → ℕ
place_or_first None = 0
place_or_first (Some place) = place

-- the place of the claim's local among all locals of its operation, by which clauses count
abbrev pub claimed_place : Flow → LocationClaim → ℕ
claimed_place flow c = place_or_first (pointer_place (locals_by_label flow c.label) c.local)

-- VAR == null or retired(VAR), or with `not`
abbrev pub null_or_retired : ℕ → Bool → Clause
null_or_retired v is_so = record {
  bound = record { names = []; limit = most_bound };
  literals = Same (terms.Local v) terms.Null true ∷ Retired (bases.Local v) is_so ∷ [];
}

-- at LABEL: VAR == null or retired(VAR), or with `not`
abbrev pub item_at : Flow → LocationClaim → Bool → Item
item_at flow c is_so = record { site = At (c.label ∷ []); clause = null_or_retired (claimed_place flow c) is_so }

-- the items that a claim adds, none where it isn't located
abbrev pub items_for : Flow → LocationClaim → Need → List Item
items_for flow c Nothing = []
items_for flow c Unretired = item_at flow c false ∷ []
items_for flow c RetiredNode = item_at flow c true ∷ []
items_for flow c Unlocated = []

-- those of all claims, in their order
abbrev pub added_items : Flow → Observer → List Env → List LocationClaim → List Item
added_items flow o typing [] = []
added_items flow o typing (c ∷ cs) = items_for flow c (need_of flow o typing c) ++ added_items flow o typing cs

-- the outline with these after its own
abbrev pub extended : Flow → Observer → List Env → List LocationClaim → Outline → Outline
extended flow o typing claims outline = record {
  depth = outline.depth;
  invariants = outline.invariants;
  items = outline.items ++ added_items flow o typing claims;
}

-- ---- when there is one

-- a claim that is located
abbrev pub IsLocated : Flow → Observer → List Env → LocationClaim → Type 0
IsLocated flow o typing c = need_of flow o typing c ≢ Unlocated

-- each claim is located
abbrev pub AreLocated : Flow → Observer → List Env → List LocationClaim → Type 0
AreLocated flow o typing claims = (i : ℕ) (c : LocationClaim) → slice_get claims i ≡ Some c → IsLocated flow o typing c

-- the least claim that isn't
pub record IsFirstUnlocated (flow : Flow) (o : Observer) (typing : List Env) (claims : List LocationClaim) (i : ℕ)
    : Type 0 where
  pub claim : LocationClaim
  pub there : slice_get claims i ≡ Some claim
  pub unlocated : need_of flow o typing claim ≡ Unlocated
  pub before : (j : ℕ) (c : LocationClaim) → j < i → slice_get claims j ≡ Some c → IsLocated flow o typing c

-- how many items an outline may have
abbrev pub most_items : ℕ
most_items = most limits.Items
