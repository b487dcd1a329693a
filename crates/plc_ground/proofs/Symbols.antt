-- The tests of equality of constants and of maps hold of one alone.
use Rattle.std.proofs.Common.{◌≡◌, true, refl, ap}
use Rattle.std.proofs.lemmas.Bool.{eqb-true, eq-eqb, false≢true}
use Rattle.plc_base.specs.declared.ids.FieldId.{FieldId}
use Rattle.plc_ground.specs.declared.terms.Symbol.{Symbol}
use Rattle.plc_ground.specs.declared.terms.Symbol.TheVariants.{Null, Shared, Mine, Theirs, New, Bound, Loaded}
use Rattle.plc_ground.specs.declared.terms.Symbol.TheVariants.{Yes, No, Nobody, Me, You, Value, Number}
use Rattle.plc_ground.specs.declared.terms.Symbol.TheVariants.{MarkShared, MarkMine, MarkTheirs, MarkLoaded}
use Rattle.plc_ground.specs.declared.terms.Map.{Map}
use Rattle.plc_ground.specs.declared.terms.Map.TheVariants.{Field, Ghost, Retired, FieldMark}
use Rattle.plc_ground.specs.Symbols.{same_symbol, same_map}

-- ---- constants

pub same_symbol_true : (a b : Symbol) → same_symbol a b ≡ true → a ≡ b
same_symbol_true Null Null h = refl
same_symbol_true (Shared i) (Shared j) h = ap Shared (eqb-true i j h)
same_symbol_true (Mine i) (Mine j) h = ap Mine (eqb-true i j h)
same_symbol_true (Theirs i) (Theirs j) h = ap Theirs (eqb-true i j h)
same_symbol_true New New h = refl
same_symbol_true (Bound i) (Bound j) h = ap Bound (eqb-true i j h)
same_symbol_true (Loaded i) (Loaded j) h = ap Loaded (eqb-true i j h)
same_symbol_true Yes Yes h = refl
same_symbol_true No No h = refl
same_symbol_true Nobody Nobody h = refl
same_symbol_true Me Me h = refl
same_symbol_true You You h = refl
same_symbol_true (Value i) (Value j) h = ap Value (eqb-true i j h)
same_symbol_true (Number i) (Number j) h = ap Number (eqb-true i j h)
same_symbol_true (MarkShared i) (MarkShared j) h = ap MarkShared (eqb-true i j h)
same_symbol_true (MarkMine i) (MarkMine j) h = ap MarkMine (eqb-true i j h)
same_symbol_true (MarkTheirs i) (MarkTheirs j) h = ap MarkTheirs (eqb-true i j h)
same_symbol_true (MarkLoaded i) (MarkLoaded j) h = ap MarkLoaded (eqb-true i j h)
same_symbol_true _ _ h = absurd (false≢true h)

pub same_symbol_refl : (a : Symbol) → same_symbol a a ≡ true
same_symbol_refl Null = refl
same_symbol_refl (Shared i) = eq-eqb i i refl
same_symbol_refl (Mine i) = eq-eqb i i refl
same_symbol_refl (Theirs i) = eq-eqb i i refl
same_symbol_refl New = refl
same_symbol_refl (Bound i) = eq-eqb i i refl
same_symbol_refl (Loaded i) = eq-eqb i i refl
same_symbol_refl Yes = refl
same_symbol_refl No = refl
same_symbol_refl Nobody = refl
same_symbol_refl Me = refl
same_symbol_refl You = refl
same_symbol_refl (Value i) = eq-eqb i i refl
same_symbol_refl (Number i) = eq-eqb i i refl
same_symbol_refl (MarkShared i) = eq-eqb i i refl
same_symbol_refl (MarkMine i) = eq-eqb i i refl
same_symbol_refl (MarkTheirs i) = eq-eqb i i refl
same_symbol_refl (MarkLoaded i) = eq-eqb i i refl

-- ---- maps

pub field_id : (f g : FieldId) → f.0 ≡ g.0 → f ≡ g
field_id f g h = λ i. record { 0 = h i }

pub same_map_true : (a b : Map) → same_map a b ≡ true → a ≡ b
same_map_true (Field f) (Field g) h = ap Field (field_id f g (eqb-true f.0 g.0 h))
same_map_true (Ghost i) (Ghost j) h = ap Ghost (eqb-true i j h)
same_map_true Retired Retired h = refl
same_map_true (FieldMark f) (FieldMark g) h = ap FieldMark (field_id f g (eqb-true f.0 g.0 h))
same_map_true _ _ h = absurd (false≢true h)

pub same_map_refl : (a : Map) → same_map a a ≡ true
same_map_refl (Field f) = eq-eqb f.0 f.0 refl
same_map_refl (Ghost i) = eq-eqb i i refl
same_map_refl Retired = refl
same_map_refl (FieldMark f) = eq-eqb f.0 f.0 refl
