use Rattle.std.proofs.Common.{◌≡◌, ◌↔◌, ℕ, length, Option, Some, None, Result, Ok, Err, ap, refl, sym, ◌∙◌, arith}
use Rattle.plc_base.specs.Names.{place_of}
use Rattle.plc_base.specs.declared.names.NameFault.{NameFault}
use Rattle.plc_base.specs.declared.names.NameFault.TheVariants as names
use Rattle.plc_scope.proofs.scope.add_name.Goals as goal

pub unreachable-requires : goal.unreachable-requires
unreachable-requires c =
    let was : c.add.result ≡ Err (names.Full c.in-Err-Full.field-0-0) = c.in-Err-Full.is ∙ ap Err c.in-Err-Full.field-0-is in
    let full = (c.add.ensures.full c.in-Err-Full.field-0-0).0 was in
    let count : length c.args.names.now.names ≡ c.args.names.now.limit = full.1 in
    omega arith

none_there : (o : Option ℕ) (r : Result ℕ NameFault) (n : ℕ) → r ≡ Ok n → ((first : ℕ) → (r ≡ Err (names.Duplicate first)) ↔ (o ≡ Some first)) → o ≡ None
none_there None r n e h = refl
none_there (Some first) r n e h = let was = (h first).1 refl in absurd cc

pub returns-in-Ok-clause-read : goal.returns-in-Ok-clause-read
returns-in-Ok-clause-read c =
    rw (none_there (place_of c.args.name.value.now c.args.names.now.names) c.add.result c.in-Ok.number c.in-Ok.is c.add.ensures.duplicate) (ap Ok (sym c.in-Ok.ensures.ok.2))

pub returns-in-Err-Duplicate-clause-read : goal.returns-in-Err-Duplicate-clause-read
returns-in-Err-Duplicate-clause-read c =
    let was : c.add.result ≡ Err (names.Duplicate c.in-Err-Duplicate.field-0-0) = c.in-Err-Duplicate.is ∙ ap Err c.in-Err-Duplicate.field-0-is in
    rw ((c.add.ensures.duplicate c.in-Err-Duplicate.field-0-0).0 was) refl
