use Rattle.std.proofs.Common.{refl, sym, ◌∙◌}
use Rattle.std.proofs.lemmas.Bool.{ne_eqb}
use Rattle.plc_mem.proofs.Joined.{read_field, used_join}
use Rattle.plc_mem.proofs.memory.Memory.goes.Goals as goal

pub returns-then-a-ne0 : goal.returns-then-a-ne0
returns-then-a-ne0 c = λ t. rw (c.in-New.is, ne_eqb c.args.a 0 c.if-a-ne0.true, used_join, c.used.ensures) refl

pub returns-then-not-is_null : goal.returns-then-not-is_null
returns-then-not-is_null c = λ t. let e = sym c.is_null-in-RefreshLoad.ensures ∙ c.if-not-is_null.true in rw (c.in-RefreshLoad.is, ← c.read-from.ensures t, read_field, ← c.field-cell.ensures, ← c.read-in-RefreshLoad.ensures t, e) c.same_pointer-same.ensures

pub returns-then-not-is_null-2 : goal.returns-then-not-is_null-2
returns-then-not-is_null-2 c = λ t. let e = sym c.is_null-in-RefreshStore.ensures ∙ c.if-not-is_null-2.true in rw (c.in-RefreshStore.is, ← c.read-to.ensures t, read_field, ← c.field-cell-in-RefreshStore.ensures, ← c.read-in-RefreshStore.ensures t, e) c.same_pointer-same-in-RefreshStore.ensures
