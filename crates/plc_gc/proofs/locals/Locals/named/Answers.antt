use Rattle.std.proofs.Common.{refl}
use Rattle.plc_gc.proofs.Kept.{looked}
use Rattle.plc_gc.proofs.locals.Locals.named.Goals as goal

pub returns-then-l : goal.returns-then-l
returns-then-l c =
    let there = rw c.deref.ensures.value at (looked c.deref.result.now c.args.i c.in-Some.l.now c.in-Some.ensures.lookup.0 c.in-Some.ensures.lookup.1) in
    rw (c.declared_pointer.ensures, ← c.self.view_is, there, c.if-l.true) refl

pub returns-else-l : goal.returns-else-l
returns-else-l c =
    let there = rw c.deref.ensures.value at (looked c.deref.result.now c.args.i c.in-Some.l.now c.in-Some.ensures.lookup.0 c.in-Some.ensures.lookup.1) in
    rw (c.unmarked.ensures, c.declared_value.ensures, ← c.self.view_is, there, c.if-l.false) refl
