use Rattle.std.proofs.Common.{refl}
use Rattle.plc_gc.specs.State.{put, with_locals, locals_of}
use Rattle.plc_gc.proofs.state.State.put.Goals as goal

pub put_pointer-requires : goal.put_pointer-requires
unfolding locals_of
put_pointer-requires c = rw (c.in-Local.is, ← c.self.view_is) at c.requires

pub put_pointer-requires-in-LocalMark : goal.put_pointer-requires-in-LocalMark
unfolding locals_of
put_pointer-requires-in-LocalMark c = rw (c.in-LocalMark.is, ← c.self.view_is) at c.requires

pub put_value-requires : goal.put_value-requires
unfolding locals_of
put_value-requires c = rw (c.in-Data.is, ← c.self.view_is) at c.requires

pub returns-in-Shared : goal.returns-in-Shared
unfolding put
returns-in-Shared c = rw (c.in-Shared.is, c.put_node.ensures, ← c.self.view_is) refl

pub returns-in-SharedMark : goal.returns-in-SharedMark
unfolding put
returns-in-SharedMark c = rw (c.in-SharedMark.is, c.put_mark.ensures, ← c.self.view_is) refl

pub returns-in-Local : goal.returns-in-Local
unfolding put with_locals locals_of
returns-in-Local c =
    rw (c.in-Local.is, c.put_pointer.ensures, c.with_node-p.ensures, c.pointer.ensures, ← c.self.view_is) refl

pub returns-in-LocalMark : goal.returns-in-LocalMark
unfolding put with_locals locals_of
returns-in-LocalMark c =
    rw (
      c.in-LocalMark.is,
      c.put_pointer-in-LocalMark.ensures,
      c.with_mark-p.ensures,
      c.pointer-in-LocalMark.ensures,
      ← c.self.view_is,
    ) refl

pub returns-in-Data : goal.returns-in-Data
unfolding put with_locals locals_of
returns-in-Data c = rw (c.in-Data.is, c.put_value.ensures, ← c.self.view_is) refl
