use Rattle.std.proofs.Common.{sym}
use Rattle.plc_gc.specs.State.{null_pointer}
use Rattle.plc_base.proofs.Tables.{put_is_set}
use Rattle.plc_gc.proofs.pointers.put_node.Goals as goal

pub returns : goal.returns
returns c =
    rw (c.with_node.ensures, c.pointer_at.ensures, c.deref.ensures.value)
    (sym (put_is_set null_pointer c.args.pointers.now.items c.args.i _ c.requires))
