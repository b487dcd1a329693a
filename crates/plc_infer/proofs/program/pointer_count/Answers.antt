use Rattle.std.proofs.Common.{arith}
use Rattle.std.proofs.lemmas.List.Sums.{count_by-le-length}
use Rattle.plc_lang.specs.Locals.{is_pointer}
use Rattle.plc_infer.proofs.program.pointer_count.Goals as goal

pub overflow_cast-result : goal.overflow_cast-result
overflow_cast-result c = omega (arith, count_by-le-length is_pointer c.args.op.now.locals, c.count_pointers.ensures, c.requires)
