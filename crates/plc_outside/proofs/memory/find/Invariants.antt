use Rattle.std.proofs.Common.{◌≡◌, drop}
use Rattle.plc_outside.specs.StoredFiles.{entries_of, content_of}
use Rattle.plc_outside.proofs.memory.find.Given as goal

abbrev pub invariant-loop-entry : goal.invariant-loop-entry
invariant-loop-entry l = content_of (entries_of (drop l.entry-index l.files)) l.name ≡ content_of (entries_of l.files) l.name
