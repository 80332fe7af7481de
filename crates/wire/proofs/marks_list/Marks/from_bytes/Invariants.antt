use Rattle.std.proofs.Common.{vec_items}
use Rattle.wire.specs.Outcomes.{Marked}
use Rattle.wire.proofs.marks_list.Marks.from_bytes.Given as goal

abbrev pub invariant-loop-byte : goal.invariant-loop-byte
invariant-loop-byte l = Marked l.bytes l.byte-index (vec_items l.list) l.troubles
