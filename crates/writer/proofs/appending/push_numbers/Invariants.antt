use Rattle.std.proofs.Common.{◌≡◌, ◌+◌, ◌++◌, take, vec_items}
use Rattle.reader.specs.Lists.{commas}
use Rattle.writer.proofs.appending.push_numbers.Given as goal

abbrev pub invariant-loop-other : goal.invariant-loop-other
invariant-loop-other l = vec_items l.out ≡ vec_items l.fn.out ++ commas (take (l.other-index + 1) l.numbers)
