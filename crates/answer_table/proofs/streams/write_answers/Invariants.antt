use Rattle.std.proofs.Common.{ℕ, [], List, length, vec_items}
use Rattle.std.specs.List.{FoldsTo}
use Rattle.std.specs.Io.KnownBytes.{Appends}
use Rattle.answer_table.specs.Tables.{whole_lines, MakesMore}
use Rattle.answer_table.proofs.streams.write_answers.Given as goal

abbrev pub invariant-loop-line : goal.invariant-loop-line
invariant-loop-line g l =
    let contents = g.W.Write.contents in
    let makes = MakesMore vec_items (λ texts r. goal.F-post g l.answer l.heap texts r) in
    (made : List ℕ) × Appends (contents l.fn.writer) (contents l.writer) made
    × ((last : List ℕ) → FoldsTo makes made (whole_lines l.rest) last → FoldsTo makes [] (whole_lines l.table) last)

abbrev pub decreases-loop-line : goal.decreases-loop-line
decreases-loop-line g l = length l.rest
