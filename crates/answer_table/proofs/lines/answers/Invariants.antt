use Rattle.std.proofs.Common.{ℕ, [], List, length, vec_items}
use Rattle.std.specs.List.{FoldsTo}
use Rattle.answer_table.specs.Tables.{whole_lines, MakesMore}
use Rattle.answer_table.proofs.lines.answers.Given as goal

abbrev pub invariant-loop-line : goal.invariant-loop-line
invariant-loop-line g l =
    (last : List ℕ) → FoldsTo (MakesMore vec_items (λ texts r. goal.F-post g l.answer l.heap texts r)) (vec_items l.made) (whole_lines l.rest) last → FoldsTo (MakesMore vec_items (λ texts r. goal.F-post g l.answer l.heap texts r)) [] (whole_lines l.table) last

abbrev pub decreases-loop-line : goal.decreases-loop-line
decreases-loop-line g l = length l.rest
