use Rattle.std.proofs.Common.{vec_items, rules, refl, ◌++◌, subst}
use Rattle.std.specs.Io.KnownBytes.{Appends}
use Rattle.answer_table.proofs.WholeLines.{one_line, all_lines}
use Rattle.answer_table.proofs.Flushed.{appends_then}
use Rattle.answer_table.proofs.streams.write_answers.Goals as goal

pub loop-line-preserved : goal.loop-line-preserved
loop-line-preserved g c =
    let (so_far, written, then) = c.loop-line.invariant in
    let contents = g.W.Write.contents in
    let one = vec_items c.in_ok-made.made in (
      so_far ++ one,
      appends_then _ _ _ so_far one written (subst (λ l. Appends (contents c.loop-line.writer) (contents c.write_all.new.self) l) (search rules) c.in_ok-write_all.ensures.bytes),
      λ last folds. then last (one_line vec_items (λ texts r. goal.F-post g c.args.answer c.args.heap texts r) c.loop-line.rest.now c.in-Some.line.now c.in-Some.after.now so_far one _ last
          c.in-Some.ensures c.in_ok-made.ensures refl folds),
    )

pub returns : goal.returns
returns g c =
    let (so_far, written, then) = c.loop-line.invariant in
    (so_far, then _ (all_lines vec_items (λ texts r. goal.F-post g c.args.answer c.args.heap texts r) _ _ c.in_default.ensures), written)
