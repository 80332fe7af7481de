use Rattle.std.proofs.Common.{◌++◌, vec_items, ap, ◌∙◌, subst}
use Rattle.std.proofs.lemmas.Option.{IfSome_then}
use Rattle.answer_table.specs.Tables.{AnswersTable}
use Rattle.answer_table.proofs.Flushed.{appends_kept}
use Rattle.answer_table.proofs.streams.run_by_line.Goals as goal

pub returns : goal.returns
returns g c =
    let contents = g.W.Write.contents in
    let (made, answered, written) = c.in_ok-write_answers.ensures in
    IfSome_then (g.R.Read.remaining c.args.reader.now) c.in_ok-read_to_end.ensures.bytes
    (λ table same. (
      made,
      subst (λ t. AnswersTable vec_items (λ texts r. goal.F-post g c.args.answer c.args.heap texts r) t made) (c.as_slice.ensures.value ∙ same ∙ ap (λ l. l ++ table) c.new-table.ensures.items) answered,
      appends_kept (contents c.args.writer.now) (contents c.write_answers.new.writer) (contents c.flush.new.self) made written c.flush.ensures.bytes,
    ))
