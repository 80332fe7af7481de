use Rattle.std.proofs.Common.{◌++◌, vec_items, ap, ◌∙◌, subst}
use Rattle.std.proofs.lemmas.Option.{IfSome_then}
use Rattle.std.specs.Io.KnownBytes.{Appends}
use Rattle.answer_table.specs.Tables.{AnswersTable}
use Rattle.answer_table.proofs.Flushed.{on_ok, appends_kept}
use Rattle.answer_table.proofs.streams.run.Goals as goal

pub returns : goal.returns
returns g c =
    let made = vec_items c.in_ok-all.all in
    let contents = g.W.Write.contents in
    let before = contents c.args.writer.now in
    let written = contents c.write_all.new.self in
    on_ok c.flush.result
    (IfSome_then (g.R.Read.remaining c.args.reader.now) c.in_ok-read_to_end.ensures.bytes
    (λ table same. (
      made,
      subst (λ t. AnswersTable vec_items (λ texts r. goal.F-post g c.args.answer c.args.heap texts r) t made) (c.as_slice.ensures.value ∙ same ∙ ap (λ l. l ++ table) c.new-table.ensures.items) c.in_ok-all.ensures,
      appends_kept before written (contents c.flush.new.self) made (subst (λ l. Appends before written l) c.as_slice-2.ensures.value c.in_ok-write_all.ensures.bytes) c.flush.ensures.bytes,
    )))
