use Rattle.std.proofs.Common.{◌<◌, ap, ◌∙◌, arith}
use Rattle.window.specs.declared.books.OfficeRecord.{OfficeRecord}
use Rattle.window.specs.Parts.{slack, office}
use Rattle.window.proofs.Sound.{sound_count}
use Rattle.window.proofs.checked_books.CheckedBooks.count.Goals as goal
use Rattle.window.proofs.checked_books.CheckedBooks.count.Goals.{then-full, else-full}

pub overflow_add-full : goal.overflow_add-full
overflow_add-full c =
    let d = c.args.self.now in
    let read = c.slack-slack.ensures ∙ ap (λ (o : OfficeRecord). slack d.books.setting o.step) c.record.ensures in
    omega (arith, read, d.left c.args.place.index c.args.place.within)

pub invariant_of-self : goal.invariant_of-self
invariant_of-self c =
    let d = c.args.self.now in
    let i = c.args.place.index in
    let read = c.slack-slack.ensures ∙ ap (λ (o : OfficeRecord). slack d.books.setting o.step) c.record.ensures in
    let left = d.left i c.args.place.within in
    let some = d.books.setting.grain _ (d.within i c.args.place.within) in
    let less : c.if-full.office < slack d.books.setting (office d.books i).step = elim c.if-full.branch [ then-full w ↦ omega (arith, w.office-is) | else-full w ↦ omega (arith, w.office-is, w.if-full.false, read) ] in
    sound_count d i c.args.place.within _ less
