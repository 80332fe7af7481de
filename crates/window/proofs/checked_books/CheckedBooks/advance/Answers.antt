use Rattle.std.proofs.Common.{◌≡◌, ◌+◌, ◌/◌, ◌%◌, refl, sym, ap, ◌∙◌, subst}
use Rattle.window.specs.declared.books.OfficeRecord.{OfficeRecord}
use Rattle.window.specs.Parts.{office, slack, followed_of, in_office, moved}
use Rattle.window.proofs.Sound.{Sound, sound_move}
use Rattle.window.proofs.checked_books.CheckedBooks.advance.Goals as goal

pub invariant_of-self : goal.invariant_of-self
invariant_of-self c =
    let b = c.args.self.now.books in
    let o = office b c.args.place.index in
    let read = c.slack-slack.ensures ∙ ap (λ (o : OfficeRecord). slack b.setting (o.step + 1)) c.record.ensures in
    subst (λ s. Sound (in_office b c.args.place.index (record { step = o.step + 1; credit = o.credit; remainder = o.remainder % s }))) (sym read)
    (sound_move c.args.self.now c.args.place.index c.args.place.within c.requires)

pub returns : goal.returns
unfolding moved
returns c =
    let b = c.args.self.now.books in
    let i = c.args.place.index in
    let o = office b i in
    let read = c.slack-slack.ensures ∙ ap (λ (o : OfficeRecord). slack b.setting (o.step + 1)) c.record.ensures in
    subst (λ s. followed_of (in_office b i (record { step = o.step + 1; credit = o.credit; remainder = o.remainder % s })) (o.remainder / s) ≡ moved i b) (sym read) refl
