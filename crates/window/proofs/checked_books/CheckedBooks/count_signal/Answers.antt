use Rattle.std.proofs.Common.{◌≡◌, ◌+◌, None, sym, ap, ◌∙◌, subst}
use Rattle.std.proofs.lemmas.Bool.{cond-false, eqb-false}
use Rattle.window.specs.declared.books.Books.{Books}
use Rattle.window.specs.Parts.{heard_of, in_coordinator, signalled}
use Rattle.window.proofs.Sound.{open_at, with_coordinator, credit_fits, Sound, sound_signal}
use Rattle.window.proofs.checked_books.CheckedBooks.count_signal.Goals as goal

pub credit_slack-requires-clause-fits : goal.credit_slack-requires-clause-fits
credit_slack-requires-clause-fits c = credit_fits c.args.self.now c.args.place.index c.args.place.within c.requires.going

pub invariant_of-self : goal.invariant_of-self
invariant_of-self c =
    subst (λ (b : Books). Sound (with_coordinator b (record { phase = b.coordinator.phase; signals = b.coordinator.signals + 1 }))) (sym c.credit_slack.ensures)
    (sound_signal c.args.self.now c.args.place.index c.args.place.within (eqb-false _ _ c.requires.more) c.requires.going)

pub returns : goal.returns
unfolding signalled
returns c =
    let b = c.args.self.now.books in
    let i = c.args.place.index in
    subst (λ (b' : Books). heard_of (with_coordinator b' (record { phase = b'.coordinator.phase; signals = b'.coordinator.signals + 1 })) None ≡ signalled i b) (sym c.credit_slack.ensures)
    (ap (λ p. heard_of (in_coordinator b i (record { phase = p; signals = b.coordinator.signals + 1 })) None) (open_at _ c.requires.going) ∙ sym (cond-false _ _ _ c.requires.more))
