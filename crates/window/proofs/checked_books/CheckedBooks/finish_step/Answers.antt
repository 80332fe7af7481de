use Rattle.std.proofs.Common.{◌≡◌, ◌+◌, ◌<◌, ◌≤◌, Some, sym, ap, ◌∙◌, subst, arith}
use Rattle.std.proofs.lemmas.Bool.{cond-true, cond-false, eqb-true, lt-ltb, le-ltb}
use Rattle.window.specs.declared.books.Books.{Books}
use Rattle.window.specs.declared.books.Phase.TheVariants.{Open, Closed}
use Rattle.window.specs.declared.message.Message.TheVariants.{Start, Close}
use Rattle.window.specs.Parts.{step_in, heard_of, in_coordinator, signalled}
use Rattle.window.proofs.Sound.{with_coordinator, credit_fits, Sound, sound_next, sound_close}
use Rattle.window.proofs.checked_books.CheckedBooks.finish_step.Goals as goal

pub credit_slack-requires-clause-fits : goal.credit_slack-requires-clause-fits
credit_slack-requires-clause-fits c = credit_fits c.args.self.now c.args.place.index c.args.place.within c.requires.going

pub invariant_of-self : goal.invariant_of-self
invariant_of-self c =
    let b = c.args.self.now.books in
    let i = c.args.place.index in
    subst (λ (b' : Books). Sound (with_coordinator b' (record { phase = Open (c.step-step.result + 1); signals = 0 }))) (sym c.credit_slack.ensures)
    (subst (λ j. Sound (in_coordinator b i (record { phase = Open (j + 1); signals = 0 }))) (sym c.step-step.ensures)
    (sound_next c.args.self.now i c.args.place.within (eqb-true _ _ c.requires.full) (omega (arith, c.step-step.ensures, ap (λ (b : Books). b.setting.steps) c.credit_slack.ensures, c.if-step-self.true))))

pub returns-then-step-self-clause-did : goal.returns-then-step-self-clause-did
unfolding signalled
returns-then-step-self-clause-did c =
    let b = c.args.self.now.books in
    let i = c.args.place.index in
    let j = c.step-step.result in
    let less : step_in b.coordinator.phase < b.setting.steps = omega (arith, c.step-step.ensures, ap (λ (b : Books). b.setting.steps) c.credit_slack.ensures, c.if-step-self.true) in
    subst (λ (b' : Books). heard_of (with_coordinator b' (record { phase = Open (j + 1); signals = 0 })) (Some (Start (j + 1))) ≡ signalled i b) (sym c.credit_slack.ensures)
    (subst (λ j. heard_of (in_coordinator b i (record { phase = Open (j + 1); signals = 0 })) (Some (Start (j + 1))) ≡ signalled i b) (sym c.step-step.ensures)
    (sym (cond-true _ _ _ c.requires.full ∙ cond-true _ _ _ (lt-ltb _ _ less))))

pub invariant_of-self-2 : goal.invariant_of-self-2
invariant_of-self-2 c =
    let b = c.args.self.now.books in
    let i = c.args.place.index in
    subst (λ (b' : Books). Sound (with_coordinator b' (record { phase = Closed c.step-step.result; signals = b'.coordinator.signals + 1 }))) (sym c.credit_slack.ensures)
    (subst (λ j. Sound (in_coordinator b i (record { phase = Closed j; signals = b.coordinator.signals + 1 }))) (sym c.step-step.ensures)
    (sound_close c.args.self.now i c.args.place.within (eqb-true _ _ c.requires.full) (omega (arith, c.step-step.ensures, ap (λ (b : Books). b.setting.steps) c.credit_slack.ensures, c.if-step-self.false))))

pub returns-clause-did : goal.returns-clause-did
unfolding signalled
returns-clause-did c =
    let b = c.args.self.now.books in
    let i = c.args.place.index in
    let j = c.step-step.result in
    let more : b.setting.steps ≤ step_in b.coordinator.phase = omega (arith, c.step-step.ensures, ap (λ (b : Books). b.setting.steps) c.credit_slack.ensures, c.if-step-self.false) in
    subst (λ (b' : Books). heard_of (with_coordinator b' (record { phase = Closed j; signals = b'.coordinator.signals + 1 })) (Some (Close j)) ≡ signalled i b) (sym c.credit_slack.ensures)
    (subst (λ j. heard_of (in_coordinator b i (record { phase = Closed j; signals = b.coordinator.signals + 1 })) (Some (Close j)) ≡ signalled i b) (sym c.step-step.ensures)
    (sym (cond-true _ _ _ c.requires.full ∙ cond-false _ _ _ (le-ltb _ _ more))))
