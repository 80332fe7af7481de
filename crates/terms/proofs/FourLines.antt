-- The four lines of the terms, one after another: what is to be read once those before are.
use Rattle.std.proofs.Common.{ℕ, Ok, Result}
use Rattle.fault.specs.declared.Refusal.TheVariants.{OutOfRange}
use Rattle.fault.specs.declared.failure.Failure.{Failure}
use Rattle.reader.specs.declared.Reader.{Reader}
use Rattle.reader.specs.Readings.{Reading, end_text, number_in, line_of}
use Rattle.reader.specs.Readers.{Answers}
use Rattle.reader.specs.Answers.{GivesAt}
use Rattle.reader.specs.Words.{offices_key, grain_key, ladder_key, post_key}
use Rattle.reader.proofs.Steps.{then_read, next_reads, done}
use Rattle.terms.specs.declared.model.PostChoice.{PostChoice}
use Rattle.terms.specs.declared.model.Terms.{Terms}
use Rattle.terms.specs.Models.{LadderModel, TermsModel, terms_model}
use Rattle.terms.specs.TermsText.{ladder, post, terms}

abbrev pub after_post : ℕ → ℕ → LadderModel → PostChoice → Reading TermsModel
after_post o g r b = then_read end_text (λ _. done (record { offices = o; grain = g; ladder = r; post = b }))

abbrev pub after_ladder : ℕ → ℕ → LadderModel → Reading TermsModel
after_ladder o g r = then_read (line_of post_key post) (after_post o g r)

abbrev pub after_grain : ℕ → ℕ → Reading TermsModel
after_grain o g = then_read (line_of ladder_key (ladder g)) (after_ladder o g)

abbrev after_offices : ℕ → Reading TermsModel
after_offices o = then_read (line_of grain_key (number_in 1 8388608 OutOfRange)) (after_grain o)

-- the first two lines are read, from a to b and from b to c, and then the others
pub two_lines : {a b c after : Reader} {o g : ℕ} {r : Result Terms Failure} → Answers (line_of offices_key (number_in 1 64 OutOfRange)) a (Ok o) b → Answers (line_of grain_key (number_in 1 8388608 OutOfRange)) b (Ok g) c
    → GivesAt terms_model (after_grain o g) c r after → GivesAt terms_model terms a r after
two_lines {o = o} {r = r} ab bc h = next_reads (line_of offices_key (number_in 1 64 OutOfRange)) after_offices r ab (next_reads (line_of grain_key (number_in 1 8388608 OutOfRange)) (after_grain o) r bc h)
