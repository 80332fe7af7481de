-- What a text of terms says. Assumes nothing.
use Rattle.std.specs.Prelude.{ℕ, ◌+◌, ◌*◌, cond, List, [], length, Ok, Err, Result}
use Rattle.fault.specs.declared.Fault.{Fault}
use Rattle.fault.specs.declared.Layer.TheVariants.{Terms as InTerms}
use Rattle.fault.specs.declared.Refusal.TheVariants.{OutOfRange, UnknownWord}
use Rattle.fault.specs.Faults.{fault}
use Rattle.ladder.specs.Makers.{halving_fits, divisor_fits}
use Rattle.ladder.specs.Slacks.{product}
use Rattle.reader.specs.Readings.{Reading, bind, whole, begins_at, end_text, number_if, number_in, line_of}
use Rattle.terms.specs.declared.model.PostChoice.{PostChoice}
use Rattle.terms.specs.declared.model.PostChoice.TheVariants.{Direct, Bit}
use Rattle.reader.specs.Lists.{numbers}
use Rattle.terms.specs.Models.{LadderModel, halving, listed, TermsModel}
use Rattle.reader.specs.Words.{offices_key, grain_key, ladder_key, post_key, halving_word, listed_word, direct_word, bit_word}

-- the largest top that a ladder may have
abbrev pub most_top : ℕ
most_top = 16777216

-- one to sixteen divisors
abbrev pub divisors : ℕ → Reading (List ℕ)
divisors grain = numbers 15 (λ before. number_if (divisor_fits (grain * product before)) OutOfRange) []

abbrev pub ladder : ℕ → Reading LadderModel
ladder grain l t p =
    cond (begins_at t p halving_word) (bind (number_if (halving_fits grain) OutOfRange l t (p + length halving_word)) (λ x. Ok (halving x.0, x.1)))
    (cond (begins_at t p listed_word) (bind (divisors grain l t (p + length listed_word)) (λ x. Ok (listed x.0, x.1)))
    (Err (fault l UnknownWord p)))

abbrev pub post : Reading PostChoice
post l t p =
    cond (begins_at t p direct_word) (Ok (Direct, p + length direct_word))
    (cond (begins_at t p bit_word) (Ok (Bit, p + length bit_word))
    (Err (fault l UnknownWord p)))

-- four lines, and nothing after them
abbrev pub terms : Reading TermsModel
terms l t p =
    bind (line_of offices_key (number_in 1 64 OutOfRange) l t p) (λ o.
    bind (line_of grain_key (number_in 1 8388608 OutOfRange) l t o.1) (λ g.
    bind (line_of ladder_key (ladder g.0) l t g.1) (λ r.
    bind (line_of post_key post l t r.1) (λ b.
    bind (end_text l t b.1) (λ e.
    Ok (record { offices = o.0; grain = g.0; ladder = r.0; post = b.0 }, e.1))))))

abbrev pub read_terms : List ℕ → Result TermsModel Fault
read_terms t = whole (terms InTerms t 0)
