-- The text of given terms, and which terms there are. Assumes nothing.
use Rattle.std.specs.Prelude.{ℕ, ◌*◌, ◌^◌, ◌≤◌, List, [], ◌++◌, length, decimal}
use Rattle.std.specs.List.{AllByRecursion}
use Rattle.ladder.specs.Slacks.{product}
use Rattle.reader.specs.Lists.{commas}
use Rattle.reader.specs.Readings.{line}
use Rattle.reader.specs.Words.{offices_key, grain_key, ladder_key, post_key, halving_word, listed_word, direct_word, bit_word}
use Rattle.terms.specs.declared.model.PostChoice.{PostChoice}
use Rattle.terms.specs.declared.model.PostChoice.TheVariants.{Direct, Bit}
use Rattle.terms.specs.Models.{LadderModel, halving, listed, TermsModel}
use Rattle.terms.specs.TermsText.{most_top}

abbrev pub ladder_text : LadderModel → List ℕ
ladder_text (halving e) = halving_word ++ decimal e
ladder_text (listed ds) = listed_word ++ commas ds

abbrev pub post_text : PostChoice → List ℕ
post_text Direct = direct_word
post_text Bit = bit_word

abbrev pub terms_text : TermsModel → List ℕ
terms_text x =
    line offices_key (decimal x.offices)
    (line grain_key (decimal x.grain)
    (line ladder_key (ladder_text x.ladder)
    (line post_key (post_text x.post) [])))

-- the ladders over a grain
abbrev pub LadderInRange : ℕ → LadderModel → Type 0
LadderInRange g (halving e) = (1 ≤ e) × (e ≤ 16) × (g * 2 ^ e ≤ most_top)
LadderInRange g (listed ds) = (1 ≤ length ds) × (length ds ≤ 16) × AllByRecursion (λ d. (2 ≤ d) × (d ≤ 16)) ds × (g * product ds ≤ most_top)

pub record TermsInRange (x : TermsModel) : Type 0 where
  pub offices_low : 1 ≤ x.offices
  pub offices_high : x.offices ≤ 64
  pub grain_low : 1 ≤ x.grain
  pub grain_high : x.grain ≤ 8388608
  pub ladder : LadderInRange x.grain x.ladder
