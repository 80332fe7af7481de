-- What two texts say together, and when they say it. Assumes nothing.
use Rattle.std.specs.Prelude.{◌≡◌, ℕ, ◌≤◌, cond, List, length, Ok, Err, Result, nat_lt}
use Rattle.fault.specs.declared.Fault.{Fault}
use Rattle.fault.specs.declared.Layer.{Layer}
use Rattle.fault.specs.declared.Layer.TheVariants.{Terms as InTerms, Day as InDay}
use Rattle.fault.specs.declared.Refusal.TheVariants.{TextTooLong}
use Rattle.fault.specs.Faults.{fault}
use Rattle.reader.specs.Readings.{bind}
use Rattle.day.specs.declared.model.Day.{Day}
use Rattle.terms.specs.declared.model.Terms.{Terms}
use Rattle.fault.specs.declared.failure.Failure.{Failure}
use Rattle.fault.specs.declared.failure.Failure.TheVariants.{Faulty, NoMemory}
use Rattle.terms.specs.Models.{TermsModel, terms_model}
use Rattle.day.specs.Models.{DayModel, day_model}
use Rattle.terms.specs.TermsText.{read_terms}
use Rattle.day.specs.DayText.{read_day}
use Rattle.terms.specs.Written.{terms_text, TermsInRange}
use Rattle.day.specs.Written.{day_text, DayInRange}

-- the most bytes that a text may have
abbrev pub most_bytes : ℕ
most_bytes = 65535

abbrev pub short : Layer → List ℕ → Result (Unit {0}) Fault
short l t = cond (nat_lt most_bytes (length t)) (Err (fault l TextTooLong most_bytes)) (Ok tt)

-- both lengths are looked at first, then the terms are read, and then the day
abbrev pub read_both : List ℕ → List ℕ → Result (TermsModel × DayModel) Fault
read_both t d =
    bind (short InTerms t) (λ _.
    bind (short InDay d) (λ _.
    bind (read_terms t) (λ x.
    bind (read_day x.offices d) (λ y.
    Ok (x, y)))))

-- t and d are the texts of the terms x and the day y, which are in range
pub record Admissible (t d : List ℕ) (x : TermsModel) (y : DayModel) : Type 0 where
  pub terms_short : length t ≤ most_bytes
  pub day_short : length d ≤ most_bytes
  pub terms_written : t ≡ terms_text x
  pub terms_range : TermsInRange x
  pub day_written : d ≡ day_text y
  pub day_range : DayInRange x.offices y

abbrev pub both_model : Terms × Day → TermsModel × DayModel
both_model v = (terms_model v.0, day_model v.1)

-- texts are read to x and y exactly if they are the texts of x and y, in range: nothing else is read, and nothing admissible is refused
abbrev pub ReadsExactly : List ℕ → List ℕ → Result (Terms × Day) Failure → Type 0
ReadsExactly t d (Ok v) = Admissible t d (terms_model v.0) (day_model v.1) × ((x : TermsModel) (y : DayModel) → Admissible t d x y → (x, y) ≡ both_model v)
ReadsExactly t d (Err (Faulty f)) = (x : TermsModel) (y : DayModel) → Admissible t d x y → ⊥
ReadsExactly t d (Err NoMemory) = Unit {0}
