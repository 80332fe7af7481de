-- The text of a given day, and which days there are. Assumes nothing.
use Rattle.std.specs.Prelude.{◌≡◌, ℕ, ◌≤◌, true, List, []}
use Rattle.std.specs.List.{AllByRecursion}
use Rattle.reader.specs.declared.byte_kind.ByteKind.TheVariants.{Mark}
use Rattle.reader.specs.Bytes.{of_kind}
use Rattle.reader.specs.Lists.{commas}
use Rattle.reader.specs.Readings.{line}
use Rattle.reader.specs.Words.{marks_key, lots_key}
use Rattle.day.specs.Models.{DayModel}

abbrev pub day_text : DayModel → List ℕ
day_text x = line marks_key x.marks (line lots_key (commas x.lots) [])

-- with k offices
pub record DayInRange (k : ℕ) (x : DayModel) : Type 0 where
  pub marks : AllByRecursion (λ m. of_kind Mark m ≡ true) x.marks
  pub lots : AllByRecursion (λ i. (1 ≤ i) × (i ≤ k)) x.lots
