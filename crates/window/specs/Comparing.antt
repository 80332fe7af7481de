-- When figures of two windows are equal: the words of the inner contracts. Assumes nothing.
use Rattle.std.specs.Prelude.{◌≡◌}
use Rattle.post.specs.Lanes.{all_sent}
use Rattle.window.specs.declared.books.OfficeRecord.{OfficeRecord}
use Rattle.window.specs.Turns.{State}

-- Two records with the same figures.
pub record SameFigures (o o' : OfficeRecord) : Type 0 where
  pub credit : o.credit ≡ o'.credit
  pub remainder : o.remainder ≡ o'.remainder

-- The figures that are not by office, and the number of offices.
pub record SameHeads (s s' : State) : Type 0 where
  pub offices : s.books.setting.offices ≡ s'.books.setting.offices
  pub coordinator : s.books.coordinator ≡ s'.books.coordinator
  pub messages : all_sent s.lanes ≡ all_sent s'.lanes
