-- What a day says, as plain mathematical values, and how the code's value stands for them. Assumes nothing.
use Rattle.std.specs.Prelude.{ℕ, List, vec_items}
use Rattle.day.specs.declared.model.Day.{Day}

-- the marks as bytes, and the office of each lot
pub record DayModel : Type 0 where
  pub marks : List ℕ
  pub lots : List ℕ

abbrev pub day_model : Day → DayModel
day_model x = record { marks = x.marks.now; lots = vec_items x.lots }
