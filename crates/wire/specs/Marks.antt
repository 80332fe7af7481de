-- What marks say, as bytes and as the wire holds them, and which outcomes they lead to. Assumes nothing.
use Rattle.std.specs.Prelude.{◌≡◌, ℕ, zero, suc, cond, List, [], ◌∷◌, length, drop, ◌==◌}
use Rattle.wire.specs.Wires.{Outcome, once, lost, twice}
use Rattle.marks.specs.declared.Mark.{Mark}
use Rattle.marks.specs.declared.Mark.TheVariants.{Once, Lost, Twice}

-- what a mark says of one put: `-` that the frame is lost, `+` that it joins twice, and `.` that it joins once
abbrev pub byte_outcome : ℕ → Outcome
byte_outcome b = cond (b == 45) lost (cond (b == 43) twice once)

abbrev pub outcome_of : Mark → Outcome
outcome_of Once = once
outcome_of Lost = lost
outcome_of Twice = twice

-- the next n outcomes where the marks to read say os; past the last mark every frame joins once
abbrev pub next_outcomes : (n : ℕ) (os : List Outcome) → List Outcome
next_outcomes zero os = []
next_outcomes (suc n) [] = once ∷ next_outcomes n []
next_outcomes (suc n) (o ∷ os) = o ∷ next_outcomes n os

-- puts with these outcomes read a mark each, and leave those that follow
pub record Reads (before outcomes after : List Outcome) : Type 0 where
  pub read : outcomes ≡ next_outcomes (length outcomes) before
  pub left : after ≡ drop (length outcomes) before
