-- What a ladder is, what it answers, and when two ladders are the same. Assumes nothing.
use Rattle.std.specs.Prelude.{◌≡◌, ℕ, ◌+◌, ◌*◌, ◌^◌, ◌<◌, ◌≤◌, cond, Some, None, Option, Ok, Err, Result, nat_le}
use Rattle.fault.specs.Faults.{fault}
use Rattle.fault.specs.declared.Fault.{Fault}
use Rattle.fault.specs.declared.Layer.TheVariants.{Ladder}
use Rattle.fault.specs.declared.Refusal.TheVariants.{NoSuchStep}

-- Two slacks that follow each other: the upper is the lower times a whole divisor from 2 to 16.
pub record Tied (upper lower : ℕ) : Type 0 where
  pub divisor : ℕ
  pub least : 2 ≤ divisor
  pub most : divisor ≤ 16
  pub times : upper ≡ divisor * lower

-- A ladder has 1 to 16 steps. Slack 0 is its top, the slack of its last step is its grain, and each slack is tied to the next.
pub record LadderLaw (steps : ℕ) (slack : ℕ → ℕ) : Type 0 where
  pub some : 1 ≤ steps
  pub few : steps ≤ 16
  pub grain : 1 ≤ slack steps
  pub top : slack 0 ≤ 16777216
  pub tied : (j : ℕ) → j < steps → Tied (slack j) (slack (j + 1))

-- A step past the last is a fault at the step that was asked for.
abbrev pub no_such_step : ℕ → Fault
no_such_step step = fault Ladder NoSuchStep step

-- The fault that a step is refused with, or none.
abbrev pub step_fault : (steps step : ℕ) → Option Fault
step_fault steps step = cond (nat_le step steps) None (Some (no_such_step step))

-- What a ladder answers when it is asked for the slack of any step number.
abbrev pub slack_answer : (steps : ℕ) (slack : ℕ → ℕ) (step : ℕ) → Result ℕ Fault
slack_answer steps slack step = cond (nat_le step steps) (Ok (slack step)) (Err (no_such_step step))

-- Two ladders are the same if they have as many steps and each slack from the top to the grain is equal.
pub record SameLadder (steps₁ : ℕ) (slack₁ : ℕ → ℕ) (steps₂ : ℕ) (slack₂ : ℕ → ℕ) : Type 0 where
  pub steps : steps₁ ≡ steps₂
  pub slacks : (j : ℕ) → j ≤ steps₁ → slack₁ j ≡ slack₂ j

-- Two ladders answer alike if both questions have the same answer, the second for every step number that can be asked for.
pub record AnswerAlike (steps₁ : ℕ) (slack₁ : ℕ → ℕ) (steps₂ : ℕ) (slack₂ : ℕ → ℕ) : Type 0 where
  pub counts : steps₁ ≡ steps₂
  pub answers : (step : ℕ) → step < 2 ^ 32 → slack_answer steps₁ slack₁ step ≡ slack_answer steps₂ slack₂ step
