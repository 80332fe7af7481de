-- How many messages a day takes by the rules. Assumes nothing.
use Rattle.std.specs.Prelude.{◌≡◌, ℕ, List, None, Ok, Err, Result}
use Rattle.fault.specs.declared.Fault.{Fault}
use Rattle.ladder.specs.Makers.{halving_fault}
use Rattle.ladder.specs.Slacks.{halving_slack}
use Rattle.post.specs.Makers.{post_fault}
use Rattle.rules.specs.Rules.{Setting, State, opened}
use Rattle.rules.specs.Runs.{Answer, Runs, books}
use Rattle.window.specs.Windows.{setting_for}

-- Over these offices on this ladder the lots run by the rules, and the books that they leave have so many messages.
pub record LotsMessages (l : Setting) (lots : List ℕ) (messages : ℕ) : Type 0 where
  pub answers : List Answer
  pub after : State
  pub runs : Runs l (opened l) lots answers after
  pub count : messages ≡ (books after).messages

-- There may be so many offices, and such a ladder.
pub record InRange (offices grain steps : ℕ) : Type 0 where
  pub offices_fit : post_fault offices ≡ None
  pub ladder_fits : halving_fault grain steps ≡ None

-- The number of messages, or a fault only if a number is out of its range.
abbrev pub DayMessages : (offices grain steps : ℕ) (lots : List ℕ) → Result ℕ Fault → Type 0
DayMessages k g e lots (Ok m) = LotsMessages (setting_for k e (halving_slack g e)) lots m
DayMessages k g e lots (Err f) = InRange k g e → ⊥
