-- What holds of every run of lots, said of the lots accepted at each office alone. Assumes nothing.
use Rattle.std.specs.Prelude.{◌≡◌, ℕ, ◌+◌, ◌-◌, ◌*◌, ◌/◌, ◌%◌, ◌<◌, ◌≤◌, true, false, ◌⊎◌, List, slice_index}
use Rattle.ladder.specs.Laws.{LadderLaw}
use Rattle.rules.specs.Lists.{sum_to}
use Rattle.rules.specs.Rules.{Setting, State, divisor, opened}
use Rattle.rules.specs.Runs.{Answer, Runs, Books, books, waits, accepted_at, accepted_in_all}

-- One to 64 offices, and the law of a ladder.
pub record SettingLaw (l : Setting) : Type 0 where
  pub some : 1 ≤ l.offices
  pub few : l.offices ≤ 64
  pub ladder : LadderLaw l.steps l.slack

-- In all that follows, c i is the number of lots accepted at office i.

-- The lots in whole s: at each office as many as make whole pieces of s.
abbrev pub whole_lots : Setting → (ℕ → ℕ) → ℕ → ℕ
whole_lots l c s = sum_to l.offices (λ i. s * (c i / s))

-- k tops less k slacks of step j.
abbrev pub tops_less : Setting → ℕ → ℕ
tops_less l j = l.offices * l.slack 0 - l.offices * l.slack j

abbrev pub grain : Setting → ℕ
grain l = l.slack l.steps

-- The lots in whole grains reach the ceiling, which is k tops less k grains.
abbrev pub CeilingReached : Setting → (ℕ → ℕ) → Type 0
CeilingReached l c = tops_less l l.steps ≤ whole_lots l c (grain l)

-- A window is closed exactly when the ceiling is reached, and then the accepted lots pass it by little.
pub record ClosesAtCeiling (l : Setting) (c : ℕ → ℕ) (b : Books) : Type 0 where
  pub closed : b.is_open ≡ false → CeilingReached l c
  pub only : CeilingReached l c → b.is_open ≡ false
  pub little_over : b.is_open ≡ false → sum_to l.offices c ≤ tops_less l l.steps + (l.offices - 1) * (grain l - 1)

-- The lots in whole slacks of step j are not enough to finish it.
abbrev pub Short : Setting → (ℕ → ℕ) → ℕ → Type 0
Short l c j = whole_lots l c (l.slack j) < tops_less l j

-- j is the first step for which they are not enough, or the last step if there is none.
pub record FirstShort (l : Setting) (c : ℕ → ℕ) (j : ℕ) : Type 0 where
  pub from : 1 ≤ j
  pub to : j ≤ l.steps
  pub before : (t : ℕ) → 1 ≤ t → t < j → Short l c t → ⊥
  pub here : (Short l c j) ⊎ (j ≡ l.steps)

-- The divisors of steps 1 to j, added up.
abbrev pub divisors_to : Setting → ℕ → ℕ
divisors_to l j = sum_to j (divisor l)

-- Every figure of the books follows from the accepted lots.
pub record FollowsFromLots (l : Setting) (c : ℕ → ℕ) (b : Books) : Type 0 where
  pub step : FirstShort l c b.step
  pub signals : b.signals ≡ (whole_lots l c (l.slack b.step) - tops_less l (b.step - 1)) / l.slack b.step
  pub messages_open : b.is_open ≡ true → b.messages ≡ l.offices * divisors_to l (b.step - 1) + b.signals
  pub messages_closed : b.is_open ≡ false → b.messages ≡ l.offices * divisors_to l l.steps
  pub credits : (i : ℕ) → 1 ≤ i → i ≤ l.offices → slice_index b.credits (i - 1) ≡ l.slack b.step * (c i / l.slack b.step)
  pub remainders : (i : ℕ) → 1 ≤ i → i ≤ l.offices → slice_index b.remainders (i - 1) ≡ c i % l.slack b.step

-- Each office had equally many lots accepted.
abbrev pub SameLots : Setting → (c c' : ℕ → ℕ) → Type 0
SameLots l c c' = (i : ℕ) → 1 ≤ i → i ≤ l.offices → c i ≡ c' i

-- Two books are equal exactly when each office had equally many lots accepted: the order of the lots does not matter.
pub record OrderDoesNotMatter (l : Setting) (c c' : ℕ → ℕ) (b b' : Books) : Type 0 where
  pub equal : SameLots l c c' → b ≡ b'
  pub only : b ≡ b' → SameLots l c c'

-- The laws of one run.
pub record RunLaws (l : Setting) (lots : List ℕ) (answers : List Answer) (end : State) : Type 0 where
  pub nothing_waits : waits end ≡ 0
  pub closes : ClosesAtCeiling l (λ i. accepted_at i lots answers) (books end)
  pub follows : FollowsFromLots l (λ i. accepted_at i lots answers) (books end)
  pub in_all : accepted_in_all answers ≡ sum_to l.offices (λ i. accepted_at i lots answers)

abbrev pub EveryRunIsLawful : Type 0
EveryRunIsLawful = (l : Setting) → SettingLaw l → (lots : List ℕ) (answers : List Answer) (end : State) → Runs l (opened l) lots answers end → RunLaws l lots answers end

abbrev pub OrderNeverMatters : Type 0
OrderNeverMatters = (l : Setting) → SettingLaw l → (lots lots' : List ℕ) (answers answers' : List Answer) (end end' : State)
    → Runs l (opened l) lots answers end → Runs l (opened l) lots' answers' end'
    → OrderDoesNotMatter l (λ i. accepted_at i lots answers) (λ i. accepted_at i lots' answers') (books end) (books end')

-- Every list of lots has a run, and only one.
pub record OnlyRun (l : Setting) (lots : List ℕ) : Type 0 where
  pub answers : List Answer
  pub end : State
  pub runs : Runs l (opened l) lots answers end
  pub only : (answers' : List Answer) (end' : State) → Runs l (opened l) lots answers' end' → (answers' ≡ answers) × (end' ≡ end)

abbrev pub EveryListHasOneRun : Type 0
EveryListHasOneRun = (l : Setting) → SettingLaw l → (lots : List ℕ) → OnlyRun l lots
