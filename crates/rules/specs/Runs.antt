-- Runs of lots by the rules, the lots that a run accepts, and its books. Assumes nothing.
use Rattle.std.specs.Prelude.{◌≡◌, ℕ, ◌+◌, ◌-◌, ◌<◌, Bool, true, false, cond, ◌&&◌, List, [], ◌∷◌, map, length, is_ok, Result, ◌==◌}
use Rattle.fault.specs.declared.Fault.{Fault}
use Rattle.rules.specs.Lists.{total}
use Rattle.rules.specs.Rules.{Setting, State, turn, counted, answer}
use Rattle.rules.specs.Expected.{ExpectedTurn}

-- What a lot call answers.
abbrev pub Answer : Type 0
Answer = Result (Unit {0}) Fault

-- How many messages wait, over all lanes.
abbrev pub waits : State → ℕ
waits s = total (λ p. length p.up.waiting) s.accounts + total (λ o. length o.down.waiting) s.offices

-- Turns follow until no lane holds anything; in each of them no part takes a message that it does not expect.
pub data Settles (l : Setting) : State → State → Type 0 where
  still : {s : State} → waits s ≡ 0 → Settles l s s
  turned : {s t : State} → 0 < waits s → ExpectedTurn l s → Settles l (turn l s) t → Settles l s t

-- A run of lot calls, by the office that each names and what it is answered: a refused lot changes nothing; an accepted one is counted, and turns follow.
pub data Runs (l : Setting) : State → List ℕ → List Answer → State → Type 0 where
  over : {s : State} → Runs l s [] [] s
  refused : {s t : State} {i : ℕ} {lots : List ℕ} {answers : List Answer} → is_ok (answer l s i) ≡ false → Runs l s lots answers t → Runs l s (i ∷ lots) (answer l s i ∷ answers) t
  accepted : {s s' t : State} {i : ℕ} {lots : List ℕ} {answers : List Answer} → is_ok (answer l s i) ≡ true → Settles l (counted l s (i - 1)) s' → Runs l s' lots answers t → Runs l s (i ∷ lots) (answer l s i ∷ answers) t

-- How many of the lots at office i were accepted, by what they were answered.
abbrev pub accepted_at : ℕ → List ℕ → List Answer → ℕ
accepted_at i [] answers = 0
accepted_at i (x ∷ lots) [] = 0
accepted_at i (x ∷ lots) (a ∷ answers) = cond (x == i && is_ok a) 1 0 + accepted_at i lots answers

-- How many lots were accepted in all.
abbrev pub accepted_in_all : List Answer → ℕ
accepted_in_all answers = total (λ a. cond (is_ok a) 1 0) answers

-- The sum of the sent numbers of all lanes.
abbrev pub messages : State → ℕ
messages s = total (λ p. p.up.sent) s.accounts + total (λ o. o.down.sent) s.offices

-- The books: step, signals, open or closed, messages, and every office's credit and remainder.
pub record Books : Type 0 where
  pub step : ℕ
  pub signals : ℕ
  pub is_open : Bool
  pub messages : ℕ
  pub credits : List ℕ
  pub remainders : List ℕ

abbrev pub books : State → Books
books s = record {
  step = s.coordinator.step;
  signals = s.coordinator.signals;
  is_open = s.coordinator.is_open;
  messages = messages s;
  credits = map (λ p. p.credit) s.accounts;
  remainders = map (λ o. o.remainder) s.offices;
}
