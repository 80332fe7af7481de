-- What holds between two lots, in the form that the proofs work with. Assumes nothing.
use Rattle.std.proofs.Common.{◌≡◌, ℕ, ◌+◌, ◌-◌, ◌*◌, ◌/◌, ◌<◌, ◌≤◌, Bool, false, not, List, [], ◌∷◌, ◌++◌, get_or}
use Rattle.post.specs.Lanes.{lane}
use Rattle.rules.specs.Rules.{Setting, divisor, State as Rules-state, no_account, no_office, answer}
use Rattle.rules.specs.Runs.{Answer}
use Rattle.rules.proofs.Machine.{ended}
use Rattle.window.specs.declared.setting_table.SettingTable.{SettingTable}
use Rattle.window.specs.Parts.{step_in, is_closed, office, slack}
use Rattle.window.specs.Turns.{State}
use Rattle.window.proofs.Even.{Even}

-- a window's setting is that of the rules
pub record SameTerms (l : Setting) (t : SettingTable) : Type 0 where
  pub offices : t.offices ≡ l.offices
  pub steps : t.steps ≡ l.steps
  pub slacks : (j : ℕ) → j ≤ l.steps → slack t j ≡ l.slack j
  pub divisors : (j : ℕ) → 1 ≤ j → j ≤ l.steps → divisor l j ≡ slack t (j - 1) / slack t j

-- a window's state is that of the rules, office by office
pub record Shows (k : ℕ) (r : Rules-state) (s : State) : Type 0 where
  pub step : step_in s.books.coordinator.phase ≡ r.coordinator.step
  pub signals : s.books.coordinator.signals ≡ r.coordinator.signals
  pub closed : is_closed s.books.coordinator.phase ≡ not r.coordinator.is_open
  pub credits : (n : ℕ) → n < k → (office s.books n).credit ≡ (get_or r.accounts n no_account).credit
  pub remainders : (n : ℕ) → n < k → (office s.books n).remainder ≡ (get_or r.offices n no_office).remainder
  pub ups : (n : ℕ) → n < k → (lane s.lanes (2 * n)).sent ≡ (get_or r.accounts n no_account).up.sent
  pub downs : (n : ℕ) → n < k → (lane s.lanes (2 * n + 1)).sent ≡ (get_or r.offices n no_office).down.sent

-- the lots h led here from an unused post; no lane holds anything
pub record Held (l : Setting) (h : List ℕ) (used : Bool) (s : State) : Type 0 where
  pub fresh : used ≡ false
  pub setting : SameTerms l s.books.setting
  pub even : Even s
  pub shows : Shows l.offices (ended l h) s

-- one lot more
pub record Next (l : Setting) (h : List ℕ) (n : ℕ) (used : Bool) (v : State) (r : Answer) : Type 0 where
  pub reached : Held l (h ++ (n ∷ [])) used v
  pub answer : r ≡ answer l (ended l h) n
