-- What an accepted lot writes in the books, in one step. Assumes nothing.
use Rattle.std.proofs.Common.{◌≡◌, ℕ, zero, suc, ◌+◌, ◌*◌, ◌/◌, ◌%◌, ◌<◌, ◌≤◌, true, false, cond, eqb}
use Rattle.window.specs.declared.setting_table.SettingTable.{SettingTable}
use Rattle.window.specs.declared.books.Books.{Books}
use Rattle.window.specs.declared.books.OfficeRecord.{OfficeRecord}
use Rattle.window.specs.declared.books.Phase.TheVariants.{Open, Closed}
use Rattle.post.specs.Lanes.{lane}
use Rattle.window.specs.Turns.{State, at}
use Rattle.window.specs.Parts.{step_in, office, slack, quota, in_coordinator, due, counted}

-- an office's record after a start, and the signals that it then sends
unfoldable pub moved_record : SettingTable → OfficeRecord → OfficeRecord
moved_record t o = record { step = o.step + 1; credit = o.credit; remainder = o.remainder % slack t (o.step + 1) }

unfoldable pub whole : SettingTable → OfficeRecord → ℕ
whole t o = o.remainder / slack t (o.step + 1)

-- how many signals the first m offices send
unfoldable pub sumq : (ℕ → ℕ) → ℕ → ℕ
sumq q zero = 0
sumq q (suc m) = sumq q m + q m

-- the books as the next step begins
abbrev pub started : ℕ → Books → Books
started i b = in_coordinator b i (record { phase = Open (step_in b.coordinator.phase + 1); signals = 0 })

-- the books after the signals that the start brought
pub record MovedOn (i : ℕ) (b b' : Books) : Type 0 where
  pub setting : b'.setting ≡ b.setting
  pub coordinator : b'.coordinator ≡ record { phase = Open (step_in b.coordinator.phase + 1); signals = sumq (λ n. whole b.setting (office (started i b) n)) b.setting.offices }
  pub records : (n : ℕ) → n < b.setting.offices → office b' n ≡ record {
    step = (moved_record b.setting (office (started i b) n)).step;
    credit = (office (started i b) n).credit + whole b.setting (office (started i b) n) * slack b.setting (step_in b.coordinator.phase + 1);
    remainder = (moved_record b.setting (office (started i b) n)).remainder;
  }

-- what the lanes carried meanwhile: a signal of office i, q n more of each office n, and d messages to each office
pub record Carried (i : ℕ) (q : ℕ → ℕ) (d : ℕ) (s v : State) : Type 0 where
  pub up : (n : ℕ) → n < s.books.setting.offices → (lane v.lanes (2 * n)).sent ≡ (lane s.lanes (2 * n)).sent + cond (eqb n i) 1 0 + q n
  pub down : (n : ℕ) → n < s.books.setting.offices → (lane v.lanes (2 * n + 1)).sent ≡ (lane s.lanes (2 * n + 1)).sent + d

-- after a signal of office i
pub data After (i : ℕ) (s : State) : State → Type 0 where
  goes_on : {v : State} → (s.books.coordinator.signals + 1 ≡ quota s.books.setting (step_in s.books.coordinator.phase) → ⊥) → v.books ≡ in_coordinator s.books i (record { phase = Open (step_in s.books.coordinator.phase); signals = s.books.coordinator.signals + 1 }) → Carried i (λ n. 0) 0 s v → After i s v
  ends : {v : State} → s.books.coordinator.signals + 1 ≡ quota s.books.setting (step_in s.books.coordinator.phase) → s.books.setting.steps ≤ step_in s.books.coordinator.phase → v.books ≡ in_coordinator s.books i (record { phase = Closed (step_in s.books.coordinator.phase); signals = s.books.coordinator.signals + 1 }) → Carried i (λ n. 0) 1 s v → After i s v
  moves_on : {v : State} → s.books.coordinator.signals + 1 ≡ quota s.books.setting (step_in s.books.coordinator.phase) → step_in s.books.coordinator.phase < s.books.setting.steps → MovedOn i s.books v.books → Carried i (λ n. whole s.books.setting (office (started i s.books) n)) 1 s v → After i s v

-- after an accepted lot
pub data Accepted (i : ℕ) (s : State) : State → Type 0 where
  counts : {v : State} → due i s.books ≡ false → v ≡ at (counted i s.books) s.lanes → Accepted i s v
  signals : {v : State} → due i s.books ≡ true → After i (at (counted i s.books) s.lanes) v → Accepted i s v
