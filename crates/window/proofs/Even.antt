-- What holds between two lots of a window that was opened on an unused post. Assumes nothing.
use Rattle.std.proofs.Common.{◌≡◌, ℕ, ◌+◌, ◌*◌, ◌<◌, [], length}
use Rattle.post.specs.Lanes.{lane}
use Rattle.window.specs.Parts.{step_in, office}
use Rattle.window.specs.Turns.{State}

-- the lanes of all offices are there, and hold nothing
pub record Empty (s : State) : Type 0 where
  pub long : length s.lanes ≡ 2 * s.books.setting.offices
  pub up : (i : ℕ) → i < s.books.setting.offices → (lane s.lanes (2 * i)).waiting ≡ []
  pub down : (i : ℕ) → i < s.books.setting.offices → (lane s.lanes (2 * i + 1)).waiting ≡ []

-- besides, every office is at the coordinator's step
pub record Even (s : State) : Type 0 where
  pub empty : Empty s
  pub tall : length s.books.table ≡ 64
  pub level : (n : ℕ) → n < s.books.setting.offices → (office s.books n).step ≡ step_in s.books.coordinator.phase
