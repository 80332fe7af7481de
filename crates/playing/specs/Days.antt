-- A day that was played: what its lots were answered, what the window shows, and what was counted. Assumes nothing.
use Rattle.std.specs.Prelude.{◌≡◌, ℕ, ◌+◌, ◌<◌, true, false, List, length, take, Some, None, Option}
use Rattle.post.specs.Lanes.{Lane}
use Rattle.rules.specs.Rules.{Setting, State, opened}
use Rattle.rules.specs.Runs.{Answer, Runs, Books, accepted_in_all}
use Rattle.window.specs.Opening.{opened as opened_books}
use Rattle.window.specs.Windows.{setting_of, books_of, Reached, LawfulBooks}
use Rattle.playing.specs.declared.day.Played.{Played}
use Rattle.playing.specs.Tallies.{late_in_all, no_tally}

-- The lot with this number among the accepted ones closed the window: by the rules it was open after the calls before that lot, and closed after it.
pub record ClosingLot (l : Setting) (lots : List ℕ) (answers : List Answer) (number : ℕ) : Type 0 where
  pub before : ℕ
  pub there : before < length lots
  pub open_state : State
  pub open_run : Runs l (opened l) (take before lots) (take before answers) open_state
  pub was_open : open_state.coordinator.is_open ≡ true
  pub closed_state : State
  pub closed_run : Runs l (opened l) (take (before + 1) lots) (take (before + 1) answers) closed_state
  pub is_closed : closed_state.coordinator.is_open ≡ false
  pub counted : number ≡ accepted_in_all (take (before + 1) answers)

-- No lot closed the window, or the one with this number did.
abbrev pub ClosedBy : Setting → List ℕ → List Answer → Books → Option ℕ → Type 0
ClosedBy l lots answers b None = b.is_open ≡ true
ClosedBy l lots answers b (Some n) = (b.is_open ≡ false) × ClosingLot l lots answers n

-- After these lots with these answers: the window is the one that they lead to, and the tally is that of the answers.
pub record DayAt {P : Type 0} (lanes : P → List Lane) (lots : List ℕ) (answers : List Answer) (p : Played P) : Type 0 where
  pub reached : Reached lanes lots answers p.window
  pub accepted : p.tally.accepted ≡ accepted_in_all answers
  pub late : p.tally.late ≡ late_in_all answers
  pub closing : ClosedBy (setting_of p.window) lots answers (books_of lanes p.window) p.tally.closing

-- All the lots of a day were played: there are the answers, and all of this holds with them.
pub record DayPlayed {P : Type 0} (lanes : P → List Lane) (lots : List ℕ) (p : Played P) : Type 0 where
  pub answers : List Answer
  pub day : DayAt lanes lots answers p
  pub lawful : LawfulBooks (setting_of p.window) lots answers (books_of lanes p.window)

-- On a post that was used before, no lot is counted, and nothing is sent.
pub record NoDay {P : Type 0} (post : P) (p : Played P) : Type 0 where
  pub tally : p.tally ≡ no_tally
  pub books : p.window.checked.books ≡ opened_books p.window.checked.books.setting
  pub untouched : p.window.post ≡ post
