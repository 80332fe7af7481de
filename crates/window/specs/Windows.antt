-- What a window shows, and the windows that a run of lot calls leads to. Assumes nothing.
use Rattle.std.specs.Prelude.{◌≡◌, ℕ, ◌-◌, ◌*◌, ◌≤◌, Bool, false, cond, not, ◌||◌, List, map, length, take, Ok, Err, Result, ◌==◌, nat_le, nat_lt, slice_index_or}
use Rattle.fault.specs.Faults.{fault}
use Rattle.fault.specs.declared.Fault.{Fault}
use Rattle.fault.specs.declared.Layer.TheVariants.{Window as InWindow}
use Rattle.fault.specs.declared.Refusal.TheVariants.{NoSuchOfficeOrLane}
use Rattle.ladder.specs.Laws.{SameLadder}
use Rattle.post.specs.Lanes.{Lane, lane, all_sent}
use Rattle.rules.specs.Lists.{sum_to}
use Rattle.rules.specs.Rules.{Setting, State as RulesState, no_account, no_office, opened}
use Rattle.rules.specs.Runs.{Answer, Runs, Books as BooksShown, books, accepted_at, accepted_in_all}
use Rattle.rules.specs.Laws.{ClosesAtCeiling, FollowsFromLots}
use Rattle.window.specs.declared.setting_table.SettingTable.{SettingTable}
use Rattle.window.specs.declared.books.Books.{Books}
use Rattle.window.specs.declared.place.Place.{Place}
use Rattle.window.specs.declared.Window.{Window}
use Rattle.window.specs.Parts.{step_in, is_closed, office, slack}
use Rattle.window.specs.Turns.{State, at}

-- So many offices on a ladder; what a ladder would say past its last step does not count.
abbrev pub setting_for : (offices steps : ℕ) → (ℕ → ℕ) → Setting
setting_for k e slacks = record { offices = k; steps = e; slack = λ j. cond (nat_le j e) (slacks j) 0 }

abbrev pub setting_in : SettingTable → Setting
setting_in t = setting_for t.offices t.steps (slack t)

-- Equally many offices on the same ladder.
pub record SameSetting (l l' : Setting) : Type 0 where
  pub offices : l.offices ≡ l'.offices
  pub ladder : SameLadder l.steps l.slack l'.steps l'.slack

-- The books that a window's records and lanes show.
abbrev pub shown : State → BooksShown
shown s = record {
  step = step_in s.books.coordinator.phase;
  signals = s.books.coordinator.signals;
  is_open = not (is_closed s.books.coordinator.phase);
  messages = all_sent s.lanes;
  credits = map (λ o. o.credit) (take s.books.setting.offices s.books.table);
  remainders = map (λ o. o.remainder) (take s.books.setting.offices s.books.table);
}

-- The state was reached by these lot calls with these answers, from an unused post on, with nothing else done to the window or its post: it is what the rules give.
pub record ReachedBy (lots : List ℕ) (answers : List Answer) (used : Bool) (s : State) : Type 0 where
  pub unused : used ≡ false
  pub after : RulesState
  pub runs : Runs (setting_in s.books.setting) (opened (setting_in s.books.setting)) lots answers after
  pub books : shown s ≡ books after
  pub own_steps : (i : ℕ) → 1 ≤ i → i ≤ s.books.setting.offices → (office s.books (i - 1)).step ≡ (slice_index_or after.offices (i - 1) no_office).own_step
  pub both_ways : length s.lanes ≡ 2 * s.books.setting.offices
  pub up : (i : ℕ) → 1 ≤ i → i ≤ s.books.setting.offices → lane s.lanes (2 * i - 2) ≡ (slice_index_or after.accounts (i - 1) no_account).up
  pub down : (i : ℕ) → 1 ≤ i → i ≤ s.books.setting.offices → lane s.lanes (2 * i - 1) ≡ (slice_index_or after.offices (i - 1) no_office).down

-- In what follows, lanes is what a kind of post means by its lanes.
abbrev pub state_of : {P : Type 0} → (P → List Lane) → Window P → State
state_of lanes w = at w.checked.books (lanes w.post)

abbrev pub setting_of : {P : Type 0} → Window P → Setting
setting_of w = setting_in w.checked.books.setting

abbrev pub books_of : {P : Type 0} → (P → List Lane) → Window P → BooksShown
books_of lanes w = shown (state_of lanes w)

-- What a call leaves beside the books and the lanes: the post came to be what it is, and whether it was used before is as it was.
pub record Kept {P : Type 0} (may_become : P → P → Type 0) (old new : Window P) : Type 0 where
  pub became : may_become old.post new.post
  pub used : new.used ≡ old.used

-- The window was opened on an unused post, and then had exactly these lot calls, refused ones included, with these answers.
abbrev pub Reached : {P : Type 0} → (P → List Lane) → List ℕ → List Answer → Window P → Type 0
Reached lanes lots answers w = ReachedBy lots answers w.used (state_of lanes w)

-- What the accepted lots of a run say of the books; and that the setting and the lots alone settle both the answers and the books.
pub record LawfulBooks (l : Setting) (lots : List ℕ) (answers : List Answer) (b : BooksShown) : Type 0 where
  pub closes : ClosesAtCeiling l (λ i. accepted_at i lots answers) b
  pub follows : FollowsFromLots l (λ i. accepted_at i lots answers) b
  pub in_all : accepted_in_all answers ≡ sum_to l.offices (λ i. accepted_at i lots answers)
  pub settled : (others : List Answer) (end : RulesState) → Runs l (opened l) lots others end → (others ≡ answers) × (books end ≡ b)

-- No lane of any office holds anything.
abbrev pub NothingWaits : List Lane → Type 0
NothingWaits lanes = (i : ℕ) → length (lane lanes i).waiting ≡ 0

-- What a question about office n answers, where v is what was asked for.
abbrev pub asked : {A : Type 0} → ℕ → Books → A → Result A Fault
asked n b v = cond (n == 0 || nat_lt b.setting.offices n) (Err (fault InWindow NoSuchOfficeOrLane n)) (Ok v)

-- The place that an answer names, by its number.
abbrev pub index_of : Result Place Fault → Result ℕ Fault
index_of (Ok p) = Ok p.index
index_of (Err f) = Err f
