-- What the coordinator and the offices write in their records: the words of the inner contracts. Assumes nothing.
use Rattle.std.specs.Prelude.{ℕ, ◌+◌, ◌-◌, ◌*◌, ◌/◌, ◌%◌, ◌≤◌, Bool, true, false, cond, List, Some, None, Option, ◌==◌, nat_le, nat_lt, slice_index, slice_index_or, slice_set}
use Rattle.window.specs.declared.setting_table.SettingTable.{SettingTable}
use Rattle.window.specs.declared.books.Coordinator.{Coordinator}
use Rattle.window.specs.declared.books.OfficeRecord.{OfficeRecord}
use Rattle.window.specs.declared.books.Books.{Books}
use Rattle.window.specs.declared.books.Phase.{Phase}
use Rattle.window.specs.declared.books.Phase.TheVariants.{Open, Closed}
use Rattle.window.specs.declared.message.Message.{Message}
use Rattle.window.specs.declared.message.Message.TheVariants.{Signal, Start, Close}

-- What a byte says, if anything: its kind is the byte over 32, its step what is left.
abbrev pub message : ℕ → Option Message
message b = cond (b / 32 == 1) (Some (Signal (b % 32))) (cond (b / 32 == 2) (Some (Start (b % 32))) (cond (b / 32 == 3) (Some (Close (b % 32))) None))

-- The byte of a message.
abbrev pub byte_of : Message → ℕ
byte_of (Signal j) = 32 + j
byte_of (Start j) = 64 + j
byte_of (Close j) = 96 + j

-- The coordinator's step, and whether the window closed at it.
abbrev pub step_in : Phase → ℕ
step_in (Open j) = j
step_in (Closed j) = j

abbrev pub is_closed : Phase → Bool
is_closed (Open j) = false
is_closed (Closed j) = true

abbrev pub no_office : OfficeRecord
no_office = record { step = 0; credit = 0; remainder = 0 }

-- The record of the office at place i, counted from 0.
abbrev pub office : Books → ℕ → OfficeRecord
office b i = slice_index_or b.table i no_office

abbrev pub slack : SettingTable → ℕ → ℕ
slack t j = slice_index t.slacks j

-- So many signals finish step j.
abbrev pub quota : SettingTable → ℕ → ℕ
quota t j = t.offices * (slack t (j - 1) / slack t j - 1)

-- A credit is within what the steps so far and the signals let it be.
abbrev pub Paid : SettingTable → Coordinator → OfficeRecord → Type 0
Paid t h o = o.credit + t.offices * slack t (step_in h.phase - 1) ≤ t.offices * slack t 0 + h.signals * slack t (step_in h.phase)

-- The books once the coordinator has heard a message, and what it tells all offices, if anything.
pub record Heard : Type 0 where
  pub books : Books
  pub reply : Option Message

abbrev pub heard_of : Books → Option Message → Heard
heard_of b r = record { books = b; reply = r }

-- The table with one slack more in the credit of office i.
abbrev pub credited : Books → ℕ → List OfficeRecord
credited b i = slice_set b.table i (record { step = (office b i).step; credit = (office b i).credit + slack b.setting (step_in b.coordinator.phase); remainder = (office b i).remainder })

abbrev pub in_coordinator : Books → ℕ → Coordinator → Books
in_coordinator b i h = record { setting = b.setting; coordinator = h; table = credited b i }

-- A signal of the coordinator's step from office i: counted and credited, it finishes the step or not.
unfoldable pub signalled : ℕ → Books → Heard
signalled i b =
    cond (b.coordinator.signals + 1 == quota b.setting (step_in b.coordinator.phase))
    (cond (nat_lt (step_in b.coordinator.phase) b.setting.steps)
    (heard_of (in_coordinator b i (record { phase = Open (step_in b.coordinator.phase + 1); signals = 0 })) (Some (Start (step_in b.coordinator.phase + 1))))
    (heard_of (in_coordinator b i (record { phase = Closed (step_in b.coordinator.phase); signals = b.coordinator.signals + 1 })) (Some (Close (step_in b.coordinator.phase)))))
    (heard_of (in_coordinator b i (record { phase = Open (step_in b.coordinator.phase); signals = b.coordinator.signals + 1 })) None)

-- Anything but a signal of the step that is open is passed over.
abbrev pub heard : ℕ → Option Message → Books → Heard
heard i (Some (Signal j)) b = cond (is_closed b.coordinator.phase) (heard_of b None) (cond (j == step_in b.coordinator.phase) (signalled i b) (heard_of b None))
heard i (Some (Start j)) b = heard_of b None
heard i (Some (Close j)) b = heard_of b None
heard i None b = heard_of b None

-- The books once an office has followed a message, and how many signals it owes.
pub record Followed : Type 0 where
  pub books : Books
  pub signals : ℕ

abbrev pub followed_of : Books → ℕ → Followed
followed_of b n = record { books = b; signals = n }

abbrev pub in_office : Books → ℕ → OfficeRecord → Books
in_office b i o = record { setting = b.setting; coordinator = b.coordinator; table = slice_set b.table i o }

-- Office i moves to its next step.
unfoldable pub moved : ℕ → Books → Followed
moved i b =
    followed_of
    (in_office b i (record { step = (office b i).step + 1; credit = (office b i).credit; remainder = (office b i).remainder % slack b.setting ((office b i).step + 1) }))
    ((office b i).remainder / slack b.setting ((office b i).step + 1))

-- Anything but the start of the office's next step is passed over.
abbrev pub followed : ℕ → Option Message → Books → Followed
followed i (Some (Start j)) b = cond (j == (office b i).step + 1) (cond (nat_le j b.setting.steps) (moved i b) (followed_of b 0)) (followed_of b 0)
followed i (Some (Signal j)) b = followed_of b 0
followed i (Some (Close j)) b = followed_of b 0
followed i None b = followed_of b 0

-- A lot at office i: whether its remainder fills a slack.
abbrev pub due : ℕ → Books → Bool
due i b = (office b i).remainder + 1 == slack b.setting (office b i).step

abbrev pub counted : ℕ → Books → Books
counted i b = in_office b i (record { step = (office b i).step; credit = (office b i).credit; remainder = cond (due i b) 0 ((office b i).remainder + 1) })
